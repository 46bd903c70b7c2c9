-- What a call leaves that has only looked at a desk.
use Rattle.std.specs.Prelude.{◌≡◌, Bool, IsTrue}
use Rattle.td_desk.specs.View.{AddsAtMost, DeskView, IsSettled}

-- The desk is as it was; where the call ended well it is live, and so it was; and a crash leaves what it could leave before.
pub record HasLooked {D : Type 0} (view : DeskView D) (well : Bool) (old new : D) : Type 0 where
  pub clean : view.is_clean new → view.is_clean old
  pub live : view.is_clean new → view.is_live new → view.is_live old
  pub shown : view.is_clean new → IsTrue well → view.is_live old × view.is_live new
  pub same : view.is_clean new → view.is_live new → view.content new ≡ view.content old
  pub crash : view.is_clean new → AddsAtMost view (λ _. ⊥) old new
  pub settled : view.is_clean new → IsSettled view new
