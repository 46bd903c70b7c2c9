-- What a desk did to the row that it redid.
use Rattle.std.proofs.Common.{◌≡◌, ◌≢◌, ◌⊎◌, ℕ, Bool, true, List, None, Ok, subst, inl, inr}
use Rattle.td_commands.specs.declared.command.Stamped.{Stamped}
use Rattle.td_commands.specs.declared.said.Said.{Said}
use Rattle.td_model.specs.declared.change.Change.{Change}
use Rattle.td_model.specs.declared.change.Change.TheVariants as change
use Rattle.td_acts.specs.declared.rows.Verdict.{Verdict}
use Rattle.td_model.specs.Changes.{is_change}
use Rattle.td_model.specs.Machine.{is_accepted}
use Rattle.td_model.specs.Content.{Content, IsSound}
use Rattle.td_desk.specs.Runs.{LeavesAfter}
use Rattle.td_desk.specs.View.{AddsAtMost, DeskView}
use Rattle.td_acts.specs.Weighing.{IsWeighed, owner_account}
use Rattle.td_redo.specs.Endings.{IsRedoneAs, IsEndingFor, IsRedoneBy}
use Rattle.td_redo.specs.Redo.{said_over}
use Rattle.td_redo.specs.declared.redoing.Redone.{Redone}
use Rattle.td_redo.specs.declared.redoing.Redone.TheVariants.{Carried, Stands, Foreign}

-- the ending that a decision leads to is the content's
ending_over : (ending : Redone) (old : Content) (s : Stamped) (v : Verdict) (reply : List ℕ) → IsWeighed old s.at s.command v
    → IsEndingFor ending s.command reply (is_change v.change) v.said
    → IsEndingFor ending s.command reply (is_accepted (owner_account old s.command) s.at s.command) (said_over old s)
ending_over ending old s v reply weighed is =
    subst (λ (b : Bool). IsEndingFor ending s.command reply b (said_over old s)) weighed.changes
    (subst (λ (w : Said). IsEndingFor ending s.command reply (is_change v.change) w) weighed.said is)

-- a row that isn't carried
abbrev pub IsWaived : Redone → Type 0
IsWaived ending = (ending ≡ Stands) ⊎ (ending ≡ Foreign)

pub row_left : (ending : Redone) (old mid : Content) (s : Stamped) (v : Verdict) (reply : List ℕ) → IsWaived ending → IsWeighed old s.at s.command v
    → IsEndingFor ending s.command reply (is_change v.change) v.said → mid ≡ old → IsRedoneAs ending s reply old mid
row_left Carried old mid s v reply (inl other) weighed is stays = cc
row_left Carried old mid s v reply (inr other) weighed is stays = cc
row_left Stands old mid s v reply waived weighed is stays = (ending_over Stands old s v reply weighed is, stays)
row_left Foreign old mid s v reply waived weighed is stays = (ending_over Foreign old s v reply weighed is, stays)

pub row_weighed : {D : Type 0} (view : DeskView D) (ending : Redone) (old new : D) (s : Stamped) → IsWaived ending → view.weighed old s None new
    → IsRedoneBy view old s (Ok ending) new
row_weighed view Carried old new s (inl other) weighed = cc
row_weighed view Carried old new s (inr other) weighed = cc
row_weighed view Stands old new s waived weighed = weighed
row_weighed view Foreign old new s waived weighed = weighed

-- what a crash may leave of a row that was carried, or that was to be
pub adds_row : {D : Type 0} (view : DeskView D) (old new : D) (s : Stamped) (v : Verdict) (reply : List ℕ)
    → (IsSound (view.content old) → IsWeighed (view.content old) s.at s.command v) → IsEndingFor Carried s.command reply (is_change v.change) v.said
    → LeavesAfter view old s true new
    → AddsAtMost view (λ x. view.is_live old × (IsSound (view.content old) → IsRedoneAs Carried s reply (view.content old) x)) old new
adds_row view old new s v reply decided is leaves = record {
  outcomes = λ x left. elim (leaves.outcomes x left) [
    | inl before ↦ inl before
    | inr added ↦ inr (added.0, λ sound. (ending_over Carried (view.content old) s v reply (decided sound) is, added.1 sound))
  ];
  recovers = leaves.recovers;
}

pub is_something : (c : Change) → is_change c ≡ true → c ≢ change.Nothing
is_something c is none = cc
