-- What a crash leaves after a command that was weighed, and perhaps carried.
use Rattle.std.proofs.Common.{◌≡◌, ◌≢◌, ◌∙◌, Bool, true, false, sym, ap, subst, inl, inr, refl}
use Rattle.td_model.specs.declared.change.Change.{Change}
use Rattle.td_model.specs.declared.change.Change.TheVariants as change
use Rattle.td_acts.specs.declared.rows.Verdict.{Verdict}
use Rattle.td_model.specs.Changes.{is_change}
use Rattle.td_commands.specs.declared.command.Stamped.{Stamped}
use Rattle.td_commands.specs.Commands.{IsProper}
use Rattle.td_model.specs.Content.{Content, content_after, IsSound}
use Rattle.td_desk.specs.Runs.{LeavesAfter}
use Rattle.td_desk.specs.View.{AddsAtMost, DeskView, IsSettled}
use Rattle.td_acts.specs.Weighing.{IsWeighed, Carries}
use Rattle.td_acts.proofs.Carrying.{carries}

-- a change that is one is not nothing, and one that is none is
is_no_nothing : (c : Change) → is_change c ≡ true → c ≢ change.Nothing
is_no_nothing c is none = cc

is_nothing : (c : Change) → is_change c ≡ false → c ≡ change.Nothing
is_nothing change.Nothing none = refl
is_nothing (change.Registered row) none = cc
is_nothing (change.Opened row guarantee) none = cc
is_nothing (change.Declared row movement) none = cc
is_nothing (change.Moved row status) none = cc
is_nothing (change.TermsSet row terms) none = cc
is_nothing (change.CodeAdded row grn code) none = cc
is_nothing (change.CodeRemoved row grn code) none = cc

-- what adds nothing adds at most anything
pub adds_more : {D : Type 0} (view : DeskView D) (added : Content → Type 0) (old new : D) → AddsAtMost view (λ _. ⊥) old new → AddsAtMost view added old new
adds_more view added old new adds = record {
  outcomes = λ x left. elim (adds.outcomes x left) [ inl before ↦ inl before | inr none ↦ absurd none ];
  recovers = adds.recovers;
}

-- a desk that is the very same adds nothing
pub adds_none : {D : Type 0} (view : DeskView D) (d : D) → AddsAtMost view (λ _. ⊥) d d
adds_none view d = record { outcomes = λ x left. inl left; recovers = λ is. is }

module _ {D : Type 0} (view : DeskView D) (old weighed new : D) (s : Stamped) (d : Verdict)
    (weighing : AddsAtMost view (λ _. ⊥) old weighed) (decided : IsSound (view.content old) → IsWeighed (view.content old) s.at s.command d) where
  -- a decision that wasn't carried to its end
  pub left_failed : IsProper s.command → (view.is_live weighed → view.is_live old)
      → (view.is_live weighed → view.content weighed ≡ view.content old)
      → AddsAtMost view (λ x. view.is_live weighed × (x ≡ content_after d.change (view.content weighed))) weighed new
      → LeavesAfter view old s true new
  left_failed proper live same carrying =
      let after : IsSound (view.content old) → Carries (view.content old) s (content_after d.change (view.content old)) =
      (λ sound. rw (decided sound).written (carries (view.content old) s sound proper)) in
      record {
        outcomes = λ x left. elim (carrying.outcomes x left) [
          | inl before ↦ elim (weighing.outcomes x before) [ inl first ↦ inl first | inr none ↦ absurd none ]
          | inr added ↦ inr (
            live added.0,
            λ sound. subst (Carries (view.content old) s) (sym (added.1 ∙ ap (content_after d.change) (same added.0))) (after sound),
          )
        ];
        recovers = λ is. carrying.recovers (weighing.recovers is);
      }

  -- one that was
  pub left_said : view.is_live new → (d.change ≢ change.Nothing → IsSettled view new) → (d.change ≡ change.Nothing → new ≡ weighed)
      → LeavesAfter view old s false new
  left_said live settled still = λ sound. (
    λ accepted. settled (is_no_nothing d.change ((decided sound).changes ∙ accepted)) live,
    λ refused. subst (AddsAtMost view (λ _. ⊥) old) (sym (still (is_nothing d.change ((decided sound).changes ∙ refused)))) weighing,
  )

-- a decision that was carried leaves a settled desk, whether it changed something or not
pub settled_said : {D : Type 0} (view : DeskView D) (weighed new : D) (c : Change) → IsSettled view weighed → (c ≢ change.Nothing → IsSettled view new)
    → (c ≡ change.Nothing → new ≡ weighed) → IsSettled view new
settled_said view weighed new c before settled still = by_change (is_change c) refl
  where
    by_change : (b : Bool) → is_change c ≡ b → IsSettled view new
    by_change true is = settled (is_no_nothing c is)
    by_change false is = subst (IsSettled view) (sym (still (is_nothing c is))) before
