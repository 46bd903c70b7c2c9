use Rattle.std.proofs.Common.{◌≡◌, true, false, refl, sym, ◌∙◌, ap, ℕ, subst}
use Rattle.std.specs.Prelude.{not, option_map, Some, IfSome}
use Rattle.td_base.specs.Days.{day_of_moment}
use Rattle.td_movement.specs.declared.movement.Movement.{Movement}
use Rattle.td_movement.specs.declared.moves.Move.TheVariants.{Release}
use Rattle.td_movement.specs.declared.state.State.TheVariants.{Released}
use Rattle.td_commands.specs.declared.command.Command.TheVariants.{Ie029}
use Rattle.td_commands.specs.declared.said.Answer.TheVariants as answer
use Rattle.td_commands.specs.declared.said.Refusal.TheVariants.{NoMovement, LimitDate}
use Rattle.td_commands.specs.declared.said.Said.TheVariants.{Answered}
use Rattle.td_model.specs.Account.{movement_by_mrn, entry_in, Account}
use Rattle.td_model.specs.Changes.{new_state}
use Rattle.td_model.specs.Declaring.{is_limit, first_uncovered}
use Rattle.td_model.specs.Table.{refuse_if, if_not_refused}
use Rattle.std.specs.List.{AllByRecursion}
use Rattle.td_acts.specs.Deciding.{entry_by_grn, terms_alone}
use Rattle.td_commands.specs.declared.said.Said.{Said}
use Rattle.td_acts.proofs.Covering.{same_uncovered}
use Rattle.td_model.proofs.EachMove.{released_from}
use Rattle.td_acts.proofs.Told.{on_whole, told_moved, told_unmoved}
use Rattle.td_acts.proofs.releasing.release.Goals as goal

-- what is said of a movement that may be released
abbrev said_of : Account → ℕ → ℕ → Movement → Said
said_of account day limit m = refuse_if LimitDate (not (is_limit day limit)) (if_not_refused (first_uncovered day (entry_in account) m.lines) (Answered (answer.Ie029 limit m.mrn)))

pub returns-then-not-is_limit : goal.returns-then-not-is_limit
returns-then-not-is_limit c = λ account loaded.
    let a = c.args in
    let m = c.in-Ok.moving.movement.now in
    let day = day_of_moment a.at in
    let limit : is_limit day a.limit ≡ false = sym (c.is_limit.ensures ∙ ap (λ d. is_limit d a.limit) c.of_moment-day.ensures) ∙ c.if-not-is_limit.true in
    told_unmoved account a.loaded.now.holder (movement_by_mrn a.mrn.now a.loaded.now.movements.items) a.at (Ie029 a.mrn.now a.limit) NoMovement a.mrn.now Release
    (said_of account day a.limit) m LimitDate c.refused-then-not-is_limit.result
    loaded.holder
    (on_whole NoMovement account.holder a.at (movement_by_mrn a.mrn.now a.loaded.now.movements.items) (movement_by_mrn a.mrn.now account.movements) Release (said_of account day a.limit) loaded.things.0)
    (c.in-Ok.ensures.said _) (rw limit refl)
    c.refused-then-not-is_limit.ensures.said c.refused-then-not-is_limit.ensures.change refl

pub returns-in-Some : goal.returns-in-Some
returns-in-Some c = λ account loaded.
    let a = c.args in
    let m = c.in-Ok.moving.movement.now in
    let day = day_of_moment a.at in
    let limit : is_limit day a.limit ≡ true = sym (c.is_limit.ensures ∙ ap (λ d. is_limit d a.limit) c.of_moment-day.ensures) ∙ c.if-not-is_limit.false in
    let entries = subst (λ o. IfSome o (λ m. AllByRecursion (λ l. entry_by_grn l.grn a.loaded.now.guarantees.items ≡ option_map terms_alone (entry_in account l.grn)) m.lines)) (sym loaded.things.0 ∙ c.in-Ok.ensures.found) loaded.things.1 in
    let lines = sym (same_uncovered day (λ grn. entry_by_grn grn a.loaded.now.guarantees.items) (entry_in account) m.lines entries)
    ∙ sym (rw (c.of_moment-day.ensures, c.deref.ensures.value, c.as_slice-lines.ensures) at c.find_uncovered.ensures) ∙ c.in-Some.is in
    told_unmoved account a.loaded.now.holder (movement_by_mrn a.mrn.now a.loaded.now.movements.items) a.at (Ie029 a.mrn.now a.limit) NoMovement a.mrn.now Release
    (said_of account day a.limit) m c.in-Some.why c.refused-in-Some.result
    loaded.holder
    (on_whole NoMovement account.holder a.at (movement_by_mrn a.mrn.now a.loaded.now.movements.items) (movement_by_mrn a.mrn.now account.movements) Release (said_of account day a.limit) loaded.things.0)
    (c.in-Ok.ensures.said _) (rw (limit, lines) refl)
    c.refused-in-Some.ensures.said c.refused-in-Some.ensures.change refl

pub returns-in_default : goal.returns-in_default
returns-in_default c = λ account loaded.
    let a = c.args in
    let moving = c.in-Ok.moving in
    let m = moving.movement.now in
    let day = day_of_moment a.at in
    let state = (released_from m.state moving.state c.in-Ok.ensures.state).0 in
    let limit : is_limit day a.limit ≡ true = sym (c.is_limit.ensures ∙ ap (λ d. is_limit d a.limit) c.of_moment-day.ensures) ∙ c.if-not-is_limit.false in
    let entries = subst (λ o. IfSome o (λ m. AllByRecursion (λ l. entry_by_grn l.grn a.loaded.now.guarantees.items ≡ option_map terms_alone (entry_in account l.grn)) m.lines)) (sym loaded.things.0 ∙ c.in-Ok.ensures.found) loaded.things.1 in
    let lines = sym (same_uncovered day (λ grn. entry_by_grn grn a.loaded.now.guarantees.items) (entry_in account) m.lines entries)
    ∙ sym (rw (c.of_moment-day.ensures, c.deref.ensures.value, c.as_slice-lines.ensures) at c.find_uncovered.ensures) ∙ c.in_default.is in
    told_moved account a.loaded.now.holder (movement_by_mrn a.mrn.now a.loaded.now.movements.items) a.at (Ie029 a.mrn.now a.limit) NoMovement a.mrn.now Release
    (said_of account day a.limit) moving.row m (answer.Ie029 a.limit m.mrn) (record (new_state a.mrn.now Released) { limit = Some a.limit }) c.verdict.result
    loaded.holder
    (on_whole NoMovement account.holder a.at (movement_by_mrn a.mrn.now a.loaded.now.movements.items) (movement_by_mrn a.mrn.now account.movements) Release (said_of account day a.limit) loaded.things.0)
    c.in-Ok.ensures.row (c.in-Ok.ensures.said _) (rw (limit, lines) refl)
    c.verdict.ensures.said
    (c.verdict.ensures.change ∙ rw (c.of.ensures, state) refl)
    refl refl refl refl
