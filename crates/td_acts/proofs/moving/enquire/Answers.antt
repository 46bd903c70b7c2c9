use Rattle.std.proofs.Common.{refl, sym, ◌∙◌, ap}
use Rattle.td_movement.specs.declared.movement.Movement.{Movement}
use Rattle.td_movement.specs.declared.moves.Move.TheVariants.{Enquire}
use Rattle.td_commands.specs.declared.command.Command.TheVariants.{Ie140}
use Rattle.td_model.specs.declared.change.Change.TheVariants.{Moved}
use Rattle.td_commands.specs.declared.said.Answer.TheVariants as answer
use Rattle.td_commands.specs.declared.said.Refusal.TheVariants.{NoMovement, TooEarly}
use Rattle.td_commands.specs.declared.said.Said.{Said}
use Rattle.td_commands.specs.declared.said.Said.TheVariants.{Answered}
use Rattle.td_model.specs.Account.{movement_by_mrn}
use Rattle.td_acts.specs.Deciding.{touched}
use Rattle.td_model.specs.Changes.{new_state}
use Rattle.td_base.specs.Days.{day_of_moment}
use Rattle.td_movement.specs.declared.state.State.TheVariants.{Enquired}
use Rattle.td_model.specs.Table.{may_be_asked_after, refuse_if}
use Rattle.std.specs.Prelude.{not}
use Rattle.td_model.proofs.EachMove.{enquired_from}
use Rattle.td_acts.proofs.Told.{on_status, told_moved, told_unmoved, told_unmoving}
use Rattle.td_acts.proofs.moving.enquire.Goals as goal

pub returns-else-not-may_be_asked_after : goal.returns-else-not-may_be_asked_after
returns-else-not-may_be_asked_after c = λ account loaded.
    let a = c.args in
    let moving = c.in-Ok.moving in
    let m = moving.movement.now in
    let day = day_of_moment a.at in
    let state = (enquired_from m.state moving.state c.in-Ok.ensures.state).0 in
    let said_of : Movement → Said = λ (m : Movement). refuse_if TooEarly (not (may_be_asked_after m.limit day)) (Answered (answer.Ie140 m.mrn)) in
    told_moved account a.loaded.now.holder (movement_by_mrn a.mrn.now a.loaded.now.movements.items) a.at (Ie140 a.mrn.now) NoMovement a.mrn.now Enquire
    said_of moving.row m (answer.Ie140 m.mrn)
    (new_state a.mrn.now Enquired) c.verdict.result
    loaded.holder
    (on_status NoMovement account.holder a.at (movement_by_mrn a.mrn.now a.loaded.now.movements.items) (movement_by_mrn a.mrn.now account.movements) Enquire said_of (λ m. refl) loaded.things)
    c.in-Ok.ensures.row (c.in-Ok.ensures.said _)
    (ap (λ b. refuse_if TooEarly b (Answered (answer.Ie140 m.mrn))) (ap not (sym (c.may_be_asked_after.ensures ∙ ap (may_be_asked_after m.limit) c.of_moment.ensures) ∙ c.if-not-may_be_asked_after.false)))
    c.verdict.ensures.said
    (c.verdict.ensures.change ∙ ap (λ s. Moved (touched moving.row a.at) s) (c.of.ensures ∙ ap (new_state a.mrn.now) state))
    refl refl refl refl

pub returns-then-not-may_be_asked_after : goal.returns-then-not-may_be_asked_after
returns-then-not-may_be_asked_after c = λ account loaded.
    let a = c.args in
    let m = c.in-Ok.moving.movement.now in
    let day = day_of_moment a.at in
    let said_of : Movement → Said = λ (m : Movement). refuse_if TooEarly (not (may_be_asked_after m.limit day)) (Answered (answer.Ie140 m.mrn)) in
    told_unmoved account a.loaded.now.holder (movement_by_mrn a.mrn.now a.loaded.now.movements.items) a.at (Ie140 a.mrn.now) NoMovement a.mrn.now Enquire said_of m TooEarly
    c.refused-then-not-may_be_asked_after.result
    loaded.holder
    (on_status NoMovement account.holder a.at (movement_by_mrn a.mrn.now a.loaded.now.movements.items) (movement_by_mrn a.mrn.now account.movements) Enquire said_of (λ m. refl) loaded.things)
    (c.in-Ok.ensures.said _)
    (ap (λ b. refuse_if TooEarly b (Answered (answer.Ie140 m.mrn))) (ap not (sym (c.may_be_asked_after.ensures ∙ ap (may_be_asked_after m.limit) c.of_moment.ensures) ∙ c.if-not-may_be_asked_after.true)))
    c.refused-then-not-may_be_asked_after.ensures.said c.refused-then-not-may_be_asked_after.ensures.change refl

pub returns-in-Err : goal.returns-in-Err
returns-in-Err c = λ account loaded.
    let a = c.args in
    let day = day_of_moment a.at in
    let said_of : Movement → Said = λ (m : Movement). refuse_if TooEarly (not (may_be_asked_after m.limit day)) (Answered (answer.Ie140 m.mrn)) in
    told_unmoving account a.loaded.now.holder (movement_by_mrn a.mrn.now a.loaded.now.movements.items) a.at (Ie140 a.mrn.now) NoMovement a.mrn.now Enquire said_of
    c.in-Err.why c.refused.result
    loaded.holder
    (on_status NoMovement account.holder a.at (movement_by_mrn a.mrn.now a.loaded.now.movements.items) (movement_by_mrn a.mrn.now account.movements) Enquire said_of (λ m. refl) loaded.things)
    (c.in-Err.ensures.said _) c.refused.ensures.said c.refused.ensures.change refl
