use Rattle.std.proofs.Common.{refl, ◌∙◌, ap}
use Rattle.td_movement.specs.declared.movement.Movement.{Movement}
use Rattle.td_movement.specs.declared.moves.Move.TheVariants.{Arrive}
use Rattle.td_commands.specs.declared.command.Command.TheVariants.{Ie007}
use Rattle.td_commands.specs.declared.said.Answer.TheVariants as answer
use Rattle.td_commands.specs.declared.said.Refusal.TheVariants.{NoMovement}
use Rattle.td_commands.specs.declared.said.Said.{Said}
use Rattle.td_commands.specs.declared.said.Said.TheVariants.{Answered}
use Rattle.td_model.specs.Account.{movement_by_mrn}
use Rattle.td_model.specs.Changes.{new_state}
use Rattle.td_base.specs.Days.{day_of_moment}
use Rattle.td_movement.specs.declared.state.State.TheVariants.{Arrived}
use Rattle.td_model.specs.Table.{is_late}
use Rattle.std.specs.Prelude.{Some}
use Rattle.td_model.proofs.EachMove.{arrived_from}
use Rattle.td_acts.proofs.Told.{on_status, told_moved, told_unmoving}
use Rattle.td_acts.proofs.moving.arrive.Goals as goal

pub returns-in-Ok : goal.returns-in-Ok
returns-in-Ok c = λ account loaded.
    let a = c.args in
    let moving = c.in-Ok.moving in
    let m = moving.movement.now in
    let day = day_of_moment a.at in
    let state = (arrived_from m.state moving.state c.in-Ok.ensures.state).0 in
    let said_of : Movement → Said = λ (m : Movement). Answered (answer.Ie006 (is_late m.limit day) m.mrn) in
    told_moved account a.loaded.now.holder (movement_by_mrn a.mrn.now a.loaded.now.movements.items) a.at (Ie007 a.mrn.now a.office) NoMovement a.mrn.now Arrive
    said_of moving.row m (answer.Ie006 (is_late m.limit day) m.mrn)
    (record (new_state a.mrn.now Arrived) { arrival = Some day; actual = Some a.office }) c.verdict.result
    loaded.holder
    (on_status NoMovement account.holder a.at (movement_by_mrn a.mrn.now a.loaded.now.movements.items) (movement_by_mrn a.mrn.now account.movements) Arrive said_of (λ m. refl) loaded.things)
    c.in-Ok.ensures.row (c.in-Ok.ensures.said _) refl
    (c.verdict.ensures.said ∙ ap (λ b. Answered (answer.Ie006 b m.mrn)) (c.is_late.ensures ∙ ap (is_late m.limit) c.of_moment-day.ensures))
    (c.verdict.ensures.change ∙ rw (c.of.ensures, c.of_moment-day.ensures, state) refl)
    refl refl refl refl

pub returns-in-Err : goal.returns-in-Err
returns-in-Err c = λ account loaded.
    let a = c.args in
    let day = day_of_moment a.at in
    let said_of : Movement → Said = λ (m : Movement). Answered (answer.Ie006 (is_late m.limit day) m.mrn) in
    told_unmoving account a.loaded.now.holder (movement_by_mrn a.mrn.now a.loaded.now.movements.items) a.at (Ie007 a.mrn.now a.office) NoMovement a.mrn.now Arrive said_of
    c.in-Err.why c.refused.result
    loaded.holder
    (on_status NoMovement account.holder a.at (movement_by_mrn a.mrn.now a.loaded.now.movements.items) (movement_by_mrn a.mrn.now account.movements) Arrive said_of (λ m. refl) loaded.things)
    (c.in-Err.ensures.said _) c.refused.ensures.said c.refused.ensures.change refl
