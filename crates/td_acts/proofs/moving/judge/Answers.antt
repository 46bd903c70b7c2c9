use Rattle.std.proofs.Common.{refl, ◌∙◌, ap}
use Rattle.td_movement.specs.declared.movement.Movement.{Movement}
use Rattle.td_movement.specs.declared.moves.Move.TheVariants.{Judge}
use Rattle.td_commands.specs.declared.command.Command.TheVariants.{Ie018}
use Rattle.td_model.specs.declared.change.Change.TheVariants.{Moved}
use Rattle.td_commands.specs.declared.said.Answer.TheVariants as answer
use Rattle.td_commands.specs.declared.said.Refusal.TheVariants.{NoMovement}
use Rattle.td_commands.specs.declared.said.Said.{Said}
use Rattle.td_commands.specs.declared.said.Said.TheVariants.{Answered}
use Rattle.td_model.specs.Account.{movement_by_mrn}
use Rattle.td_acts.specs.Deciding.{touched}
use Rattle.td_model.specs.Changes.{new_state}
use Rattle.td_model.specs.Effects.{judged}
use Rattle.td_model.proofs.EachMove.{judged_from}
use Rattle.td_acts.proofs.Told.{on_status, told_moved, told_unmoving}
use Rattle.td_acts.proofs.moving.judge.Goals as goal

pub returns-in-Ok : goal.returns-in-Ok
returns-in-Ok c = λ account loaded.
    let a = c.args in
    let moving = c.in-Ok.moving in
    let m = moving.movement.now in
    let state = (judged_from m.state moving.state a.control c.in-Ok.ensures.state).0 in
    let said_of : Movement → Said = λ (m : Movement). Answered (answer.Ie018 m.mrn (judged a.control)) in
    told_moved account a.loaded.now.holder (movement_by_mrn a.mrn.now a.loaded.now.movements.items) a.at (Ie018 a.mrn.now a.control) NoMovement a.mrn.now (Judge a.control)
    said_of moving.row m (answer.Ie018 m.mrn (judged a.control)) (new_state a.mrn.now (judged a.control)) c.verdict.result
    loaded.holder
    (on_status NoMovement account.holder a.at (movement_by_mrn a.mrn.now a.loaded.now.movements.items) (movement_by_mrn a.mrn.now account.movements) (Judge a.control) said_of (λ m. refl) loaded.things)
    c.in-Ok.ensures.row (c.in-Ok.ensures.said _) refl
    (c.verdict.ensures.said ∙ ap (λ s. Answered (answer.Ie018 m.mrn s)) state)
    (c.verdict.ensures.change ∙ ap (λ s. Moved (touched moving.row a.at) s) (c.of.ensures ∙ ap (new_state a.mrn.now) state))
    refl refl refl refl

pub returns-in-Err : goal.returns-in-Err
returns-in-Err c = λ account loaded.
    let a = c.args in
    let said_of : Movement → Said = λ (m : Movement). Answered (answer.Ie018 m.mrn (judged a.control)) in
    told_unmoving account a.loaded.now.holder (movement_by_mrn a.mrn.now a.loaded.now.movements.items) a.at (Ie018 a.mrn.now a.control) NoMovement a.mrn.now (Judge a.control) said_of
    c.in-Err.why c.refused.result
    loaded.holder
    (on_status NoMovement account.holder a.at (movement_by_mrn a.mrn.now a.loaded.now.movements.items) (movement_by_mrn a.mrn.now account.movements) (Judge a.control) said_of (λ m. refl) loaded.things)
    (c.in-Err.ensures.said _) c.refused.ensures.said c.refused.ensures.change refl
