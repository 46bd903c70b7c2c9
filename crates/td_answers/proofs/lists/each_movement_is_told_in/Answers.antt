use Rattle.std.proofs.Common.{get_or, sym}
use Rattle.std.proofs.lemmas.List.{take_all}
use Rattle.std.proofs.lemmas.List.Elements.{All-more, All-nil, All-same}
use Rattle.td_answers.specs.Objects.{IsMovementTold}
use Rattle.td_answers.proofs.lists.each_movement_is_told_in.Goals as goal

pub loop-movement-init : goal.loop-movement-init
loop-movement-init c = All-nil IsMovementTold

pub loop-movement-preserved : goal.loop-movement-preserved
loop-movement-preserved c =
    let here : IsMovementTold (get_or c.args.movements.now c.loop-movement.movement-index c.movement-item.result) = rw (← c.movement-item.is) c.listed_movement_is_told_in.ensures in
    All-more IsMovementTold c.args.movements.now c.loop-movement.movement-index c.movement-item.result c.loop-movement-test.true c.loop-movement.invariant here

pub returns : goal.returns
returns c =
    All-same IsMovementTold c.args.movements.now _ (sym (take_all c.loop-movement.movement-index c.args.movements.now c.loop-movement-test.false)) c.loop-movement.invariant
