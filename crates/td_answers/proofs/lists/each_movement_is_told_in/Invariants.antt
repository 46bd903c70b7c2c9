use Rattle.std.proofs.Common.{All, take}
use Rattle.td_answers.specs.Objects.{IsMovementTold}
use Rattle.td_answers.proofs.lists.each_movement_is_told_in.Given as goal

-- it holds of the movements before
abbrev pub invariant-loop-movement : goal.invariant-loop-movement
invariant-loop-movement l = All IsMovementTold (take l.movement-index l.movements)
