use Rattle.std.proofs.Common.{◌≡◌, take}
use Rattle.td_acts.proofs.rows.copy_movements.Given as goal

-- the movements so far
abbrev pub invariant-loop-movement : goal.invariant-loop-movement
invariant-loop-movement l = l.items.items ≡ take l.movement-index l.movements
