use Rattle.std.proofs.Common.{◌≡◌, ◌++◌, map, take, drop}
use Rattle.td_model.specs.Changes.{moved}
use Rattle.td_holder_memory.proofs.changes.put_status.Given as goal

-- those before are in their states, and the others as they were
abbrev pub invariant-loop-movement : goal.invariant-loop-movement
invariant-loop-movement l = l.movements ≡ map (moved l.status) (take l.movement-index l.initial.movements) ++ drop l.movement-index l.initial.movements
