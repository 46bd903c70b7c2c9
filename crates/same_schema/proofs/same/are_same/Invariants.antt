use Rattle.std.proofs.Common.{◌≡◌, length, take}
use Rattle.same_schema.proofs.same.are_same.Given as goal

abbrev pub invariant-loop-at : goal.invariant-loop-at
invariant-loop-at g l = (length l.these ≡ length l.others) × (take l.at l.these ≡ take l.at l.others)
