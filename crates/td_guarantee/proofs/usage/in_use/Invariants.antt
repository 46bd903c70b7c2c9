use Rattle.std.proofs.Common.{◌≡◌, ◌+◌, drop}
use Rattle.td_base.specs.Money.{IsCents}
use Rattle.td_guarantee.specs.Usage.{used_on}
use Rattle.td_guarantee.proofs.usage.in_use.Given as goal

-- what is in use by the movements so far, and by those to come, is what is in use by all
abbrev pub invariant-loop-movement : goal.invariant-loop-movement
invariant-loop-movement l = record {
  range : IsCents l.used;
  sum : l.used + used_on l.grn (drop l.movement-index l.movements) ≡ used_on l.grn l.movements;
}
