use Rattle.std.proofs.Common.{◌≤◌, take}
use Rattle.std.specs.List.{AllByRecursion}
use Rattle.td_migrate.proofs.amounts.are_on.Given as goal

-- those before are
abbrev pub invariant-loop-line : goal.invariant-loop-line
invariant-loop-line l = AllByRecursion (λ x. x.guarantee ≤ l.guarantees) (take l.line-index l.lines)
