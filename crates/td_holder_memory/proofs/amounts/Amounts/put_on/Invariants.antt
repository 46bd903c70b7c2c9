use Rattle.std.proofs.Common.{◌+◌, ℕ, List, take}
use Rattle.td_guarantee.specs.Usage.{lines_on}
use Rattle.td_holder_memory.specs.Kept.{AreKept}
use Rattle.td_holder_memory.proofs.amounts.Amounts.put_on.Given as goal

-- the lines so far are put on
abbrev pub invariant-loop-line : goal.invariant-loop-line
invariant-loop-line l = (rest : List ℕ → ℕ) → AreKept rest l.initial.self
    → AreKept (λ grn. rest grn + lines_on grn (take l.line-index l.line-items)) l.self
