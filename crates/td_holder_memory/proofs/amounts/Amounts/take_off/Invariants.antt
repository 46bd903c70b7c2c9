use Rattle.std.proofs.Common.{◌+◌, ℕ, List, drop}
use Rattle.td_guarantee.specs.Usage.{lines_on}
use Rattle.td_holder_memory.specs.Kept.{AreKept}
use Rattle.td_holder_memory.proofs.amounts.Amounts.take_off.Given as goal

-- the lines to come are what is left to take off
abbrev pub invariant-loop-line : goal.invariant-loop-line
invariant-loop-line l = (rest : List ℕ → ℕ) → AreKept (λ grn. rest grn + lines_on grn l.line-items) l.initial.self
    → AreKept (λ grn. rest grn + lines_on grn (drop l.line-index l.line-items)) l.self
