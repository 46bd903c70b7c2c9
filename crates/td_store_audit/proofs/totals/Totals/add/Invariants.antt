use Rattle.std.proofs.Common.{◌≡◌, ℕ, ◌+◌, length, take}
use Rattle.std.specs.List.{AllByRecursion}
use Rattle.td_store_audit.specs.Totals.{AreKeptUpTo, AreTotals, total_on}
use Rattle.td_store_audit.proofs.totals.Totals.add.Given as goal

-- the lines before are added
abbrev pub invariant-loop-line : goal.invariant-loop-line
invariant-loop-line l =
    (length l.self.each.items ≡ length l.initial.self.each.items)
    × ((sums : ℕ → ℕ) → AllByRecursion (λ x. AreKeptUpTo x.guarantee l.initial.self) l.lines → AreTotals sums l.initial.self
    → AreTotals (λ n. sums n + total_on n l.serials (take l.line-index l.lines)) l.self)
