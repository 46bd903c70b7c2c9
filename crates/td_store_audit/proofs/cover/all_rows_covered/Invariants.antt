use Rattle.std.proofs.Common.{ℕ, take}
use Rattle.std.specs.List.{AllByRecursion}
use Rattle.td_store_audit.specs.Tallies.{IsCoveredBy}
use Rattle.td_store_audit.specs.Totals.{AreTotals}
use Rattle.td_store_audit.proofs.cover.all_rows_covered.Given as goal

-- those before are covered
abbrev pub invariant-rows : goal.invariant-rows
invariant-rows l = (sums : ℕ → ℕ) → AreTotals sums l.parts.totals → AllByRecursion (IsCoveredBy sums) (take l.row-index l.rows)
