use Rattle.std.proofs.Common.{ℕ, take}
use Rattle.std.specs.List.{AllByRecursion}
use Rattle.td_store_audit.specs.Tallies.{IsKeptBy}
use Rattle.td_store_audit.specs.Totals.{AreTotals}
use Rattle.td_store_audit.proofs.amounts.all_rows_kept.Given as goal

-- those before are right
abbrev pub invariant-rows : goal.invariant-rows
invariant-rows l = (sums : ℕ → ℕ) → AreTotals sums l.parts.totals → AllByRecursion (IsKeptBy sums) (take l.row-index l.rows)
