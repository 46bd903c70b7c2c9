use Rattle.std.proofs.Common.{◌≡◌, ℕ, map, take, true}
use Rattle.sqlite.specs.Held.{state}
use Rattle.typed_sql.specs.Reading.{StaysInside}
use Rattle.td_store_audit.specs.Totals.{AreTotals}
use Rattle.td_store_rows.specs.Columns.{kept_typing}
use Rattle.td_store_rows.specs.GuaranteeTable.{guarantee_row_of}
use Rattle.td_migrate.specs.Filled.{IsFirst, with_sum}
use Rattle.td_migrate.specs.Put.{IsAnyFile}
use Rattle.td_migrate.proofs.Putting.{HasPut}
use Rattle.td_migrate.proofs.filling.put_rows.Given as goal

abbrev pub invariant-rows : goal.invariant-rows
invariant-rows g l =
    (l.tx.conn.ghost_name ≡ l.initial.tx.conn.ghost_name)
    × StaysInside true (state g.S.Store l.initial.tx.conn.now) (state g.S.Store l.tx.conn.now)
    × ((sums : ℕ → ℕ) → AreTotals sums l.totals
    → HasPut IsFirst kept_typing IsAnyFile (λ layout trees. map (with_sum sums) (map guarantee_row_of (take l.row-index l.rows)))
    (state g.S.Store l.initial.tx.conn.now) (state g.S.Store l.tx.conn.now))
