use Rattle.std.proofs.Common.{◌≡◌, ◌-◌, ◌^◌, filter, map}
use Rattle.sqlite.specs.Held.{state}
use Rattle.typed_sql.specs.Typed.{typed_rows}
use Rattle.td_table_model.specs.Tables.{Keyed, LineCells, version_with_amounts}
use Rattle.td_store_rows.specs.Columns.{line_typing}
use Rattle.td_store_rows.specs.StoreReads.{IsOfVersion}
use Rattle.td_migrate.specs.Put.{KeepTheRules}
use Rattle.td_migrate.proofs.Putting.{HasPut}
use Rattle.td_migrate.proofs.Split.{is_upto}
use Rattle.td_migrate.proofs.lines.put_all.Given as goal

-- the lines of the holders up to the number were put
abbrev pub invariant-holders : goal.invariant-holders
invariant-holders g l =
    (l.tx.conn.ghost_name ≡ l.initial.tx.conn.ghost_name)
    × HasPut (IsOfVersion version_with_amounts) line_typing KeepTheRules
    (λ layout trees. map (λ (r : Keyed LineCells). r) (filter (is_upto l.number) (typed_rows (line_typing layout) trees)))
    (state g.S.Store l.initial.tx.conn.now) (state g.S.Store l.tx.conn.now)

abbrev pub decreases-holders : goal.decreases-holders
decreases-holders g l = 2 ^ 32 - l.number
