use Rattle.std.proofs.Common.{◌≡◌, ◌-◌, ◌≤◌, filter, map}
use Rattle.sqlite.specs.Held.{state}
use Rattle.typed_sql.specs.Typed.{typed_rows}
use Rattle.td_table_model.specs.Tables.{Keyed, LineCells, version_with_amounts}
use Rattle.td_store_rows.specs.Columns.{line_typing}
use Rattle.td_store_rows.specs.Places.{is_within}
use Rattle.td_store_rows.specs.StoreReads.{IsOfVersion}
use Rattle.td_migrate.specs.LinesMoved.{AreLinesTyped}
use Rattle.td_migrate.proofs.Putting.{HasPut}
use Rattle.td_migrate.proofs.lines.put_below.Given as goal

-- those below were put
abbrev pub invariant-parts : goal.invariant-parts
invariant-parts g l =
    (l.first ≤ l.end) × (l.tx.conn.ghost_name ≡ l.initial.tx.conn.ghost_name)
    × HasPut (IsOfVersion version_with_amounts) line_typing AreLinesTyped
    (λ layout trees. map (λ (r : Keyed LineCells). r) (filter (is_within l.holder 0 l.first) (typed_rows (line_typing layout) trees)))
    (state g.S.Store l.initial.tx.conn.now) (state g.S.Store l.tx.conn.now)

abbrev pub decreases-parts : goal.decreases-parts
decreases-parts g l = l.end - l.first
