use Rattle.std.proofs.Common.{◌≡◌, map, take}
use Rattle.sqlite.specs.Held.{state}
use Rattle.td_table_model.specs.Tables.{version_with_amounts}
use Rattle.td_store_rows.specs.Columns.{line_typing}
use Rattle.td_store_rows.specs.LineTable.{line_row_of}
use Rattle.td_store_rows.specs.StoreReads.{IsOfVersion}
use Rattle.td_migrate.specs.Put.{IsAnyFile}
use Rattle.td_migrate.proofs.Putting.{HasPut}
use Rattle.td_migrate.proofs.lines.put_lines.Given as goal

abbrev pub invariant-lines : goal.invariant-lines
invariant-lines g l =
    (l.tx.conn.ghost_name ≡ l.initial.tx.conn.ghost_name)
    × HasPut (IsOfVersion version_with_amounts) line_typing IsAnyFile (λ layout trees. map line_row_of (take l.line-index l.lines))
    (state g.S.Store l.initial.tx.conn.now) (state g.S.Store l.tx.conn.now)
