use Rattle.std.proofs.Common.{◌≡◌, map, take}
use Rattle.sqlite.specs.Held.{state}
use Rattle.td_extract.specs.Copied.{bare_movement, no_rows}
use Rattle.td_extract.proofs.Rows.{HasPut}
use Rattle.td_extract.proofs.putting.put_movements.Given as goal

abbrev pub invariant-rows : goal.invariant-rows
invariant-rows g l =
    (l.tx.conn.ghost_name ≡ l.initial.tx.conn.ghost_name)
    × HasPut (record no_rows { movements = map bare_movement (take l.row-index l.rows) }) (state g.T.Store l.initial.tx.conn.now) (state g.T.Store l.tx.conn.now)
