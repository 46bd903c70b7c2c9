use Rattle.std.proofs.Common.{◌≡◌, ◌++◌, map, take}
use Rattle.sqlite.specs.Held.{state}
use Rattle.td_table_model.specs.Tables.{line_row, numbered}
use Rattle.td_store_write.proofs.Written.{HasWritten}
use Rattle.td_store_write.proofs.lists.insert_lines.Given as goal

abbrev pub invariant-lines : goal.invariant-lines
invariant-lines g l =
    (l.tx.conn.ghost_name ≡ l.initial.tx.conn.ghost_name)
    × HasWritten (λ t. record t { lines = map (line_row l.country l.holder l.serial) (take l.at (numbered 0 l.lines)) ++ t.lines })
    (state g.S.Store l.initial.tx.conn.now) (state g.S.Store l.tx.conn.now)
