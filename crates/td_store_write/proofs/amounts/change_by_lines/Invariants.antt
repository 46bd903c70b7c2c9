use Rattle.std.proofs.Common.{◌≡◌, take}
use Rattle.sqlite.specs.Held.{state}
use Rattle.td_store_write.proofs.Following.{HasFollowed}
use Rattle.td_store_write.proofs.amounts.change_by_lines.Given as goal

abbrev pub invariant-lines : goal.invariant-lines
invariant-lines g l =
    (l.tx.conn.ghost_name ≡ l.initial.tx.conn.ghost_name)
    × HasFollowed l.holder l.status (take l.line-index l.lines) l.lines (state g.S.Store l.initial.tx.conn.now) (state g.S.Store l.tx.conn.now)
