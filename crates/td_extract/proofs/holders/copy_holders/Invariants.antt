use Rattle.std.proofs.Common.{◌≡◌, ◌≤◌, ◌<◌, ◌+◌, ◌-◌}
use Rattle.sqlite.specs.Held.{state}
use Rattle.td_extract.specs.Copied.{of_holders}
use Rattle.td_extract.proofs.Copied.{HasCopied}
use Rattle.td_extract.proofs.holders.copy_holders.Given as goal

-- the rows of the holders up to the number were copied
abbrev pub invariant-holders : goal.invariant-holders
invariant-holders g l =
    (l.from.conn.ghost_name ≡ l.initial.from.conn.ghost_name)
    × (l.to.conn.ghost_name ≡ l.initial.to.conn.ghost_name)
    × (l.first ≤ l.number + 1)
    × (l.last < l.number → l.number < l.first)
    × HasCopied (of_holders l.first l.number) (state g.S.Store l.initial.from.conn.now) (state g.S.Store l.from.conn.now)
    (state g.T.Store l.initial.to.conn.now) (state g.T.Store l.to.conn.now)

abbrev pub decreases-holders : goal.decreases-holders
decreases-holders g l = l.last - l.number
