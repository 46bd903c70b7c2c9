use Rattle.std.proofs.Common.{◌≡◌, ◌-◌}
use Rattle.sqlite.specs.Held.{state}
use Rattle.td_join.proofs.Walked.{HasMetNone}
use Rattle.td_join.proofs.both.first_of_both.Given as goal

-- the holders up to the number were looked for, and none stands in both
abbrev pub invariant-holders : goal.invariant-holders
invariant-holders g l =
    (l.from.conn.ghost_name ≡ l.initial.from.conn.ghost_name)
    × (l.to.conn.ghost_name ≡ l.initial.to.conn.ghost_name)
    × HasMetNone l.number (state g.S.Store l.initial.from.conn.now) (state g.S.Store l.from.conn.now)
    (state g.T.Store l.initial.to.conn.now) (state g.T.Store l.to.conn.now)

abbrev pub decreases-holders : goal.decreases-holders
decreases-holders g l = 999999 - l.number
