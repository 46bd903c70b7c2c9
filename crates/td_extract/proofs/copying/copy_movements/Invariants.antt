use Rattle.std.proofs.Common.{◌≡◌, ◌≤◌, ◌-◌}
use Rattle.sqlite.specs.Held.{state}
use Rattle.td_extract.specs.Copied.{movements_within}
use Rattle.td_extract.proofs.Copied.{HasCopied}
use Rattle.td_extract.proofs.copying.copy_movements.Given as goal

-- the rows below the first serial that wasn't read were copied
abbrev pub invariant-parts : goal.invariant-parts
invariant-parts g l =
    (l.from.conn.ghost_name ≡ l.initial.from.conn.ghost_name)
    × (l.to.conn.ghost_name ≡ l.initial.to.conn.ghost_name)
    × (l.first ≤ l.end)
    × HasCopied (movements_within l.holder 0 l.first) (state g.S.Store l.initial.from.conn.now) (state g.S.Store l.from.conn.now)
    (state g.T.Store l.initial.to.conn.now) (state g.T.Store l.to.conn.now)

abbrev pub decreases-parts : goal.decreases-parts
decreases-parts g l = l.end - l.first
