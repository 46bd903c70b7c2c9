use Rattle.std.proofs.Common.{◌≡◌, ◌-◌, ◌≤◌, true}
use Rattle.sqlite.specs.Held.{state}
use Rattle.sqlite.specs.State.{HasCleanDisk}
use Rattle.td_store_rows.specs.StoreReads.{ReadsVersion}
use Rattle.td_store_audit.specs.Totals.{AreKeptUpTo}
use Rattle.td_store_audit.proofs.RangesTold.{AreKeptBelow}
use Rattle.td_store_audit.proofs.lines.totals_below.Given as goal

-- nothing is changed, and the lines before are in their places, and added up
abbrev pub invariant-parts : goal.invariant-parts
invariant-parts g l =
    (l.first ≤ l.end) × (l.tx.conn.ghost_name ≡ l.initial.tx.conn.ghost_name)
    × ReadsVersion l.version true (state g.S.Store l.initial.tx.conn.now) (state g.S.Store l.tx.conn.now)
    × AreKeptUpTo l.guarantees l.totals
    × (HasCleanDisk (state g.S.Store l.tx.conn.now)
    → AreKeptBelow l.version l.guarantees l.movements l.first (state g.S.Store l.initial.tx.conn.now) l.totals)

abbrev pub decreases-parts : goal.decreases-parts
decreases-parts g l = l.end - l.first
