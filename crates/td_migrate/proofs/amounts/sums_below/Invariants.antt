use Rattle.std.proofs.Common.{◌≡◌, ◌-◌, ◌≤◌, true}
use Rattle.sqlite.specs.Held.{state}
use Rattle.sqlite.specs.State.{HasCleanDisk}
use Rattle.td_table_model.specs.Tables.{version_with_amounts}
use Rattle.td_store_rows.specs.StoreReads.{ReadsVersion}
use Rattle.td_store_audit.specs.Totals.{AreKeptUpTo}
use Rattle.td_migrate.specs.InUse.{AreSumsBelow}
use Rattle.td_migrate.proofs.amounts.sums_below.Given as goal

-- nothing is changed, and the lines before are added up
abbrev pub invariant-parts : goal.invariant-parts
invariant-parts g l =
    (l.first ≤ l.end) × (l.tx.conn.ghost_name ≡ l.initial.tx.conn.ghost_name)
    × ReadsVersion version_with_amounts true (state g.S.Store l.initial.tx.conn.now) (state g.S.Store l.tx.conn.now)
    × AreKeptUpTo l.guarantees l.totals
    × (HasCleanDisk (state g.S.Store l.tx.conn.now)
    → AreSumsBelow l.holder l.serials l.first (state g.S.Store l.initial.tx.conn.now) l.totals)

abbrev pub decreases-parts : goal.decreases-parts
decreases-parts g l = l.end - l.first
