use Rattle.std.proofs.Common.{◌≡◌, ◌≤◌, ◌-◌, List, true}
use Rattle.sqlite.specs.Held.{state}
use Rattle.sqlite.specs.State.{HasCleanDisk}
use Rattle.td_guarantee.specs.declared.guarantee.Guarantee.{Guarantee}
use Rattle.td_table_model.specs.Tables.{Keyed}
use Rattle.td_store_rows.specs.StoreReads.{ReadsVersion}
use Rattle.td_store_audit_rows.specs.InPlace.{AreNextGuarantees}
use Rattle.td_store_audit.proofs.GuaranteesKept.{AreRowsBelow}
use Rattle.td_store_audit.proofs.guarantees.has_guarantees_below.Given as goal

-- nothing is changed, and there are guarantees in their places: those of the file below the first that wasn't read
abbrev pub invariant-parts : goal.invariant-parts
invariant-parts g l =
    (l.tx.conn.ghost_name ≡ l.initial.tx.conn.ghost_name)
    × ReadsVersion l.version true (state g.S.Store l.initial.tx.conn.now) (state g.S.Store l.tx.conn.now)
    × (l.first ≤ l.end)
    × ((rows : List (Keyed Guarantee)) × AreNextGuarantees l.country 0 (l.first - 1) rows
    × (HasCleanDisk (state g.S.Store l.tx.conn.now) → AreRowsBelow l.version (state g.S.Store l.initial.tx.conn.now) l.holder l.first rows))

abbrev pub decreases-parts : goal.decreases-parts
decreases-parts g l = l.end - l.first
