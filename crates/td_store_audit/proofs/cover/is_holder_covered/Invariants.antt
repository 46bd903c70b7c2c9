use Rattle.std.proofs.Common.{◌≡◌, ◌≤◌, ◌-◌, true}
use Rattle.std.specs.List.{AllByRecursion}
use Rattle.sqlite.specs.Held.{state}
use Rattle.sqlite.specs.State.{HasCleanDisk}
use Rattle.td_table_model.specs.Gathering.{guarantees_by}
use Rattle.td_store_rows.specs.StoreReads.{IsOfVersion, ReadsVersion}
use Rattle.td_store_rows.specs.StoreTables.{tables_in}
use Rattle.td_store_audit.specs.InFile.{IsRowCovered, IsSoWhere}
use Rattle.td_store_rows.specs.Ranges.{rows_below}
use Rattle.td_store_audit.specs.Tallies.{IsHandedOn}
use Rattle.td_store_audit.proofs.cover.is_holder_covered.Given as goal

-- nothing is changed, and each guarantee below the first that wasn't read is covered
abbrev pub invariant-parts : goal.invariant-parts
invariant-parts g l =
    (l.tx.conn.ghost_name ≡ l.initial.tx.conn.ghost_name)
    × ReadsVersion l.version true (state g.S.Store l.initial.tx.conn.now) (state g.S.Store l.tx.conn.now)
    × (l.first ≤ l.end)
    × (HasCleanDisk (state g.S.Store l.tx.conn.now)
    → IsSoWhere (IsOfVersion l.version) (λ layout trees. IsHandedOn layout trees l.parts)
    (λ layout trees. AllByRecursion (IsRowCovered layout trees) (rows_below l.first (guarantees_by l.parts.movements.raw.holder (tables_in layout trees))))
    (state g.S.Store l.initial.tx.conn.now))

abbrev pub decreases-parts : goal.decreases-parts
decreases-parts g l = l.end - l.first
