use Rattle.std.proofs.Common.{◌≡◌, ◌≤◌, ◌-◌, map, true}
use Rattle.sqlite.specs.Held.{state}
use Rattle.sqlite.specs.State.{HasCleanDisk}
use Rattle.td_table_model.specs.Gathering.{movements_by}
use Rattle.td_store_rows.specs.MovementTable.{shown_of}
use Rattle.td_store_rows.specs.Ranges.{rows_below}
use Rattle.td_store_rows.specs.StoreReads.{ReadsNewest}
use Rattle.td_store_load.specs.Loaded.{IsOfTables}
use Rattle.td_store_load.proofs.lists.movements_below.Given as goal

-- nothing is changed, and the movements are those below the first serial that wasn't read
abbrev pub invariant-parts : goal.invariant-parts
invariant-parts g l =
    (l.tx.conn.ghost_name ≡ l.initial.tx.conn.ghost_name)
    × ReadsNewest true (state g.S.Store l.initial.tx.conn.now) (state g.S.Store l.tx.conn.now)
    × (l.first ≤ l.end)
    × (HasCleanDisk (state g.S.Store l.tx.conn.now)
    → IsOfTables (λ t. map shown_of (rows_below l.first (movements_by l.holder t))) (state g.S.Store l.initial.tx.conn.now) l.movements.items)

abbrev pub decreases-parts : goal.decreases-parts
decreases-parts g l = l.end - l.first
