use Rattle.std.proofs.Common.{◌≡◌, map, take, true}
use Rattle.sqlite.specs.Held.{state}
use Rattle.sqlite.specs.State.{HasCleanDisk}
use Rattle.td_store_rows.specs.KeptTable.{kept_row_of}
use Rattle.td_store_rows.specs.StoreReads.{ReadsNewest}
use Rattle.td_store_load.specs.Loaded.{IsOfTables}
use Rattle.td_store_load.specs.Needed.{entry_from}
use Rattle.td_store_load.proofs.lists.entries_in_rows.Given as goal

abbrev pub invariant-rows : goal.invariant-rows
invariant-rows g l =
    (l.tx.conn.ghost_name ≡ l.initial.tx.conn.ghost_name)
    × ReadsNewest true (state g.S.Store l.initial.tx.conn.now) (state g.S.Store l.tx.conn.now)
    × (HasCleanDisk (state g.S.Store l.tx.conn.now)
    → IsOfTables (λ t. map (λ r. entry_from t (kept_row_of r)) (take l.row-index l.rows)) (state g.S.Store l.initial.tx.conn.now) l.entries.items)
