use Rattle.std.proofs.Common.{◌≡◌, map, take, true}
use Rattle.sqlite.specs.Held.{state}
use Rattle.sqlite.specs.State.{HasCleanDisk}
use Rattle.td_model.specs.Content.{Content}
use Rattle.td_store_rows.specs.StoreReads.{ReadsNewest}
use Rattle.td_store_rows.specs.StoreTables.{HoldsContent}
use Rattle.td_store_rows.specs.LineTable.{line_row_of}
use Rattle.td_store_load.specs.Loaded.{IsOfTables, line_of}
use Rattle.td_store_load.specs.Needed.{AreKeptIn, AreTermsOf}
use Rattle.td_store_load.proofs.releases.lines_with_terms.Given as goal

-- nothing is changed, the lines are those of the rows before, with the terms of their guarantees, and the rows that were read last say
-- what their guarantees are
abbrev pub invariant-rows : goal.invariant-rows
invariant-rows g l =
    (l.tx.conn.ghost_name ≡ l.initial.tx.conn.ghost_name)
    × ReadsNewest true (state g.S.Store l.initial.tx.conn.now) (state g.S.Store l.tx.conn.now)
    × (HasCleanDisk (state g.S.Store l.tx.conn.now)
    → IsOfTables (λ t. map (λ r. line_of l.holder t (line_row_of r)) (take l.at l.rows)) (state g.S.Store l.initial.tx.conn.now) l.lines.items)
    × (HasCleanDisk (state g.S.Store l.tx.conn.now) → AreTermsOf l.holder (state g.S.Store l.initial.tx.conn.now) l.lines.items l.terms.items)
    × (HasCleanDisk (state g.S.Store l.tx.conn.now)
    → (c : Content) (holds : HoldsContent c (state g.S.Store l.initial.tx.conn.now)) → AreKeptIn l.holder c holds l.near.items)
