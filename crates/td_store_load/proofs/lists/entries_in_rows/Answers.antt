use Rattle.std.proofs.Common.{ap, arith, map, refl, true, ◌∙◌}
use Rattle.sqlite.specs.Held.{state}
use Rattle.sqlite.specs.State.{State, HasCleanDisk}
use Rattle.std.proofs.lemmas.List.{take_all}
use Rattle.td_store_rows.specs.KeptTable.{kept_row_of}
use Rattle.td_store_rows.specs.StoreReads.{ReadsNewest}
use Rattle.td_store_rows.specs.StoreTables.{tables_in}
use Rattle.td_store_rows.proofs.StoreReads.{reads_on, reads_well}
use Rattle.td_store_load.specs.Needed.{entry_from}
use Rattle.td_store_load.proofs.Found.{next_of}
use Rattle.td_store_load.proofs.lists.entries_in_rows.Goals as goal

pub rows-preserved : goal.rows-preserved
rows-preserved g c = (
  c.entry_in_row.ensures.same_reference ∙ c.rows.invariant.0,
  more,
  λ clean content holds.
      c.in_ok-push.ensures.items
      ∙ next_of (λ t r. entry_from t (kept_row_of r)) a b c.args.rows.now c.rows.row-index _ c.row-item.result c.rows.entries.items c.in_ok-entry.entry c.rows-test.true c.row-item.is
      (c.rows.invariant.1.still (clean_b clean) refl) (c.rows.invariant.2 (clean_b clean)) (c.in_ok-entry.ensures.entry clean) content holds,
)
  where
    a : State
    a = state g.S.Store c.args.tx.now.conn.now

    b : State
    b = state g.S.Store c.rows.tx.conn.now

    d : State
    d = state g.S.Store c.entry_in_row.new.tx.conn.now

    more : ReadsNewest true a d
    more = reads_on c.rows.invariant.1 c.in_ok-entry.ensures.reads

    clean_b : HasCleanDisk d → HasCleanDisk b
    clean_b clean = omega (arith, clean, c.entry_in_row.ensures.reads.within.survives.clean)

pub returns-in_err-push-clause-reads : goal.returns-in_err-push-clause-reads
returns-in_err-push-clause-reads g c = reads_well (reads_on c.rows.invariant.1 c.in_ok-entry.ensures.reads)

pub returns-clause-entries : goal.returns-clause-entries
returns-clause-entries g c clean content holds =
    c.rows.invariant.2 clean content holds
    ∙ ap (map (λ r. entry_from (tables_in holds.trees.layout (state g.S.Store c.args.tx.now.conn.now).now.trees) (kept_row_of r)))
    (take_all c.rows.row-index c.args.rows.now c.rows-test.false)
