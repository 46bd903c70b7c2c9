use Rattle.std.proofs.Common.{◌∙◌, ◌≤◌, ◌++◌, ap, arith, map, refl, subst}
use Rattle.sqlite.specs.Held.{state}
use Rattle.sqlite.specs.State.{State, HasCleanDisk}
use Rattle.typed_sql.proofs.OnlyRead.{none_read, stays_nothing}
use Rattle.td_table_model.specs.Gathering.{movements_by}
use Rattle.td_store_rows.specs.MovementTable.{shown_in_list, shown_of}
use Rattle.td_store_rows.specs.Ranges.{rows_below}
use Rattle.td_store_rows.proofs.StoreReads.{anywhere, reads_on}
use Rattle.td_store_load.specs.Loaded.{IsOfTables}
use Rattle.td_store_load.proofs.InRanges.{none_below_first, range_more}
use Rattle.td_store_load.proofs.lists.movements_below.Goals as goal

pub parts-init : goal.parts-init
parts-init g c = (
  refl,
  record { still = λ clean well l own. none_read (state g.S.Store c.args.tx.now.conn.now); within = stays_nothing },
  omega arith,
  λ clean content holds. c.new-movements.ensures.items ∙ none_below_first c.args.holder (state g.S.Store c.args.tx.now.conn.now) content holds,
)

-- one range more
pub parts-preserved : goal.parts-preserved
parts-preserved g c = (
  c.listed_within.ensures.same_reference ∙ c.parts.invariant.0,
  reads_on c.parts.invariant.1 (anywhere c.in_ok-rows.ensures.reads),
  omega (arith, c.range_end-next.ensures c.parts-test.true, c.parts-test.true),
  λ clean.
      range_more c.args.holder c.parts.first c.range_end-next.result up a b (c.parts.invariant.1.still (clean_b clean) refl)
      c.parts.movements.items (c.parts.invariant.3 (clean_b clean)) c.in_ok-rows.rows.items (c.in_ok-rows.ensures.order clean) _
      (c.in_ok-push_rows.ensures ∙ ap (λ rows. c.parts.movements.items ++ map shown_in_list rows) c.deref.ensures.value),
)
  where
    a : State
    a = state g.S.Store c.args.tx.now.conn.now

    b : State
    b = state g.S.Store c.parts.tx.conn.now

    up : c.parts.first ≤ c.range_end-next.result
    up = omega (arith, c.range_end-next.ensures c.parts-test.true, c.parts-test.true)

    clean_b : HasCleanDisk (state g.S.Store c.listed_within.new.tx.conn.now) → HasCleanDisk b
    clean_b clean = omega (arith, clean, c.listed_within.ensures.reads.within.survives.clean)

pub returns-clause-found : goal.returns-clause-found
returns-clause-found g c clean =
    subst (λ n. IsOfTables (λ t. map shown_of (rows_below n (movements_by c.args.holder t))) (state g.S.Store c.args.tx.now.conn.now) c.parts.movements.items)
    (omega (arith, c.parts.invariant.2, c.parts-test.false)) (c.parts.invariant.3 clean)
