use Rattle.std.proofs.Common.{◌∙◌, ◌≤◌, arith, map, refl, subst}
use Rattle.sqlite.specs.Held.{state}
use Rattle.sqlite.specs.State.{State, HasCleanDisk}
use Rattle.typed_sql.proofs.OnlyRead.{none_read, stays_nothing}
use Rattle.td_store_rows.specs.Ranges.{rows_below}
use Rattle.td_store_rows.proofs.StoreReads.{newest_keeps, reads_less, reads_on}
use Rattle.td_store_load.specs.Loaded.{IsOfTables}
use Rattle.td_store_load.specs.Needed.{entry_from, kept_by}
use Rattle.td_store_load.proofs.InRanges.{no_kept_below_first, kept_more}
use Rattle.td_store_load.proofs.lists.guarantees_below.Goals as goal

pub parts-init : goal.parts-init
parts-init g c = (
  refl,
  record { still = λ clean well l own. none_read (state g.S.Store c.args.tx.now.conn.now); within = stays_nothing },
  omega arith,
  λ clean content holds. c.new-entries.ensures.items ∙ no_kept_below_first c.args.holder (state g.S.Store c.args.tx.now.conn.now) content holds,
)

-- one range more
pub parts-preserved : goal.parts-preserved
parts-preserved g c = (
  c.entries_in_rows.ensures.same_reference ∙ c.kept_within.ensures.same_reference ∙ c.parts.invariant.0,
  reads_on (reads_on c.parts.invariant.1 (reads_less newest_keeps c.in_ok-rows.ensures.reads)) c.in_ok-more.ensures.reads,
  omega (arith, c.range_end-next.ensures c.parts-test.true, c.parts-test.true),
  λ clean.
      kept_more c.args.holder c.parts.first c.range_end-next.result up a b d (c.parts.invariant.1.still (clean_b (clean_d clean)) refl)
      ((reads_less newest_keeps c.in_ok-rows.ensures.reads).still (clean_d clean) refl)
      c.parts.entries.items (c.parts.invariant.3 (clean_b (clean_d clean))) c.in_ok-rows.rows.items (c.in_ok-rows.ensures.order (clean_d clean))
      c.in_ok-more.more.items (rw c.deref.ensures.value at (c.in_ok-more.ensures.entries clean)) _ c.in_ok-append.ensures.items,
)
  where
    a : State
    a = state g.S.Store c.args.tx.now.conn.now

    b : State
    b = state g.S.Store c.parts.tx.conn.now

    d : State
    d = state g.S.Store c.kept_within.new.tx.conn.now

    up : c.parts.first ≤ c.range_end-next.result
    up = omega (arith, c.range_end-next.ensures c.parts-test.true, c.parts-test.true)

    clean_d : HasCleanDisk (state g.S.Store c.entries_in_rows.new.tx.conn.now) → HasCleanDisk d
    clean_d clean = omega (arith, clean, c.entries_in_rows.ensures.reads.within.survives.clean)

    clean_b : HasCleanDisk d → HasCleanDisk b
    clean_b clean = omega (arith, clean, c.kept_within.ensures.reads.within.survives.clean)

pub returns-clause-found : goal.returns-clause-found
returns-clause-found g c clean =
    subst (λ n. IsOfTables (λ t. map (entry_from t) (rows_below n (kept_by c.args.holder t))) (state g.S.Store c.args.tx.now.conn.now) c.parts.entries.items)
    (omega (arith, c.parts.invariant.2, c.parts-test.false)) (c.parts.invariant.3 clean)
