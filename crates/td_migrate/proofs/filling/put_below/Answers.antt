use Rattle.std.proofs.Common.{◌≡◌, ◌∙◌, ◌≤◌, ℕ, ap, arith, map, refl, subst}
use Rattle.sqlite.specs.Held.{state}
use Rattle.sqlite.specs.State.{State}
use Rattle.typed_sql.specs.Typed.{typed_rows}
use Rattle.typed_sql.proofs.OnlyRead.{stays_nothing, stays_on}
use Rattle.td_store_audit.specs.Totals.{AreTotals}
use Rattle.td_store_rows.specs.Columns.{guarantee_typing, kept_typing}
use Rattle.td_store_rows.specs.GuaranteeTable.{guarantee_row_of}
use Rattle.td_migrate.specs.Filled.{AreGuaranteesTyped, FillsWithin, IsFirst, with_sum}
use Rattle.td_migrate.proofs.Older.{first_beside}
use Rattle.td_migrate.proofs.Putting.{HasPut, nothing_put}
use Rattle.td_migrate.proofs.Split.{range_none}
use Rattle.td_migrate.proofs.Walking.{below, range_put}
use Rattle.td_migrate.proofs.filling.put_below.Goals as goal

pub parts-init : goal.parts-init
parts-init g c = (
  omega arith,
  refl,
  stays_nothing,
  λ sums are. nothing_put IsFirst kept_typing AreGuaranteesTyped (below IsFirst guarantee_typing kept_typing first_beside (with_sum sums) c.args.holder 0)
      (state g.S.Store c.args.tx.now.conn.now) (λ l at x typed. ap (map (with_sum sums)) (range_none c.args.holder (typed_rows (guarantee_typing l) x))),
)

pub parts-preserved : goal.parts-preserved
parts-preserved g c = (
  omega (arith, c.range_end-next.ensures c.parts-test.true),
  c.put_rows.ensures.same_reference ∙ c.first_within.ensures.same_reference ∙ c.parts.invariant.1,
  stays_on c.parts.invariant.2 (stays_on c.in_ok-rows.ensures.reads.within c.in_ok-put_rows.ensures.within),
  more,
)
  where
    a : State
    a = state g.S.Store c.args.tx.now.conn.now

    b : State
    b = state g.S.Store c.parts.tx.conn.now

    m : State
    m = state g.S.Store c.first_within.new.tx.conn.now

    d : State
    d = state g.S.Store c.put_rows.new.tx.conn.now

    up : c.parts.first ≤ c.range_end-next.result
    up = omega (arith, c.range_end-next.ensures c.parts-test.true, c.parts-test.true)

    more : (sums : ℕ → ℕ) → AreTotals sums c.args.totals.now
        → HasPut IsFirst kept_typing AreGuaranteesTyped (below IsFirst guarantee_typing kept_typing first_beside (with_sum sums) c.args.holder c.range_end-next.result) a d
    more sums are =
        range_put IsFirst guarantee_typing kept_typing first_beside (with_sum sums) c.args.holder c.parts.first c.range_end-next.result up
        (map guarantee_row_of c.in_ok-rows.rows.items) a b m d (c.parts.invariant.3 sums are) c.in_ok-rows.ensures.reads c.in_ok-rows.ensures.found
        c.in_ok-put_rows.ensures.within (λ clean. (rw c.deref.ensures.value at c.in_ok-put_rows.ensures.filled) clean sums are)

pub returns-clause-filled : goal.returns-clause-filled
returns-clause-filled g c clean = λ sums are.
    let last : c.parts.first ≡ c.args.end = omega (arith, c.parts.invariant.0, c.parts-test.false) in
    subst (λ n. FillsWithin sums c.args.holder n (state g.S.Store c.args.tx.now.conn.now) (state g.S.Store c.parts.tx.conn.now)) last ((c.parts.invariant.3 sums are).put clean)
