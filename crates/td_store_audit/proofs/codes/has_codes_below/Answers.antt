use Rattle.std.proofs.Common.{◌∙◌, arith, false, refl, subst, true}
use Rattle.sqlite.specs.Held.{state}
use Rattle.sqlite.specs.State.{State, HasCleanDisk}
use Rattle.typed_sql.proofs.OnlyRead.{none_read, stays_nothing}
use Rattle.td_store_rows.proofs.StoreReads.{reads_on}
use Rattle.td_store_audit.specs.Premises.{TellsCodesWithin}
use Rattle.td_store_audit.proofs.CodeRanges.{begins, breaks_at, goes_on, told_before, told_range}
use Rattle.td_store_audit.proofs.codes.has_codes_below.Goals as goal

pub parts-init : goal.parts-init
parts-init g c = (
  refl,
  record { still = λ clean well l own. none_read (state g.S.Store c.args.tx.now.conn.now); within = stays_nothing },
  omega arith,
  λ clean. begins c.args.holder (state g.S.Store c.args.tx.now.conn.now),
)

-- a range isn't in its place
pub returns-then-not-codes_within_are_in_place-clause-told : goal.returns-then-not-codes_within_are_in_place-clause-told
returns-then-not-codes_within_are_in_place-clause-told g c clean =
    breaks_at c.args.holder a c.parts.first c.range_end-next.result c.args.end (omega (arith, c.range_end-next.ensures c.parts-test.true, c.parts-test.true))
    (told_before c.args.holder c.parts.first c.range_end-next.result a b (c.parts.invariant.1.still clean_b refl) false
    (subst (TellsCodesWithin c.args.holder c.parts.first c.range_end-next.result b) c.if-not-codes_within_are_in_place.true
    (told_range c.args.holder c.parts.first c.range_end-next.result b c.in_ok-rows.rows.items (c.in_ok-rows.ensures.found clean) (c.in_ok-rows.ensures.order clean)
    c.codes_within_are_in_place.result (rw c.deref.ensures.value at c.codes_within_are_in_place.ensures))))
  where
    a : State
    a = state g.S.Store c.args.tx.now.conn.now

    b : State
    b = state g.S.Store c.parts.tx.conn.now

    clean_b : HasCleanDisk b
    clean_b = omega (arith, clean, c.codes_within.ensures.reads.within.survives.clean)

-- one range more
pub parts-preserved : goal.parts-preserved
parts-preserved g c = (
  c.codes_within.ensures.same_reference ∙ c.parts.invariant.0,
  reads_on c.parts.invariant.1 c.in_ok-rows.ensures.reads,
  omega (arith, c.range_end-next.ensures c.parts-test.true, c.parts-test.true),
  λ clean. goes_on c.args.holder a c.parts.first c.range_end-next.result (c.parts.invariant.3 (clean_b clean))
      (told_before c.args.holder c.parts.first c.range_end-next.result a b (c.parts.invariant.1.still (clean_b clean) refl) true
      (subst (TellsCodesWithin c.args.holder c.parts.first c.range_end-next.result b) c.if-not-codes_within_are_in_place.false
      (told_range c.args.holder c.parts.first c.range_end-next.result b c.in_ok-rows.rows.items (c.in_ok-rows.ensures.found clean) (c.in_ok-rows.ensures.order clean)
      c.codes_within_are_in_place.result (rw c.deref.ensures.value at c.codes_within_are_in_place.ensures)))),
)
  where
    a : State
    a = state g.S.Store c.args.tx.now.conn.now

    b : State
    b = state g.S.Store c.parts.tx.conn.now

    d : State
    d = state g.S.Store c.codes_within.new.tx.conn.now

    clean_b : HasCleanDisk d → HasCleanDisk b
    clean_b clean = omega (arith, clean, c.codes_within.ensures.reads.within.survives.clean)
