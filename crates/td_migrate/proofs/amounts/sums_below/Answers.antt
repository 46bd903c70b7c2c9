use Rattle.std.proofs.Common.{◌≡◌, ◌∙◌, ◌≤◌, arith, refl, subst}
use Rattle.sqlite.specs.Held.{state}
use Rattle.sqlite.specs.State.{State, HasCleanDisk}
use Rattle.td_migrate.specs.InUse.{AreSumsBelow}
use Rattle.td_migrate.proofs.Summed.{begins, more_summed}
use Rattle.td_store_audit.proofs.Reading.{reads_none}
use Rattle.td_store_rows.proofs.StoreReads.{reads_on}
use Rattle.td_migrate.proofs.amounts.sums_below.Goals as goal

pub parts-init : goal.parts-init
parts-init g c = (
  omega arith,
  refl,
  reads_none,
  c.in_ok-totals.ensures.all,
  λ clean. begins c.args.holder c.args.serials.now (state g.S.Store c.args.tx.now.conn.now) c.in_ok-totals.totals c.in_ok-totals.ensures.none,
)

-- the lines of the next movements are added
pub parts-preserved : goal.parts-preserved
parts-preserved g c = (
  omega (arith, c.range_end-next.ensures c.parts-test.true),
  c.lines_within.ensures.same_reference ∙ c.parts.invariant.1,
  reads_on c.parts.invariant.2 c.in_ok-lines.ensures.reads,
  omega (arith, c.parts.invariant.3, c.add.ensures.all),
  λ clean. more_summed c.args.holder c.args.serials.now a b (c.parts.invariant.2.still (clean_b clean) refl) c.parts.first c.range_end-next.result c.args.guarantees up
      c.in_ok-lines.lines.items (c.in_ok-lines.ensures.found clean) c.parts.totals c.add.new.self c.parts.invariant.3
      (rw c.deref.ensures.value at (c.are_on.ensures c.if-not-are_on.false)) (rw c.deref-in-parts.ensures.value at c.add.ensures.added) (c.parts.invariant.4 (clean_b clean)),
)
  where
    a : State
    a = state g.S.Store c.args.tx.now.conn.now

    b : State
    b = state g.S.Store c.parts.tx.conn.now

    d : State
    d = state g.S.Store c.lines_within.new.tx.conn.now

    up : c.parts.first ≤ c.range_end-next.result
    up = omega (arith, c.range_end-next.ensures c.parts-test.true, c.parts-test.true)

    clean_b : HasCleanDisk d → HasCleanDisk b
    clean_b clean = omega (arith, clean, c.lines_within.ensures.reads.within.survives.clean)

pub returns-clause-summed : goal.returns-clause-summed
returns-clause-summed g c clean =
    let last : c.parts.first ≡ c.args.end = omega (arith, c.parts.invariant.0, c.parts-test.false) in
    subst (λ n. AreSumsBelow c.args.holder c.args.serials.now n (state g.S.Store c.args.tx.now.conn.now) c.parts.totals) last (c.parts.invariant.4 clean)
