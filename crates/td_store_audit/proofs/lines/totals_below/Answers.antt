use Rattle.std.proofs.Common.{◌∙◌, ◌≤◌, ℕ, true, ap, arith, refl, subst}
use Rattle.std.specs.Prelude.{is_some}
use Rattle.sqlite.specs.Held.{state}
use Rattle.sqlite.specs.State.{State, HasCleanDisk}
use Rattle.typed_sql.proofs.OnlyRead.{none_read, stays_nothing}
use Rattle.td_store_rows.proofs.StoreReads.{reads_on}
use Rattle.td_store_audit.specs.Premises.{TellsWithin}
use Rattle.td_store_audit.proofs.RangesTold.{added_below, begins, broken_in, more_kept, told_below}
use Rattle.td_store_audit.proofs.lines.totals_below.Goals as goal

pub parts-init : goal.parts-init
parts-init g c = (omega arith, refl, record { still = λ clean well l own. none_read (state g.S.Store c.args.tx.now.conn.now); within = stays_nothing }, c.in_ok-totals.ensures.all, λ clean. begins c.args.version c.args.guarantees c.args.movements.now (state g.S.Store c.args.tx.now.conn.now) c.in_ok-totals.totals c.in_ok-totals.ensures.none)

-- the lines of the next movements are in their places, and added
pub parts-preserved : goal.parts-preserved
parts-preserved g c = (
  to,
  c.kept_lines_within.ensures.same_reference ∙ c.parts.invariant.1,
  reads_on c.parts.invariant.2 c.in_ok-lines.ensures.reads,
  omega (arith, c.parts.invariant.3, c.add.ensures.all),
  λ clean. more_kept c.args.version c.args.guarantees c.args.movements.now a b (c.parts.invariant.2.still (clean_b clean) refl) c.parts.first next up (told clean) c.in-Some.lines.items
      (rw c.in-Some.is at (c.in_ok-lines.ensures.handed clean)) c.parts.totals c.add.new.self c.parts.invariant.3
      (rw (c.deref.ensures.value, c.deref-in-parts.ensures.value) at c.add.ensures.added) (c.parts.invariant.4 (clean_b clean)),
)
  where
    a : State
    a = state g.S.Store c.args.tx.now.conn.now

    b : State
    b = state g.S.Store c.parts.tx.conn.now

    d : State
    d = state g.S.Store c.kept_lines_within.new.tx.conn.now

    next : ℕ
    next = c.range_end-next.result

    to : next ≤ c.args.end
    to = omega (arith, c.range_end-next.ensures c.parts-test.true)

    up : c.parts.first ≤ next
    up = omega (arith, c.range_end-next.ensures c.parts-test.true, c.parts-test.true)

    clean_b : HasCleanDisk d → HasCleanDisk b
    clean_b clean = omega (arith, clean, c.kept_lines_within.ensures.reads.within.survives.clean)

    told : HasCleanDisk d → TellsWithin c.args.version c.args.guarantees c.args.movements.now.raw.holder c.parts.first next b true
    told clean =
        subst (TellsWithin c.args.version c.args.guarantees c.args.movements.now.raw.holder c.parts.first next b) (ap is_some c.in-Some.is) (c.in_ok-lines.ensures.told clean)

-- they aren't
pub returns-in_default-clause-told : goal.returns-in_default-clause-told
returns-in_default-clause-told g c clean =
    broken_in c.args.version c.args.guarantees c.args.movements.now a b (c.parts.invariant.2.still clean_b refl) c.parts.first c.range_end-next.result c.args.end
    (omega (arith, c.range_end-next.ensures c.parts-test.true))
    (subst (TellsWithin c.args.version c.args.guarantees c.args.movements.now.raw.holder c.parts.first c.range_end-next.result b) (ap is_some c.in_default.is) (c.in_ok-lines.ensures.told clean))
  where
    a : State
    a = state g.S.Store c.args.tx.now.conn.now

    b : State
    b = state g.S.Store c.parts.tx.conn.now

    clean_b : HasCleanDisk b
    clean_b = omega (arith, clean, c.kept_lines_within.ensures.reads.within.survives.clean)

-- all are
pub returns-clause-told : goal.returns-clause-told
returns-clause-told g c clean =
    told_below c.args.version c.args.guarantees c.args.movements.now (state g.S.Store c.args.tx.now.conn.now) c.parts.first c.args.end
    (omega (arith, c.parts.invariant.0, c.parts-test.false)) c.parts.totals (c.parts.invariant.4 clean)

pub returns-clause-handed : goal.returns-clause-handed
returns-clause-handed g c clean =
    added_below c.args.version c.args.guarantees c.args.movements.now (state g.S.Store c.args.tx.now.conn.now) c.parts.first c.args.end
    (omega (arith, c.parts.invariant.0, c.parts-test.false)) c.parts.totals (c.parts.invariant.4 clean)
