use Rattle.std.proofs.Common.{◌+◌, ap, arith, refl, subst}
use Rattle.std.specs.Prelude.{is_some}
use Rattle.sqlite.specs.Held.{state}
use Rattle.sqlite.specs.State.{State, HasCleanDisk}
use Rattle.td_store_audit.specs.Premises.{TellsWithin}
use Rattle.td_store_audit.proofs.RangesTold.{added_whole, some_behind, told_whole}
use Rattle.td_store_audit.proofs.lines.kept_lines.Goals as goal

-- there is a line behind those of the holder's movements
pub returns-then-branch-clause-told : goal.returns-then-branch-clause-told
returns-then-branch-clause-told g c clean =
    some_behind c.args.version c.args.movements.now a b (c.in_ok-totals.ensures.reads.still clean_b refl) c.in-Some-mrn_count.count c.in_ok-has_line_behind.field-0 (c.in_ok-has_line_behind.ensures.told clean)
    c.in-Some.guarantees c.in-Some.is c.in-Some-mrn_count.is c.if-branch.true
  where
    a : State
    a = state g.S.Store c.args.tx.now.conn.now

    b : State
    b = state g.S.Store c.totals_below.new.tx.conn.now

    clean_b : HasCleanDisk b
    clean_b = omega (arith, clean, c.has_line_behind.ensures.reads.within.survives.clean)

pub returns-clause-told : goal.returns-clause-told
returns-clause-told g c clean =
    told_whole c.args.version c.args.movements.now a b (c.in_ok-totals.ensures.reads.still clean_b refl) c.in-Some-mrn_count.count c.in_ok-has_line_behind.field-0 (c.in_ok-has_line_behind.ensures.told clean)
    c.in-Some.guarantees c.in-Some.is c.in-Some-mrn_count.is c.if-branch.false (c.in-Some-mrn_count.count + 1) refl
    (subst (TellsWithin c.args.version c.in-Some.guarantees c.args.movements.now.raw.holder 0 (c.in-Some-mrn_count.count + 1) a) (ap is_some c.in-Some-2.is) (c.in_ok-totals.ensures.told clean_b))
  where
    a : State
    a = state g.S.Store c.args.tx.now.conn.now

    b : State
    b = state g.S.Store c.totals_below.new.tx.conn.now

    clean_b : HasCleanDisk b
    clean_b = omega (arith, clean, c.has_line_behind.ensures.reads.within.survives.clean)

pub returns-clause-handed : goal.returns-clause-handed
returns-clause-handed g c clean =
    added_whole c.args.version c.args.movements.now a b (c.in_ok-totals.ensures.reads.still clean_b refl) c.in-Some-mrn_count.count c.in_ok-has_line_behind.field-0 (c.in_ok-has_line_behind.ensures.told clean)
    c.if-branch.false (c.in-Some-mrn_count.count + 1) refl c.in-Some-2.totals (rw c.in-Some-2.is at (c.in_ok-totals.ensures.handed clean_b))
  where
    a : State
    a = state g.S.Store c.args.tx.now.conn.now

    b : State
    b = state g.S.Store c.totals_below.new.tx.conn.now

    clean_b : HasCleanDisk b
    clean_b = omega (arith, clean, c.has_line_behind.ensures.reads.within.survives.clean)
