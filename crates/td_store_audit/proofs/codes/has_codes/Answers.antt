use Rattle.std.proofs.Common.{arith, refl, subst}
use Rattle.sqlite.specs.Held.{state}
use Rattle.sqlite.specs.State.{State, HasCleanDisk}
use Rattle.td_store_rows.proofs.StoreReads.{reads_on}
use Rattle.td_store_audit.specs.Premises.{TellsCodesWithin}
use Rattle.td_store_audit.proofs.CodeRanges.{behind_before, by_behind, not_below}
use Rattle.td_store_audit.proofs.codes.has_codes.Goals as goal

-- those up to the count aren't in their places
pub returns-then-not-branch-clause-told : goal.returns-then-not-branch-clause-told
returns-then-not-branch-clause-told g c clean =
    not_below a c.args.raw.now c.in-Some.count c.in-Some-checked_add.end c.in-Some.is c.in-Some-checked_add.ensures.1
    (subst (TellsCodesWithin c.args.raw.now.holder 0 c.in-Some-checked_add.end a) c.if-not-branch.true (c.in_ok-has_codes_below.ensures.told clean))
  where
    a : State
    a = state g.S.Store c.args.tx.now.conn.now

-- they are, and it is asked whether another stands behind the count
pub returns-clause-told : goal.returns-clause-told
returns-clause-told g c clean =
    by_behind a c.args.raw.now c.in-Some.count c.in-Some-checked_add.end c.in-Some.is c.in-Some-checked_add.ensures.1
    (subst (TellsCodesWithin c.args.raw.now.holder 0 c.in-Some-checked_add.end a) c.if-not-branch.false (c.in_ok-has_codes_below.ensures.told clean_b))
    c.in_ok-has_code_behind.field-0
    (behind_before c.args.raw.now.holder c.in-Some.count a b (c.in_ok-has_codes_below.ensures.reads.still clean_b refl) c.in_ok-has_code_behind.field-0 (c.in_ok-has_code_behind.ensures.told clean))
  where
    a : State
    a = state g.S.Store c.args.tx.now.conn.now

    b : State
    b = state g.S.Store c.has_codes_below.new.tx.conn.now

    clean_b : HasCleanDisk b
    clean_b = omega (arith, clean, c.has_code_behind.ensures.reads.within.survives.clean)

pub returns-clause-reads : goal.returns-clause-reads
returns-clause-reads g c = reads_on c.in_ok-has_codes_below.ensures.reads c.in_ok-has_code_behind.ensures.reads
