use Rattle.std.proofs.Common.{refl, subst, arith}
use Rattle.sqlite.specs.Held.{state}
use Rattle.sqlite.specs.State.{State, HasCleanDisk}
use Rattle.td_store_rows.proofs.StoreReads.{reads_on}
use Rattle.td_join.specs.Joining.{IsFirstIn, WereApart}
use Rattle.td_join.proofs.Held.{holds_joined, reads_failed}
use Rattle.td_join.proofs.joining.join_rows.Goals as goal

pub returns-in-Some-clause-stands : goal.returns-in-Some-clause-stands
returns-in-Some-clause-stands g c clean clean_to =
    subst (IsFirstIn (state g.S.Store c.args.from.now.conn.now) (state g.T.Store c.args.to.now.conn.now)) c.in-Some.is (c.in_ok-holder.ensures.found clean clean_to)

pub returns-in_err-copy_holders-clause-reads : goal.returns-in_err-copy_holders-clause-reads
returns-in_err-copy_holders-clause-reads g c =
    reads_failed c.from_residual-in_err-copy_holders.result c.from_residual-in_err-copy_holders.ensures.0
    (reads_on c.in_ok-holder.ensures.reads c.in_err-copy_holders.ensures.reads)

pub returns-clause-apart : goal.returns-clause-apart
returns-clause-apart g c clean clean_to =
    let clean_b : HasCleanDisk (state g.S.Store c.first_of_both.new.from.conn.now) = omega (arith, clean, c.copy_holders.ensures.reads.within.survives.clean) in
    let clean_p : HasCleanDisk (state g.T.Store c.first_of_both.new.to.conn.now) = omega (arith, clean_to, c.copy_holders.ensures.within.survives.clean) in
    subst (IsFirstIn (state g.S.Store c.args.from.now.conn.now) (state g.T.Store c.args.to.now.conn.now)) c.in_default.is
    (c.in_ok-holder.ensures.found clean_b clean_p)

pub returns-clause-joined : goal.returns-clause-joined
returns-clause-joined g c clean clean_to =
    holds_joined a b o p q (c.in_ok-holder.ensures.reads.still clean_b refl) (c.in_ok-holder.ensures.looks.still clean_p refl)
    (c.in_ok-copy_holders.ensures.copied clean clean_to) apart
  where
    a : State
    a = state g.S.Store c.args.from.now.conn.now

    b : State
    b = state g.S.Store c.first_of_both.new.from.conn.now

    o : State
    o = state g.T.Store c.args.to.now.conn.now

    p : State
    p = state g.T.Store c.first_of_both.new.to.conn.now

    q : State
    q = state g.T.Store c.copy_holders.new.to.conn.now

    clean_b : HasCleanDisk b
    clean_b = omega (arith, clean, c.copy_holders.ensures.reads.within.survives.clean)

    clean_p : HasCleanDisk p
    clean_p = omega (arith, clean_to, c.copy_holders.ensures.within.survives.clean)

    apart : WereApart a o
    apart = subst (IsFirstIn a o) c.in_default.is (c.in_ok-holder.ensures.found clean_b clean_p)

pub returns-clause-reads : goal.returns-clause-reads
returns-clause-reads g c = reads_on c.in_ok-holder.ensures.reads c.in_ok-copy_holders.ensures.reads
