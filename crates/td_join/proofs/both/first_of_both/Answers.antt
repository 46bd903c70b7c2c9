use Rattle.std.proofs.Common.{◌∙◌, refl, sym, subst}
use Rattle.sqlite.specs.Held.{state}
use Rattle.sqlite.specs.State.{State}
use Rattle.td_store_rows.proofs.StoreReads.{anywhere, reads_on}
use Rattle.td_extract.specs.Extracted.{IsNextOf}
use Rattle.td_join.proofs.Held.{reads_failed}
use Rattle.td_join.proofs.Walked.{HasMetNone, met_all, met_nobody, met_none_more, met_one}
use Rattle.td_join.proofs.both.first_of_both.Goals as goal

pub holders-init : goal.holders-init
holders-init g c = (
  refl,
  refl,
  met_nobody (state g.S.Store c.args.from.now.conn.now) (state g.T.Store c.args.to.now.conn.now),
)

pub returns-in_err-other-clause-looks : goal.returns-in_err-other-clause-looks
returns-in_err-other-clause-looks g c =
    reads_failed c.from_residual-in_err-other.result c.from_residual-in_err-other.ensures.0
    (reads_on c.holders.invariant.2.looks (anywhere c.in_err-other.ensures.reads))

pub returns-then-is_some-clause-reads : goal.returns-then-is_some-clause-reads
returns-then-is_some-clause-reads g c = reads_on c.holders.invariant.2.reads c.in_ok-row.ensures.reads

pub returns-then-is_some-clause-looks : goal.returns-then-is_some-clause-looks
returns-then-is_some-clause-looks g c = reads_on c.holders.invariant.2.looks (anywhere c.in_ok-other.ensures.reads)

pub returns-then-is_some-clause-found : goal.returns-then-is_some-clause-found
returns-then-is_some-clause-found g c clean clean_to =
    met_one c.holders.number 999999 (state g.S.Store c.args.from.now.conn.now) b m (state g.T.Store c.args.to.now.conn.now) p q c.holders.invariant.2
    c.in_ok-row.ensures.reads c.in-Some.row (λ clean. subst (IsNextOf c.holders.number 999999 b) c.in-Some.is (c.in_ok-row.ensures.found clean))
    (anywhere c.in_ok-other.ensures.reads) c.in_ok-other.other c.in_ok-other.ensures.found (sym c.is_some.ensures ∙ c.if-is_some.true) clean clean_to
  where
    b : State
    b = state g.S.Store c.holders.from.conn.now

    m : State
    m = state g.S.Store c.next_holder.new.tx.conn.now

    p : State
    p = state g.T.Store c.holders.to.conn.now

    q : State
    q = state g.T.Store c.find_holder.new.tx.conn.now

pub holders-preserved : goal.holders-preserved
holders-preserved g c = (
  c.next_holder.ensures.same_reference ∙ c.holders.invariant.0,
  c.find_holder.ensures.same_reference ∙ c.holders.invariant.1,
  subst (λ n. HasMetNone n a m o q) (sym c.number-number.ensures.value)
      (met_none_more c.holders.number 999999 a b m o p q c.holders.invariant.2
      c.in_ok-row.ensures.reads c.in-Some.row (λ clean. subst (IsNextOf c.holders.number 999999 b) c.in-Some.is (c.in_ok-row.ensures.found clean))
      (anywhere c.in_ok-other.ensures.reads) c.in_ok-other.other c.in_ok-other.ensures.found (sym c.is_some.ensures ∙ c.if-is_some.false)),
)
  where
    a : State
    a = state g.S.Store c.args.from.now.conn.now

    b : State
    b = state g.S.Store c.holders.from.conn.now

    m : State
    m = state g.S.Store c.next_holder.new.tx.conn.now

    o : State
    o = state g.T.Store c.args.to.now.conn.now

    p : State
    p = state g.T.Store c.holders.to.conn.now

    q : State
    q = state g.T.Store c.find_holder.new.tx.conn.now

pub returns-clause-found : goal.returns-clause-found
returns-clause-found g c clean clean_to =
    met_all c.holders.number (state g.S.Store c.args.from.now.conn.now) b (state g.S.Store c.next_holder.new.tx.conn.now) (state g.T.Store c.args.to.now.conn.now)
    (state g.T.Store c.holders.to.conn.now) c.holders.invariant.2 c.in_ok-row.ensures.reads
    (λ clean. subst (IsNextOf c.holders.number 999999 b) c.in_default.is (c.in_ok-row.ensures.found clean)) clean clean_to
  where
    b : State
    b = state g.S.Store c.holders.from.conn.now
