use Rattle.std.proofs.Common.{rules, true, false, ◌≡◌, ◌∙◌, [], arith}
use Rattle.std.specs.Prelude.{IsTrue}
use Rattle.sqlite.specs.Held.{state}
use Rattle.sqlite.specs.State.{State, HasCleanDisk, IsUnchanged, KeepsCounts, Shows, Survives}
use Rattle.td_store_rows.proofs.Holding.{holds_still}
use Rattle.td_join.specs.Joined.{joined}
use Rattle.td_join.specs.Joining.{Joins, TellsWhoStood}
use Rattle.td_join.proofs.Begun.{answered, held_begun, may_leave, told_of_second}
use Rattle.td_join.proofs.joining.join_into.Goals as goal

pub returns-in_err-join_from-clause-stands : goal.returns-in_err-join_from-clause-stands
returns-in_err-join_from-clause-stands g c clean clean_to =
    let s : State = state g.S.Store c.args.from.now in
    let b : State = state g.T.Store c.join_from.new.to.conn.now in
    let dropped : Survives b (state g.T.Store c.to-1.given.0) (λ _. ⊥) = search rules in
    let clean_b : HasCleanDisk b = omega (arith, clean_to, dropped.clean) in
    answered (TellsWhoStood s (state g.T.Store c.args.to.now)) c.from_residual.result c.in_err-join_from.field-0.0 c.from_residual.ensures.1
    (told_of_second g.T.Store c.args.to.now s c.in_err-join_from.field-0.0
    (rw c.transaction-tx.ensures.begun at (c.in_err-join_from.ensures.stands clean clean_b)))

pub returns-in_err-commit-clause-crash : goal.returns-in_err-commit-clause-crash
returns-in_err-commit-clause-crash g c =
    may_leave g.T.Store c.args.to.now (state g.S.Store c.args.from.now) (state g.S.Store c.join_from.new.from) (state g.T.Store c.join_from.new.to.conn.now) m
    (state g.T.Store c.to-2-1.given.0) (rw c.transaction-tx.ensures.begun at c.in_ok-join_from.ensures.within) c.in_ok-see_open.ensures.within c.in_ok-see_open.ensures.still
    (rw c.transaction-tx.ensures.begun at c.in_ok-join_from.ensures.joined) ended
  where
    m : State
    m = state g.T.Store c.see_open.new.tx.conn.now

    ended : Survives m (state g.T.Store c.to-2-1.given.0) (λ db. db ≡ m.now.trees)
    ended = search rules

pub returns-clause-joined : goal.returns-clause-joined
returns-clause-joined g c clean clean_to content other holds others country =
    let s : State = state g.S.Store c.args.from.now in
    let a : State = state g.T.Store (record c.args.to.now { in_transaction = true }) in
    let b : State = state g.T.Store c.join_from.new.to.conn.now in
    let m : State = state g.T.Store c.see_open.new.tx.conn.now in
    let e : State = state g.T.Store c.to-2-1.given.0 in
    let ended : Survives m e (λ db. db ≡ m.now.trees) = search rules in
    let clean_m : HasCleanDisk m = omega (arith, clean_to, ended.clean) in
    let clean_b : HasCleanDisk b = omega (arith, clean_m, c.see_open.ensures.within.survives.clean) in
    let wrote : Joins s a b = rw c.transaction-tx.ensures.begun at (c.in_ok-join_from.ensures.joined clean clean_b) in
    let seen : IsUnchanged b m = c.in_ok-see_open.ensures.still clean_m in
    let committed : IsTrue m.in_transaction × Shows m e m.now m.now false × KeepsCounts m e × (e.marks ≡ []) = search rules in
    holds_still (joined content other) b e (committed.1.now_is ∙ seen.0.now_is) (λ _. seen.0.was_open)
    (wrote content other holds (held_begun g.T.Store c.args.to.now other others) country)

pub returns-clause-apart : goal.returns-clause-apart
returns-clause-apart g c clean clean_to content other holds others =
    let b : State = state g.T.Store c.join_from.new.to.conn.now in
    let m : State = state g.T.Store c.see_open.new.tx.conn.now in
    let ended : Survives m (state g.T.Store c.to-2-1.given.0) (λ db. db ≡ m.now.trees) = search rules in
    let clean_m : HasCleanDisk m = omega (arith, clean_to, ended.clean) in
    let clean_b : HasCleanDisk b = omega (arith, clean_m, c.see_open.ensures.within.survives.clean) in
    (rw c.transaction-tx.ensures.begun at (c.in_ok-join_from.ensures.apart clean clean_b)) content other holds (held_begun g.T.Store c.args.to.now other others)

pub returns-clause-crash : goal.returns-clause-crash
returns-clause-crash g c =
    may_leave g.T.Store c.args.to.now (state g.S.Store c.args.from.now) (state g.S.Store c.join_from.new.from) (state g.T.Store c.join_from.new.to.conn.now) m
    (state g.T.Store c.to-2-1.given.0) (rw c.transaction-tx.ensures.begun at c.in_ok-join_from.ensures.within) c.in_ok-see_open.ensures.within c.in_ok-see_open.ensures.still
    (rw c.transaction-tx.ensures.begun at c.in_ok-join_from.ensures.joined) ended
  where
    m : State
    m = state g.T.Store c.see_open.new.tx.conn.now

    ended : Survives m (state g.T.Store c.to-2-1.given.0) (λ db. db ≡ m.now.trees)
    ended = search rules
