use Rattle.std.proofs.Common.{◌≡◌, arith, rules, true}
use Rattle.sqlite.specs.Held.{state}
use Rattle.sqlite.specs.State.{HasCleanDisk, State, Survives}
use Rattle.td_schema.specs.Layouts.{IsNewest}
use Rattle.td_store_rows.specs.StoreReads.{ReadsNewest}
use Rattle.td_store_rows.proofs.StoreReads.{seen_still}
use Rattle.typed_sql.proofs.OnlyRead.{stays_on}
use Rattle.typed_sql.proofs.Outside.{looks_committed, looks_failed, looks_uncommitted}
use Rattle.td_store_load.proofs.alone.read_following_guarantee.Goals as goal

pub returns-in_err-commit-clause-looks : goal.returns-in_err-commit-clause-looks
returns-in_err-commit-clause-looks g c =
    let o : State = state g.S.Store c.args.conn.now in
    let a : State = state g.S.Store (record c.args.conn.now { in_transaction = true }) in
    let l : State = state g.S.Store c.following_guarantee.new.tx.conn.now in
    let m : State = state g.S.Store c.see_open.new.tx.conn.now in
    let reads : ReadsNewest true a l = rw c.transaction-tx.ensures.begun at c.in_ok-found.ensures.reads in
    let seen = seen_still g.S.Store IsNewest c.args.conn.now l m c.requires.tables reads
    c.in_ok-see_open.ensures.within c.in_ok-see_open.ensures.still in
    looks_failed c.from_residual-in_err-commit.result c.from_residual-in_err-commit.ensures.0
    (looks_uncommitted g.S.Store c.args.conn.now m _ c.see_settled.ensures.settled c.see_settled.ensures.committed
    (stays_on reads.within c.in_ok-see_open.ensures.within) seen (search rules) {e = c.in_err-commit.field-0.0} (search rules))

pub returns-clause-looks : goal.returns-clause-looks
returns-clause-looks g c =
    let o : State = state g.S.Store c.args.conn.now in
    let a : State = state g.S.Store (record c.args.conn.now { in_transaction = true }) in
    let l : State = state g.S.Store c.following_guarantee.new.tx.conn.now in
    let m : State = state g.S.Store c.see_open.new.tx.conn.now in
    let reads : ReadsNewest true a l = rw c.transaction-tx.ensures.begun at c.in_ok-found.ensures.reads in
    let seen = seen_still g.S.Store IsNewest c.args.conn.now l m c.requires.tables reads
    c.in_ok-see_open.ensures.within c.in_ok-see_open.ensures.still in
    looks_committed g.S.Store c.args.conn.now m _ c.see_settled.ensures.settled c.see_settled.ensures.committed
    (stays_on reads.within c.in_ok-see_open.ensures.within) seen (search rules) (search rules)

pub returns-clause-found : goal.returns-clause-found
returns-clause-found g c clean content holds =
    let l : State = state g.S.Store c.following_guarantee.new.tx.conn.now in
    let m : State = state g.S.Store c.see_open.new.tx.conn.now in
    let ended : Survives m (state g.S.Store c.conn-2-1.given.0) (λ db. db ≡ m.now.trees) = search rules in
    let clean_m : HasCleanDisk m = omega (arith, clean, ended.clean) in
    let clean_l : HasCleanDisk l = omega (arith, clean_m, c.in_ok-see_open.ensures.within.survives.clean) in
    (rw c.transaction-tx.ensures.begun at (c.in_ok-found.ensures.found clean_l)) content (record { trees = holds.trees; schema = holds.schema })
