use Rattle.std.proofs.Common.{◌≡◌, arith, rules, sym, true}
use Rattle.std.specs.Prelude.{IsTrue}
use Rattle.sqlite.specs.Held.{state}
use Rattle.sqlite.specs.State.{HasCleanDisk, State, Survives}
use Rattle.typed_sql.specs.Reading.{StaysInside}
use Rattle.td_store_rows.specs.StoreReads.{IsOfVersion, LeavesVersion, ReadsVersion}
use Rattle.td_store_rows.proofs.StoreReads.{seen_still}
use Rattle.typed_sql.proofs.OnlyRead.{one_read, stays_on}
use Rattle.typed_sql.proofs.Outside.{looks_committed, looks_failed, looks_uncommitted}
use Rattle.td_store_check.proofs.Judged.{rules_told}
use Rattle.td_store_check.proofs.judging.broken_rule.Goals as goal

pub returns-in_err-commit-clause-looks : goal.returns-in_err-commit-clause-looks
returns-in_err-commit-clause-looks g c =
    let o : State = state g.S.Store c.args.conn.now in
    let a : State = state g.S.Store (record c.args.conn.now { in_transaction = true }) in
    let l : State = state g.S.Store c.first_broken.new.tx.conn.now in
    let m : State = state g.S.Store c.see_open.new.tx.conn.now in
    let first = c.in_ok-broken.ensures in
    let still : HasCleanDisk l → LeavesVersion c.version_in.result a l = rw c.transaction-tx.ensures.begun at first.still in
    let within : StaysInside true a l = rw c.transaction-tx.ensures.begun at first.within in
    let reads : ReadsVersion c.version_in.result true a l = record {
      still = λ clean well layout at. one_read a l (still clean layout at);
      within = within;
    } in
    let seen = seen_still g.S.Store (IsOfVersion c.version_in.result) c.args.conn.now l m
    (λ clean. (c.args.layout, sym c.version_in.ensures, λ _. c.requires.tables clean)) reads
    c.in_ok-see_open.ensures.within c.in_ok-see_open.ensures.still in
    looks_failed c.from_residual-in_err-commit.result c.from_residual-in_err-commit.ensures.0
    (looks_uncommitted g.S.Store c.args.conn.now m _ c.see_settled.ensures.settled c.see_settled.ensures.committed
    (stays_on reads.within c.in_ok-see_open.ensures.within) seen (search rules) {e = c.in_err-commit.field-0.0} (search rules))

pub returns-clause-looks : goal.returns-clause-looks
returns-clause-looks g c =
    let o : State = state g.S.Store c.args.conn.now in
    let a : State = state g.S.Store (record c.args.conn.now { in_transaction = true }) in
    let l : State = state g.S.Store c.first_broken.new.tx.conn.now in
    let m : State = state g.S.Store c.see_open.new.tx.conn.now in
    let first = c.in_ok-broken.ensures in
    let still : HasCleanDisk l → LeavesVersion c.version_in.result a l = rw c.transaction-tx.ensures.begun at first.still in
    let within : StaysInside true a l = rw c.transaction-tx.ensures.begun at first.within in
    let reads : ReadsVersion c.version_in.result true a l = record {
      still = λ clean well layout at. one_read a l (still clean layout at);
      within = within;
    } in
    let seen = seen_still g.S.Store (IsOfVersion c.version_in.result) c.args.conn.now l m
    (λ clean. (c.args.layout, sym c.version_in.ensures, λ _. c.requires.tables clean)) reads
    c.in_ok-see_open.ensures.within c.in_ok-see_open.ensures.still in
    looks_committed g.S.Store c.args.conn.now m _ c.see_settled.ensures.settled c.see_settled.ensures.committed
    (stays_on reads.within c.in_ok-see_open.ensures.within) seen (search rules) (search rules)

pub returns-clause-told : goal.returns-clause-told
returns-clause-told g c clean =
    let o : State = state g.S.Store c.args.conn.now in
    let a : State = state g.S.Store (record c.args.conn.now { in_transaction = true }) in
    let l : State = state g.S.Store c.first_broken.new.tx.conn.now in
    let m : State = state g.S.Store c.see_open.new.tx.conn.now in
    let e : State = state g.S.Store c.conn-2-1.given.0 in
    let ended : Survives m e (λ db. db ≡ m.now.trees) = search rules in
    let clean_m : HasCleanDisk m = omega (arith, clean, ended.clean) in
    let clean_l : HasCleanDisk l = omega (arith, clean_m, c.in_ok-see_open.ensures.within.survives.clean) in
    let survives : Survives a l (λ _. ⊥) = rw c.transaction-tx.ensures.begun at c.in_ok-broken.ensures.within.survives in
    let clean_o : HasCleanDisk o = omega (arith, clean_l, survives.clean) in
    let left : HasCleanDisk l → LeavesVersion c.version_in.result a l = rw c.transaction-tx.ensures.begun at c.in_ok-broken.ensures.still in
    let is_open : IsTrue o.is_open = (left clean_l c.args.layout (sym c.version_in.ensures) (λ _. c.requires.tables clean_o)).0.was_open in
    rules_told o c.args.layout c.database_keeps.ensures is_open (c.requires.tables clean_o) c.args.readable c.in_ok-broken.broken
    (rw c.version_in.ensures at (rw c.transaction-tx.ensures.begun at (c.in_ok-broken.ensures.told clean_l)))
