use Rattle.std.proofs.Common.{rules, true, false, ◌≡◌, ◌∙◌, [], arith, sym}
use Rattle.std.specs.Prelude.{IsTrue}
use Rattle.sqlite.specs.Held.{state}
use Rattle.sqlite.specs.State.{HasCleanDisk, KeepsCounts, Shows, State, Survives}
use Rattle.sqlite.specs.Steps.{FailsToCommit}
use Rattle.td_schema.specs.Layouts.{IsNewest}
use Rattle.td_store_rows.specs.StoreReads.{ReadsNewest}
use Rattle.td_store_rows.proofs.StoreReads.{seen_still}
use Rattle.typed_sql.proofs.OnlyRead.{stays_on}
use Rattle.typed_sql.proofs.Outside.{looks_committed, looks_failed, looks_uncommitted}
use Rattle.td_extract.proofs.Copied.{looks_dropped}
use Rattle.td_extract.proofs.extracting.write_from.Goals as goal

pub returns-in_err-commit-clause-looks : goal.returns-in_err-commit-clause-looks
returns-in_err-commit-clause-looks g c =
    looks_failed c.from_residual-in_err-commit.result c.from_residual-in_err-commit.ensures.0
    (looks_uncommitted g.S.Store c.args.from.now m _ c.see_settled.ensures.settled c.see_settled.ensures.committed
    (stays_on reads.within c.in_ok-see_open.ensures.within)
    (seen_still g.S.Store IsNewest c.args.from.now l m c.requires.tables reads c.in_ok-see_open.ensures.within c.in_ok-see_open.ensures.still)
    ended {e = c.in_err-commit.field-0.0} failed)
  where
    l : State
    l = state g.S.Store c.write_extract.new.from.conn.now

    m : State
    m = state g.S.Store c.see_open.new.tx.conn.now

    e : State
    e = state g.S.Store c.from-2-1.given.0

    reads : ReadsNewest true (state g.S.Store (record c.args.from.now { in_transaction = true })) l
    reads = rw c.transaction-tx.ensures.begun at c.in_ok-write_extract.ensures.reads

    ended : Survives m e (λ db. db ≡ m.now.trees)
    ended = search (rules, c.from-2-1.given.1 (sym (c.see_open.ensures.same_reference ∙ c.write_extract.ensures.same_source ∙ c.transaction-tx.ensures.same_reference)), c.in_err-commit.ensures.survives)

    failed : HasCleanDisk e → FailsToCommit m e c.in_err-commit.field-0.0
    failed = search (rules, c.from-2-1.given.1 (sym (c.see_open.ensures.same_reference ∙ c.write_extract.ensures.same_source ∙ c.transaction-tx.ensures.same_reference)), c.in_err-commit.ensures.err)

pub returns-clause-looks : goal.returns-clause-looks
returns-clause-looks g c =
    looks_committed g.S.Store c.args.from.now m _ c.see_settled.ensures.settled c.see_settled.ensures.committed
    (stays_on reads.within c.in_ok-see_open.ensures.within)
    (seen_still g.S.Store IsNewest c.args.from.now l m c.requires.tables reads c.in_ok-see_open.ensures.within c.in_ok-see_open.ensures.still)
    ended committed
  where
    l : State
    l = state g.S.Store c.write_extract.new.from.conn.now

    m : State
    m = state g.S.Store c.see_open.new.tx.conn.now

    e : State
    e = state g.S.Store c.from-2-1.given.0

    reads : ReadsNewest true (state g.S.Store (record c.args.from.now { in_transaction = true })) l
    reads = rw c.transaction-tx.ensures.begun at c.in_ok-write_extract.ensures.reads

    ended : Survives m e (λ db. db ≡ m.now.trees)
    ended = search (rules, c.from-2-1.given.1 (sym (c.see_open.ensures.same_reference ∙ c.write_extract.ensures.same_source ∙ c.transaction-tx.ensures.same_reference)), c.in_ok-commit.ensures.survives)

    committed : HasCleanDisk e → IsTrue m.in_transaction × Shows m e m.now m.now false × KeepsCounts m e × (e.marks ≡ [])
    committed = search (rules, c.from-2-1.given.1 (sym (c.see_open.ensures.same_reference ∙ c.write_extract.ensures.same_source ∙ c.transaction-tx.ensures.same_reference)), c.in_ok-commit.ensures.ok)

pub returns-in_err-see_open-clause-looks : goal.returns-in_err-see_open-clause-looks
returns-in_err-see_open-clause-looks g c =
    looks_failed c.from_residual-in_err-see_open.result c.from_residual-in_err-see_open.ensures.0
    (looks_dropped g.S.Store c.args.from.now (state g.S.Store c.see_open.new.tx.conn.now) _ c.see_settled.ensures.committed
    (stays_on reads.within c.in_err-see_open.ensures.within) (search rules) (search rules))
  where
    reads : ReadsNewest true (state g.S.Store (record c.args.from.now { in_transaction = true })) (state g.S.Store c.write_extract.new.from.conn.now)
    reads = rw c.transaction-tx.ensures.begun at c.in_ok-write_extract.ensures.reads

pub returns-clause-written : goal.returns-clause-written
returns-clause-written g c clean clean_to content holds =
    let l : State = state g.S.Store c.write_extract.new.from.conn.now in
    let m : State = state g.S.Store c.see_open.new.tx.conn.now in
    let ended : Survives m (state g.S.Store c.from-2-1.given.0) (λ db. db ≡ m.now.trees) = search rules in
    let clean_m : HasCleanDisk m = omega (arith, clean, ended.clean) in
    let clean_l : HasCleanDisk l = omega (arith, clean_m, c.in_ok-see_open.ensures.within.survives.clean) in
    (rw c.transaction-tx.ensures.begun at (c.in_ok-write_extract.ensures.written clean_l clean_to)) content (record { trees = holds.trees; schema = holds.schema })

pub returns-clause-schema : goal.returns-clause-schema
returns-clause-schema g c clean clean_to content holds =
    let l : State = state g.S.Store c.write_extract.new.from.conn.now in
    let m : State = state g.S.Store c.see_open.new.tx.conn.now in
    let ended : Survives m (state g.S.Store c.from-2-1.given.0) (λ db. db ≡ m.now.trees) = search rules in
    let clean_m : HasCleanDisk m = omega (arith, clean, ended.clean) in
    let clean_l : HasCleanDisk l = omega (arith, clean_m, c.in_ok-see_open.ensures.within.survives.clean) in
    (rw c.transaction-tx.ensures.begun at (c.in_ok-write_extract.ensures.schema clean_l clean_to)) content (record { trees = holds.trees; schema = holds.schema })
