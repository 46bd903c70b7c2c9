use Rattle.std.proofs.Common.{◌≡◌, arith, refl, rules, true}
use Rattle.std.specs.Prelude.{IsTrue}
use Rattle.sqlite_schema.specs.declared.schema.Schema.{Schema}
use Rattle.sqlite.specs.Held.{state}
use Rattle.sqlite.specs.State.{HasCleanDisk, State, Survives}
use Rattle.typed_sql.specs.Reading.{OnlyRead, StaysInside}
use Rattle.typed_sql.specs.Writing.{HasSchema}
use Rattle.typed_sql.proofs.Outside.{looks_committed, looks_failed, looks_uncommitted}
use Rattle.td_store_rows.specs.Columns.{MetaIsFirst}
use Rattle.td_store_rows.specs.MetaTable.{IsTheMeta}
use Rattle.td_store_check.proofs.office.read_office.Goals as goal

pub returns-in_err-commit-clause-looks : goal.returns-in_err-commit-clause-looks
returns-in_err-commit-clause-looks g c =
    let o : State = state g.S.Store c.args.conn.now in
    let a : State = state g.S.Store (record c.args.conn.now { in_transaction = true }) in
    let m : State = state g.S.Store c.find_meta.new.tx.conn.now in
    let within : StaysInside true a m = rw c.transaction-tx.ensures.begun at c.in_ok-office.ensures.within in
    let still : HasCleanDisk m → (s : Schema) → MetaIsFirst s → OnlyRead s a m = rw c.transaction-tx.ensures.begun at c.in_ok-office.ensures.still in
    let shown : HasCleanDisk m → (s : Schema) → MetaIsFirst s → HasSchema a s → IsTrue a.is_open =
    rw c.transaction-tx.ensures.begun at c.in_ok-office.ensures.was_open in
    let seen : HasCleanDisk m → IsTrue o.is_open × (m.now ≡ o.now) = λ clean.
    let first : MetaIsFirst o.now.schema = c.requires.first (omega (arith, clean, within.survives.clean)) in
    (shown clean o.now.schema first (λ _. refl), (still clean o.now.schema first (λ _. refl)).now_is) in
    looks_failed c.from_residual-in_err-commit.result c.from_residual-in_err-commit.ensures.0
    (looks_uncommitted g.S.Store c.args.conn.now m _ c.see_settled.ensures.settled c.see_settled.ensures.committed within seen (search rules) {e = c.in_err-commit.field-0.0} (search rules))

pub returns-clause-looks : goal.returns-clause-looks
returns-clause-looks g c =
    let o : State = state g.S.Store c.args.conn.now in
    let a : State = state g.S.Store (record c.args.conn.now { in_transaction = true }) in
    let m : State = state g.S.Store c.find_meta.new.tx.conn.now in
    let within : StaysInside true a m = rw c.transaction-tx.ensures.begun at c.in_ok-office.ensures.within in
    let still : HasCleanDisk m → (s : Schema) → MetaIsFirst s → OnlyRead s a m = rw c.transaction-tx.ensures.begun at c.in_ok-office.ensures.still in
    let shown : HasCleanDisk m → (s : Schema) → MetaIsFirst s → HasSchema a s → IsTrue a.is_open =
    rw c.transaction-tx.ensures.begun at c.in_ok-office.ensures.was_open in
    let seen : HasCleanDisk m → IsTrue o.is_open × (m.now ≡ o.now) = λ clean.
    let first : MetaIsFirst o.now.schema = c.requires.first (omega (arith, clean, within.survives.clean)) in
    (shown clean o.now.schema first (λ _. refl), (still clean o.now.schema first (λ _. refl)).now_is) in
    looks_committed g.S.Store c.args.conn.now m _ c.see_settled.ensures.settled c.see_settled.ensures.committed within seen (search rules) (search rules)

pub returns-clause-found : goal.returns-clause-found
returns-clause-found g c clean =
    let o : State = state g.S.Store c.args.conn.now in
    let a : State = state g.S.Store (record c.args.conn.now { in_transaction = true }) in
    let m : State = state g.S.Store c.find_meta.new.tx.conn.now in
    let within : StaysInside true a m = rw c.transaction-tx.ensures.begun at c.in_ok-office.ensures.within in
    let e : State = state g.S.Store c.conn-2-1.given.0 in
    let ended : Survives m e (λ trees. trees ≡ m.now.trees) = search rules in
    let clean_m : HasCleanDisk m = omega (arith, clean, ended.clean) in
    let found : IsTheMeta a c.in_ok-office.office = rw c.transaction-tx.ensures.begun at c.in_ok-office.ensures.found clean_m in
    found o.now.schema (c.requires.first (omega (arith, clean_m, within.survives.clean))) (λ _. refl)
