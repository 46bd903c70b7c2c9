use Rattle.std.proofs.Common.{rules, ◌≡◌, ◌∙◌, [], ap, arith, false, true}
use Rattle.std.specs.Prelude.{IsTrue, OnOk}
use Rattle.sqlite.specs.Effect.{Database}
use Rattle.sqlite.specs.Held.{state}
use Rattle.sqlite.specs.State.{State, HasCleanDisk, KeepsCounts, Shows, Survives}
use Rattle.td_schema.specs.Tables.{IsEmptyOf}
use Rattle.td_schema.specs.Layouts.{schema_of}
use Rattle.td_schema.specs.Tables.{no_schema}
use Rattle.typed_sql.proofs.Leaving.{on_ok}
use Rattle.td_store_check.proofs.schema.make_store_tables.Goals as goal

pub returns : goal.returns
returns g c = λ clean.
    let a : State = state g.S.Store (record c.args.conn.now { in_transaction = true }) in
    let b : State = state g.S.Store c.make_tables.new.tx.conn.now in
    let e : State = state g.S.Store c.conn-2-1.given.0 in
    let ended : Survives b e (λ db. db ≡ b.now.trees) = search rules in
    let clean_b : HasCleanDisk b = omega (arith, clean, ended.clean) in
    let made : IsEmptyOf no_schema a.now → IsEmptyOf (schema_of c.args.layout) b.now =
    rw c.transaction-tx.ensures.begun at (c.in_ok-make_tables.ensures.made clean_b) in
    let committed : OnOk c.commit.result (IsTrue b.in_transaction × Shows b e b.now b.now false × KeepsCounts b e × (e.marks ≡ [])) = search rules in
    on_ok c.commit.result (λ done none. ap (λ (x : Database). x.schema) done.1.now_is ∙ (made none).schema) committed
