use Rattle.std.proofs.Common.{rules, true, ◌≡◌, [], false, arith, subst, sym}
use Rattle.std.specs.Prelude.{OnOk, IsTrue}
use Rattle.sqlite_trees.specs.Tree.{Trees}
use Rattle.sqlite.specs.Effect.{Database}
use Rattle.sqlite.specs.Held.{state}
use Rattle.sqlite.specs.State.{State, HasCleanDisk, KeepsCounts, Shows, Survives}
use Rattle.sqlite.proofs.Callers.{survives_begin}
use Rattle.sqlite.proofs.StateLemmas.{survives_then}
use Rattle.typed_sql.proofs.Leaving.{on_ok}
use Rattle.td_migrate.specs.Grown.{AreGrown, GrowsFrom, MayLeaveGrown}
use Rattle.td_migrate.proofs.growing.grow.Goals as goal

pub returns-clause-grown : goal.returns-clause-grown
returns-clause-grown g c clean =
    let a : State = state g.S.Store (record c.args.conn.now { in_transaction = true }) in
    let b : State = state g.S.Store c.write_next.new.tx.conn.now in
    let e : State = state g.S.Store c.conn-2-1.given.0 in
    let ended : Survives b e (λ db. db ≡ b.now.trees) = search rules in
    let clean_b : HasCleanDisk b = omega (arith, clean, ended.clean) in
    let wrote : GrowsFrom c.args.version a.now b.now = rw c.transaction-tx.ensures.begun at (c.in_ok-write_next.ensures.written clean_b) in
    let committed : OnOk c.commit.result (IsTrue b.in_transaction × Shows b e b.now b.now false × KeepsCounts b e × (e.marks ≡ [])) = search rules in
    on_ok c.commit.result (λ done. subst (λ (x : Database). GrowsFrom c.args.version a.now x) (sym done.1.now_is) wrote) committed

pub returns-clause-crash : goal.returns-clause-crash
returns-clause-crash g c =
    let o : State = state g.S.Store c.args.conn.now in
    let a : State = state g.S.Store (record c.args.conn.now { in_transaction = true }) in
    let b : State = state g.S.Store c.write_next.new.tx.conn.now in
    let e : State = state g.S.Store c.conn-2-1.given.0 in
    let ended : Survives b e (λ db. db ≡ b.now.trees) = search rules in
    let written : Survives a b (λ _. ⊥) = rw c.transaction-tx.ensures.begun at c.write_next.ensures.within.survives in
    survives_begin g.S.Store c.args.conn.now e (MayLeaveGrown c.args.version o.now)
    (survives_then a b e (λ _. ⊥) (λ db. db ≡ b.now.trees) (MayLeaveGrown c.args.version o.now)
    (λ clean db none. absurd none)
    (λ clean db is l at content held.
    let clean_b : HasCleanDisk b = omega (arith, clean, ended.clean) in
    let wrote : GrowsFrom c.args.version a.now b.now = rw c.transaction-tx.ensures.begun at (c.in_ok-write_next.ensures.written clean_b) in
    subst (λ (trees : Trees). AreGrown l content a.now.trees trees) (sym is) (wrote l at content held).trees)
    written ended)
