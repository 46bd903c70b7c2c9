use Rattle.std.proofs.Common.{rules, true, ◌≡◌, ◌∙◌, [], refl, sym, false, arith}
use Rattle.std.specs.Prelude.{OnOk, IsTrue}
use Rattle.sqlite.specs.Held.{state}
use Rattle.sqlite.specs.State.{State, HasCleanDisk, IsUnchanged, KeepsCounts, Shows, Survives}
use Rattle.sqlite.proofs.Callers.{survives_begin}
use Rattle.sqlite.proofs.StateLemmas.{survives_then}
use Rattle.td_store_write.specs.Written.{WritesChange}
use Rattle.td_store_write.specs.Carried.{MayLeave}
use Rattle.typed_sql.proofs.Leaving.{on_ok}
use Rattle.td_store_write.proofs.After.{carried_as, inside, left}
use Rattle.td_store_write.proofs.carrying.carry_change.Goals as goal

pub returns-clause-carried : goal.returns-clause-carried
returns-clause-carried g c clean =
    let o : State = state g.S.Store c.args.conn.now in
    let a : State = state g.S.Store (record c.args.conn.now { in_transaction = true }) in
    let m : State = state g.S.Store c.see_open.new.tx.conn.now in
    let b : State = state g.S.Store c.write_change.new.tx.conn.now in
    let e : State = state g.S.Store c.conn-2-1.given.0 in
    let ended : Survives b e (λ db. db ≡ b.now.trees) = search rules in
    let clean_b : HasCleanDisk b = omega (arith, clean, ended.clean) in
    let clean_m : HasCleanDisk m = omega (arith, clean_b, c.write_change.ensures.within.survives.clean) in
    let seen : IsUnchanged a m = rw c.transaction-tx.ensures.begun at (c.in_ok-see_open.ensures.still clean_m) in
    let wrote : WritesChange c.args.country c.args.change.now m b = c.in_ok-write_change.ensures.written clean_b in
    let committed : OnOk c.commit.result (IsTrue b.in_transaction × Shows b e b.now b.now false × KeepsCounts b e × (e.marks ≡ [])) = search rules in
    on_ok c.commit.result (λ done. carried_as c.args.country c.args.change.now o m b e seen.0.now_is (seen.0.was_open ∙ sym seen.0.is_open)
    done.1.now_is (done.1.was_open ∙ sym done.1.is_open) (inside c.args.country c.args.change.now m b wrote)) committed

pub returns-clause-crash : goal.returns-clause-crash
returns-clause-crash g c =
    let o : State = state g.S.Store c.args.conn.now in
    let a : State = state g.S.Store (record c.args.conn.now { in_transaction = true }) in
    let m : State = state g.S.Store c.see_open.new.tx.conn.now in
    let b : State = state g.S.Store c.write_change.new.tx.conn.now in
    let e : State = state g.S.Store c.conn-2-1.given.0 in
    let ended : Survives b e (λ db. db ≡ b.now.trees) = search rules in
    let seeing : Survives a m (λ _. ⊥) = rw c.transaction-tx.ensures.begun at c.see_open.ensures.within.survives in
    let written : Survives a b (λ _. ⊥) =
    survives_then a m b (λ _. ⊥) (λ _. ⊥) (λ _. ⊥) (λ _ db none. none) (λ _ db none. none) seeing c.write_change.ensures.within.survives in
    survives_begin g.S.Store c.args.conn.now e (MayLeave c.args.country c.args.change.now o)
    (survives_then a b e (λ _. ⊥) (λ db. db ≡ b.now.trees) (MayLeave c.args.country c.args.change.now o)
    (λ clean db none. absurd none)
    (λ clean db is.
    let clean_b : HasCleanDisk b = omega (arith, clean, ended.clean) in
    let clean_m : HasCleanDisk m = omega (arith, clean_b, c.write_change.ensures.within.survives.clean) in
    let seen : IsUnchanged a m = rw c.transaction-tx.ensures.begun at (c.in_ok-see_open.ensures.still clean_m) in
    let wrote : WritesChange c.args.country c.args.change.now m b = c.in_ok-write_change.ensures.written clean_b in
    left c.args.country c.args.change.now o b db seen.0.was_open is
    (carried_as c.args.country c.args.change.now o m b b seen.0.now_is (seen.0.was_open ∙ sym seen.0.is_open) refl refl
    (inside c.args.country c.args.change.now m b wrote)))
    written ended)
