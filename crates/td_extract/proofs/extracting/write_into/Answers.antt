use Rattle.std.proofs.Common.{rules, true, false, ◌≡◌, ◌∙◌, [], ap, refl, subst, sym, arith}
use Rattle.std.specs.Prelude.{OnOk, IsTrue}
use Rattle.sqlite.specs.Effect.{Database}
use Rattle.sqlite.specs.Held.{state}
use Rattle.sqlite.specs.State.{State, HasCleanDisk, IsUnchanged, KeepsCounts, Shows, Survives}
use Rattle.sqlite.proofs.Callers.{survives_begin}
use Rattle.sqlite.proofs.StateLemmas.{survives_then}
use Rattle.td_store_rows.specs.StoreTables.{AreTreesOf}
use Rattle.td_store_rows.proofs.Holding.{holds_still}
use Rattle.typed_sql.specs.Reading.{StaysInside}
use Rattle.typed_sql.proofs.Leaving.{on_ok}
use Rattle.typed_sql.proofs.OnlyRead.{stays_on}
use Rattle.td_extract.specs.Between.{content_between}
use Rattle.td_extract.specs.Extracted.{Extracts, MakesTables, MayLeaveExtract}
use Rattle.td_extract.proofs.extracting.write_into.Goals as goal

pub returns-clause-extracted : goal.returns-clause-extracted
returns-clause-extracted g c clean clean_to =
    let s : State = state g.S.Store c.args.from.now in
    let a : State = state g.T.Store (record c.args.to.now { in_transaction = true }) in
    let b : State = state g.T.Store c.write_from.new.to.conn.now in
    let m : State = state g.T.Store c.see_open.new.tx.conn.now in
    let e : State = state g.T.Store c.to-2-1.given.0 in
    let ended : Survives m e (λ db. db ≡ m.now.trees) = search rules in
    let clean_m : HasCleanDisk m = omega (arith, clean_to, ended.clean) in
    let clean_b : HasCleanDisk b = omega (arith, clean_m, c.see_open.ensures.within.survives.clean) in
    let wrote : Extracts c.args.country c.args.first c.args.last s a b =
    rw c.transaction-tx.ensures.begun at (c.in_ok-write_from.ensures.written clean clean_b) in
    let seen : IsUnchanged b m = c.in_ok-see_open.ensures.still clean_m in
    let committed : OnOk c.commit.result (IsTrue m.in_transaction × Shows m e m.now m.now false × KeepsCounts m e × (e.marks ≡ [])) = search rules in
    on_ok c.commit.result (λ done content holds at none.
    holds_still (content_between c.args.first c.args.last content) b e (done.1.now_is ∙ seen.0.now_is) (λ _. seen.0.was_open) (wrote content holds at none)) committed

pub returns-clause-schema : goal.returns-clause-schema
returns-clause-schema g c clean clean_to =
    let s : State = state g.S.Store c.args.from.now in
    let a : State = state g.T.Store (record c.args.to.now { in_transaction = true }) in
    let b : State = state g.T.Store c.write_from.new.to.conn.now in
    let m : State = state g.T.Store c.see_open.new.tx.conn.now in
    let e : State = state g.T.Store c.to-2-1.given.0 in
    let ended : Survives m e (λ db. db ≡ m.now.trees) = search rules in
    let clean_m : HasCleanDisk m = omega (arith, clean_to, ended.clean) in
    let clean_b : HasCleanDisk b = omega (arith, clean_m, c.see_open.ensures.within.survives.clean) in
    let made : MakesTables c.args.country s a b = rw c.transaction-tx.ensures.begun at (c.in_ok-write_from.ensures.schema clean clean_b) in
    let seen : IsUnchanged b m = c.in_ok-see_open.ensures.still clean_m in
    let committed : OnOk c.commit.result (IsTrue m.in_transaction × Shows m e m.now m.now false × KeepsCounts m e × (e.marks ≡ [])) = search rules in
    on_ok c.commit.result (λ done content holds at none live.
    ap (λ (d : Database). d.schema) (done.1.now_is ∙ seen.0.now_is) ∙ made content holds at none seen.0.was_open) committed

pub returns-clause-crash : goal.returns-clause-crash
returns-clause-crash g c =
    let s : State = state g.S.Store c.args.from.now in
    let s_end : State = state g.S.Store c.write_from.new.from in
    let o : State = state g.T.Store c.args.to.now in
    let a : State = state g.T.Store (record c.args.to.now { in_transaction = true }) in
    let b : State = state g.T.Store c.write_from.new.to.conn.now in
    let m : State = state g.T.Store c.see_open.new.tx.conn.now in
    let e : State = state g.T.Store c.to-2-1.given.0 in
    let ended : Survives m e (λ db. db ≡ m.now.trees) = search rules in
    let begun : StaysInside true a b = rw c.transaction-tx.ensures.begun at c.in_ok-write_from.ensures.within in
    let written : StaysInside true a m = stays_on begun c.in_ok-see_open.ensures.within in
    survives_begin g.T.Store c.args.to.now e (MayLeaveExtract c.args.country c.args.first c.args.last s s_end o)
    (survives_then a m e (λ _. ⊥) (λ db. db ≡ m.now.trees) (MayLeaveExtract c.args.country c.args.first c.args.last s s_end o)
    (λ clean db none. absurd none)
    (λ clean db is.
    let clean_m : HasCleanDisk m = omega (arith, clean, ended.clean) in
    let clean_b : HasCleanDisk b = omega (arith, clean_m, c.see_open.ensures.within.survives.clean) in
    let seen : IsUnchanged b m = c.in_ok-see_open.ensures.still clean_m in (
      (written.kept clean_m refl).was_open seen.0.is_open,
      λ clean_from content holds at none.
          let wrote : Extracts c.args.country c.args.first c.args.last s a b =
          rw c.transaction-tx.ensures.begun at (c.in_ok-write_from.ensures.written clean_from clean_b) in
          subst (AreTreesOf (content_between c.args.first c.args.last content)) (sym (is ∙ ap (λ (x : Database). x.trees) seen.0.now_is))
          (wrote content holds at none).trees,
    ))
    written.survives ended)
