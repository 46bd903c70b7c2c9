use Rattle.std.proofs.Common.{rules, true, false, ◌≡◌, ◌∙◌, [], ◌∷◌, ap, refl, subst, sym, arith}
use Rattle.std.specs.Prelude.{OnOk, IsTrue}
use Rattle.sqlite.specs.Effect.{Database}
use Rattle.sqlite.specs.Held.{state}
use Rattle.sqlite.specs.State.{State, HasCleanDisk, IsUnchanged, KeepsCounts, Shows, Survives}
use Rattle.sqlite.proofs.Callers.{survives_begin}
use Rattle.sqlite.proofs.StateLemmas.{survives_then}
use Rattle.sqlite_trees.specs.Tree.{Trees}
use Rattle.td_model.specs.Content.{empty_content}
use Rattle.td_schema.specs.Tables.{IsEmptyOf, no_schema}
use Rattle.td_schema.specs.Layouts.{desk_schema, newest_version}
use Rattle.td_store_rows.specs.Columns.{meta_row}
use Rattle.td_store_rows.specs.MetaTable.{TurnsMeta}
use Rattle.td_store_rows.specs.StoreTables.{AreTreesOf}
use Rattle.typed_sql.specs.Reading.{StaysInside}
use Rattle.typed_sql.proofs.Leaving.{on_ok}
use Rattle.typed_sql.proofs.OnlyRead.{stays_on}
use Rattle.td_store_write.specs.Created.{MayLeaveEmpty}
use Rattle.td_store_write.proofs.Made.{holds_empty, of_empty_desk}
use Rattle.td_store_write.proofs.creating.create_tables.Goals as goal

pub returns-clause-created : goal.returns-clause-created
returns-clause-created g c clean =
    let a : State = state g.S.Store (record c.args.conn.now { in_transaction = true }) in
    let b : State = state g.S.Store c.make_tables.new.tx.conn.now in
    let d : State = state g.S.Store c.insert_meta.new.tx.conn.now in
    let m : State = state g.S.Store c.see_open.new.tx.conn.now in
    let e : State = state g.S.Store c.conn-2-1.given.0 in
    let ended : Survives m e (λ db. db ≡ m.now.trees) = search rules in
    let clean_m : HasCleanDisk m = omega (arith, clean, ended.clean) in
    let clean_d : HasCleanDisk d = omega (arith, clean_m, c.see_open.ensures.within.survives.clean) in
    let clean_b : HasCleanDisk b = omega (arith, clean_d, c.insert_meta.ensures.within.survives.clean) in
    let made : IsEmptyOf no_schema a.now → IsEmptyOf desk_schema b.now =
    rw c.transaction-tx.ensures.begun at (c.in_ok-make_tables.ensures.made clean_b) in
    let put : TurnsMeta (λ rows. meta_row newest_version c.args.country ∷ rows) b d = c.in_ok-insert_meta.ensures.inserted clean_d in
    let seen : IsUnchanged d m = c.in_ok-see_open.ensures.still clean_m in
    let committed : OnOk c.commit.result (IsTrue m.in_transaction × Shows m e m.now m.now false × KeepsCounts m e × (e.marks ≡ [])) = search rules in
    on_ok c.commit.result (λ done none.
    holds_empty c.args.country b d e c.as_bytes-letters.ensures.form (made none) put (done.1.now_is ∙ seen.0.now_is)) committed

pub returns-clause-crash : goal.returns-clause-crash
returns-clause-crash g c =
    let o : State = state g.S.Store c.args.conn.now in
    let a : State = state g.S.Store (record c.args.conn.now { in_transaction = true }) in
    let b : State = state g.S.Store c.make_tables.new.tx.conn.now in
    let d : State = state g.S.Store c.insert_meta.new.tx.conn.now in
    let m : State = state g.S.Store c.see_open.new.tx.conn.now in
    let e : State = state g.S.Store c.conn-2-1.given.0 in
    let ended : Survives m e (λ db. db ≡ m.now.trees) = search rules in
    let begun : StaysInside true a b = rw c.transaction-tx.ensures.begun at c.in_ok-make_tables.ensures.within in
    let written : StaysInside true a m = stays_on (stays_on begun c.in_ok-insert_meta.ensures.within) c.in_ok-see_open.ensures.within in
    survives_begin g.S.Store c.args.conn.now e (MayLeaveEmpty c.args.country o)
    (survives_then a m e (λ _. ⊥) (λ db. db ≡ m.now.trees) (MayLeaveEmpty c.args.country o)
    (λ clean db none. absurd none)
    (λ clean db is.
    let clean_m : HasCleanDisk m = omega (arith, clean, ended.clean) in
    let clean_d : HasCleanDisk d = omega (arith, clean_m, c.see_open.ensures.within.survives.clean) in
    let clean_b : HasCleanDisk b = omega (arith, clean_d, c.insert_meta.ensures.within.survives.clean) in
    let made : IsEmptyOf no_schema a.now → IsEmptyOf desk_schema b.now =
    rw c.transaction-tx.ensures.begun at (c.in_ok-make_tables.ensures.made clean_b) in
    let seen : IsUnchanged d m = c.in_ok-see_open.ensures.still clean_m in (
      (written.kept clean_m refl).was_open seen.0.is_open,
      λ none.
          let P : Trees → Type 0 = AreTreesOf (empty_content c.args.country) in
          subst P (sym (is ∙ ap (λ (x : Database). x.trees) seen.0.now_is))
          (of_empty_desk c.args.country b d c.as_bytes-letters.ensures.form (made none) (c.in_ok-insert_meta.ensures.inserted clean_d)),
    ))
    written.survives ended)
