-- What the calls of a desk over a store's file do to its connection.
use Rattle.std.proofs.Common.{◌≡◌, ℕ, Bool, List, ap, arith}
use Rattle.std.specs.Prelude.{IsTrue}
use Rattle.sqlite_trees.specs.declared.store.Store.{Ghosts}
use Rattle.sqlite_trees.specs.Tree.{Trees}
use Rattle.sqlite.specs.Held.{Held, state}
use Rattle.sqlite.specs.State.{State, HasCleanDisk, Survives}
use Rattle.sqlite.proofs.StateLemmas.{survives_then}
use Rattle.td_model.specs.declared.change.Change.{Change}
use Rattle.td_acts.specs.declared.rows.Verdict.{Verdict}
use Rattle.td_model.specs.Content.{content_after, IsSound}
use Rattle.td_desk.specs.View.{AddsAtMost}
use Rattle.td_acts.specs.Weighing.{IsDecision}
use Rattle.td_store.specs.Kept.{content_in, IsDeskOf, sql_view}
use Rattle.td_store_write.specs.Carried.{CarriesChange, MayLeave}
use Rattle.typed_sql.specs.Outside.{Looks}
use Rattle.td_store.proofs.Holding.{decided_there, desk_after, desk_still, there_is, written}
use Rattle.td_store.proofs.Leaving.{adds}

-- a call, and then the question what its error is told as
pub then_asked : (a b e : State) (P : Trees → Type 0) → Survives a b P → Survives b e (λ _. ⊥) → Survives a e P
then_asked a b e P failed asked =
    survives_then a b e P (λ _. ⊥) P (λ _ trees may. may) (λ _ trees none. absurd none) failed asked

-- a desk's connection is one still after a call that left its database as it was
pub desk_left : (country : List ℕ) (a b : State) (P : Trees → Type 0) → IsDeskOf country a → Survives a b P
    → (HasCleanDisk b → IsTrue b.is_open → IsTrue a.is_open) → (HasCleanDisk b → IsTrue b.is_open → b.now ≡ a.now) → IsDeskOf country b
desk_left country a b P desk survives live same =
    desk_still country a b desk (λ clean. omega (arith, clean, survives.clean)) live same

-- and after one that only looked
pub desk_then : {w : Bool} (country : List ℕ) (a b : State) → IsDeskOf country a → Looks w a b → IsDeskOf country b
desk_then country a b desk looks = desk_left country a b (λ _. ⊥) desk looks.crash looks.live looks.same

-- a call that carried a change that was decided on
module _ {S : Type 0} (g : Ghosts S) (country : List ℕ) (change : Change) (old new : Held S) (desk : IsDeskOf country (state g old))
    (decided : HasCleanDisk (state g old) → IsTrue (state g old).is_open → IsSound (content_in (state g old).now.trees)
    → (v : Verdict) × (v.change ≡ change) × IsDecision (content_in (state g old).now.trees) v)
    (survives : Survives (state g old) (state g new) (MayLeave country change (state g old))) where
  abbrev a : State
  a = state g old

  abbrev b : State
  b = state g new

  clean_before : HasCleanDisk b → HasCleanDisk a
  clean_before clean = omega (arith, clean, survives.clean)

  -- a crash leaves no more than the content after it
  pub adds_change : HasCleanDisk b
      → AddsAtMost (sql_view g) (λ x. IsTrue a.is_open × (x ≡ content_after change (content_in a.now.trees))) old new
  adds_change clean =
      adds g old new (MayLeave country change a) (λ x. IsTrue a.is_open × (x ≡ content_after change (content_in a.now.trees)))
      survives clean
      (λ trees may.
      let was = clean_before clean in
      let d = decided_there country change a desk decided was may.0 in (
        content_after change d.0,
        (may.1 d.0 d.1).0,
        (may.0, ap (content_after change) (there_is country change a desk decided was may.0)),
      ))

  module _ (live : HasCleanDisk b → IsTrue b.is_open → IsTrue a.is_open)
      (carries : HasCleanDisk b → CarriesChange country change a b) where
    pub desk_carried : IsDeskOf country b
    desk_carried clean now =
        desk_after country change a desk decided (clean_before clean) (live clean now) b (carries clean)

    pub content_carried : HasCleanDisk b → IsTrue b.is_open → content_in b.now.trees ≡ content_after change (content_in a.now.trees)
    content_carried clean now =
        written country change a desk decided (clean_before clean) (live clean now) b (carries clean)
