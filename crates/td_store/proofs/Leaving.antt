-- What a crash leaves of a desk over a file: after its calls, and of what they add.
use Rattle.std.proofs.Common.{◌≡◌, inl, inr, subst, sym}
use Rattle.std.specs.Prelude.{IsTrue}
use Rattle.sqlite_trees.specs.declared.store.Store.{Ghosts}
use Rattle.sqlite_trees.specs.Tree.{Trees}
use Rattle.sqlite.specs.Held.{Held, state}
use Rattle.sqlite.specs.State.{State, HasCleanDisk, Survives}
use Rattle.sqlite.proofs.StateLemmas.{survives_weaker}
use Rattle.td_model.specs.Content.{Content}
use Rattle.td_desk.specs.View.{AddsAtMost, IsSettled, LeavesOnly}
use Rattle.td_store_rows.specs.StoreTables.{AreTreesOf, HoldsContent}
use Rattle.typed_sql.specs.Outside.{CrashLeavesShown}
use Rattle.td_store.specs.Kept.{CountsFaults, content_in, sql_view}
use Rattle.td_store.proofs.Holding.{holds_shown, one_content}

module _ {S : Type 0} (g : Ghosts S) where
  -- a call adds the contents of the desks whose trees it may commit
  pub adds : (old new : Held S) (P : Trees → Type 0) (added : Content → Type 0) → Survives (state g old) (state g new) P
      → HasCleanDisk (state g new) → ((trees : Trees) → P trees → (c : Content) × AreTreesOf c trees × added c)
      → AddsAtMost (sql_view g) added old new
  adds old new P added survives clean of = record {
    outcomes = λ x left. elim (survives.crash clean left.0 left.1) [
      | inl was ↦ inl (left.0, was, left.2)
      | inr may ↦ let it = of left.0 may in inr (subst added (one_content it.0 x left.0 it.1 left.2) it.2)
    ];
    recovers = λ found trees left. elim (survives.crash clean trees left) [
      | inl was ↦ found trees was
      | inr may ↦ let it = of trees may in (it.0, it.1)
    ];
  }

  -- a call that commits nothing adds none
  pub adds_none : (old new : Held S) → Survives (state g old) (state g new) (λ _. ⊥) → HasCleanDisk (state g new)
      → AddsAtMost (sql_view g) (λ _. ⊥) old new
  adds_none old new survives clean = adds old new (λ _. ⊥) (λ _. ⊥) survives clean (λ trees none. absurd none)

  -- whatever a crash leaves of an open connection is the desk that it shows
  pub leaves_only : (d : Held S) (c : Content) → CrashLeavesShown (state g d) → IsTrue (state g d).is_open
      → HoldsContent c (state g d) → LeavesOnly (sql_view g) d c
  leaves_only d c settled is_open holds = record {
    only = λ x left.
        let same : left.0 ≡ (state g d).now.trees = (settled is_open left.0).0 left.1 in
        one_content x c (state g d).now.trees (subst (AreTreesOf x) same left.2) holds.trees;
    recovers = λ trees left. (c, subst (AreTreesOf c) (sym ((settled is_open trees).0 left)) holds.trees);
  }

  -- which is so of its content
  pub leaves_shown : (d : Held S) → CrashLeavesShown (state g d)
      → (IsTrue (state g d).is_open → (c : Content) × HoldsContent c (state g d)) → IsSettled (sql_view g) d
  leaves_shown d settled holds is_open =
      let it = holds is_open in
      leaves_only d (content_in (state g d).now.trees) settled is_open (holds_shown it.0 (state g d) it.1)

-- no fault is forgotten, whatever is committed
pub counts_faults : (old new : State) (P : Trees → Type 0) → Survives old new P → CountsFaults old new
counts_faults old new P survives = survives_weaker old new P (λ _. Unit {0}) (λ _ trees may. tt) survives
