-- What an upgrade comes to, by what its parts tell.
use Rattle.std.proofs.Common.{◌≡◌, ◌∙◌, ℕ, [], ◌∷◌, None, ap₂, arith, inl, inr, subst, sym, ap}
use Rattle.sqlite_trees.specs.Tree.{Trees}
use Rattle.sqlite.specs.Effect.{Database}
use Rattle.sqlite.specs.State.{HasCleanDisk, State, Survives}
use Rattle.td_table_model.specs.Gathering.{content_of}
use Rattle.td_table_model.specs.Tables.{first_version, version_with_amounts}
use Rattle.td_schema.specs.Layouts.{schema_of, version_of}
use Rattle.td_schema.specs.declared.layout.Layout.{Layout}
use Rattle.td_store_rows.specs.Columns.{meta_row}
use Rattle.td_store_rows.specs.StoreTables.{HoldSoundContent, country_in, tables_in}
use Rattle.td_store_check.specs.Opened.{IsEarlier, MaySay, TellsAudit}
use Rattle.td_migrate.specs.Upgraded.{HeldVersion, LeavesReached, LeavesShown, LeavesStep, MayLeaveStep, MayLeaveUpgraded, WasGrown}

-- the content of a file of that version whose rows keep the rules
module _ (version : ℕ) (db : Database) (says : MaySay version db.trees) where
  held_at : (l : Layout) → version_of l ≡ version → db.schema ≡ schema_of l → HoldSoundContent l db.trees → HeldVersion version db
  held_at l is has holds =
      let row = says holds.typed.meta in (
        l,
        is,
        content_of (tables_in l db.trees),
        record {
          schema = has;
          content = record {
            typed = holds.typed;
            sound = holds.sound;
            tables = holds.tables;
            office = row.1 ∙ ap₂ (λ v k. meta_row v k ∷ []) (sym is) (sym (ap country_in row.1));
          };
        },
      )

  pub held_there : TellsAudit version db None → HeldVersion version db
  held_there (inl (inl is)) = absurd cc
  held_there (inl (inr is)) = absurd cc
  held_there (inr told) = held_at told.0 told.1 told.2 told.3

-- a step leaves what an upgrade may leave
pub step_leaves : (version : ℕ) → IsEarlier version → (db : Database) (trees : Trees) → MayLeaveStep version db trees → MayLeaveUpgraded db trees
step_leaves version earlier db trees may =
    let held = may.0 in
    (held.0, held.2, record { earlier = omega (arith, earlier.1, held.1); held = held.3 }, inl (may.1 held.0 held.1 held.2 held.3))

-- what a crash leaves after a step that was begun where it left what was shown
leaves_step : (version : ℕ) (o d : State) → Survives o d (MayLeaveStep version o.now) → HasCleanDisk d → LeavesShown o → LeavesStep version o.now d.may_leave
leaves_step version o d crash clean before trees may =
    elim (crash.crash clean trees may) [ inl was ↦ inl (before trees was) | inr grown ↦ inr grown ]

-- so after one step, after the second of two, and where nothing was done
pub reached_one : (version : ℕ) (o d : State) → Survives o d (MayLeaveStep version o.now) → HasCleanDisk d → LeavesShown o → LeavesReached o.now d.may_leave
reached_one version o d crash clean before = inl (version, leaves_step version o d crash clean before)

pub reached_two : (o b d : State) → WasGrown first_version o.now b.now → LeavesShown b → Survives b d (MayLeaveStep version_with_amounts b.now) → HasCleanDisk d
    → LeavesReached o.now d.may_leave
reached_two o b d was before crash clean = inr (b.now, was, leaves_step version_with_amounts b d crash clean before)

pub shown_still : (o b : State) → Survives o b (λ _. ⊥) → HasCleanDisk b → b.now ≡ o.now → LeavesShown o → LeavesShown b
shown_still o b crash clean same before trees may =
    elim (crash.crash clean trees may) [ inl was ↦ before trees was ∙ ap (λ (db : Database). db.trees) (sym same) | inr none ↦ absurd none ]

pub reached_none : (o b : State) → Survives o b (λ _. ⊥) → HasCleanDisk b → LeavesShown o → LeavesReached o.now b.may_leave
reached_none o b crash clean before =
    inl (first_version, λ trees may. elim (crash.crash clean trees may) [ inl was ↦ inl (before trees was) | inr none ↦ absurd none ])
