-- The steps of an upgrade one after another.
use Rattle.std.proofs.Common.{◌≡◌, ◌⊎◌, ◌∙◌, ℕ, [], Result, Ok, Err, arith, inl, inr, refl, subst, sym}
use Rattle.std.specs.Prelude.{IfErr, OnOk}
use Rattle.sqlite_trees.specs.Tree.{Trees}
use Rattle.sqlite.specs.Effect.{Database}
use Rattle.sqlite.specs.State.{State}
use Rattle.td_model.specs.Content.{Content}
use Rattle.td_table_model.specs.Tables.{first_version, version_with_amounts}
use Rattle.td_schema.specs.Layouts.{grown, newest_version, schema_of, version_of}
use Rattle.td_schema.specs.declared.layout.Layout.{Layout}
use Rattle.td_schema.specs.declared.layout.Layout.TheVariants.{Made1, Made2, Grown2, Made3, Grown3From2, Grown3From1}
use Rattle.td_store_check.specs.Opened.{IsKnown, MaySay}
use Rattle.td_store_rows.specs.StoreTables.{AreTreesOf, HasOfficeRow}
use Rattle.td_store_audit_rows.specs.Versions.{IsSchemaOf}
use Rattle.td_migrate.specs.declared.fault.MigrateFault.{MigrateFault}
use Rattle.td_migrate.specs.Grown.{AreGrown, HoldsVersion, IsGrownFile, LeavesEmpty}
use Rattle.td_migrate.specs.Upgraded.{AreUpgraded, LeavesAllEmpty, LeavesWithFault, MayLeaveStep, MayLeaveUpgraded, SaysNothing, TellsStep, TellsUpgrade, WasGrown, WasUpgraded}
use Rattle.td_migrate.proofs.Second.{of_second, second_layout}

-- trees that grew to a layout of the newest version are a desk's
abbrev desk_trees : (l : Layout) → version_of l ≡ version_with_amounts → (c : Content) (old new : Trees) → AreGrown l c old new → AreTreesOf c new
desk_trees l is c old new are =
    let at = second_layout l is in
    record {
      layout = grown l;
      newest = at.newest;
      listed = are.listed;
      typed = are.content.typed;
      sound = are.content.sound;
      tables = are.content.tables;
      office = subst (λ version. HasOfficeRow version c.country new) at.version are.content.office;
    }

-- a file of version 2 that was brought to the newest
all_empty : (l : Layout) → version_of l ≡ version_with_amounts → (old new : Trees) → LeavesEmpty l old new → LeavesAllEmpty l old new
all_empty l is old new = of_second (λ l. LeavesEmpty l old new → LeavesAllEmpty l old new) (λ left. left) (λ left. left) l is

pub upgraded_from_second : (old : Database) (new : State) → WasGrown version_with_amounts old new.now → WasUpgraded old new
upgraded_from_second old new was =
    let l = was.0.0 in
    let is = was.0.1 in
    let c = was.0.2 in
    let it : IsGrownFile l c old new.now = was.1 l is c was.0.3 in
    let desk : AreTreesOf c new.now.trees = desk_trees l is c old.trees new.now.trees it.trees in
    record {
      layout = l;
      content = c;
      held = record { earlier = omega (arith, is); held = was.0.3 };
      holds = record { trees = desk; schema = λ _. it.schema };
      upgraded = record { desk = desk; layout = (second_layout l is).last; left = all_empty l is old.trees new.now.trees it.trees.left };
    }

-- version 1 has one layout
only_first : (P : Layout → Type 0) → P Made1 → (l : Layout) → version_of l ≡ first_version → P l
only_first P made Made1 is = made
only_first P made Made2 is = absurd cc
only_first P made Grown2 is = absurd cc
only_first P made Made3 is = absurd cc
only_first P made Grown3From2 is = absurd cc
only_first P made Grown3From1 is = absurd cc

-- a file of version 1 with a content, and the file of version 2 that it became
pub record WasFirst (old mid : Database) : Type 0 where
  pub content : Content
  pub held : HoldsVersion Made1 content old
  pub became : HoldsVersion Grown2 content mid
  pub emptied : mid.trees 8 ≡ []

pub first_was : (old mid : Database) → WasGrown first_version old mid → WasFirst old mid
first_was old mid was =
    let l = was.0.0 in
    let is = was.0.1 in
    only_first (λ l. (c : Content) → HoldsVersion l c old → version_of l ≡ first_version → WasFirst old mid)
    (λ c held is.
    let it : IsGrownFile Made1 c old mid = was.1 Made1 is c held in
    record { content = c; held = held; became = record { schema = it.schema; content = it.trees.content }; emptied = it.trees.left })
    l is was.0.2 was.0.3 is

module _ (old mid : Database) (was : WasFirst old mid) where
  abbrev c : Content
  c = was.content

  -- the second step brings it to the newest
  are_upgraded : (trees : Trees) → AreGrown Grown2 c mid.trees trees → AreUpgraded Made1 c old.trees trees
  are_upgraded trees are = record {
    desk = desk_trees Grown2 refl c mid.trees trees are;
    layout = refl;
    left = (are.left.1 ∙ was.emptied, are.left.0);
  }

  pub upgraded_from_first : (new : State) → WasGrown version_with_amounts mid new.now → WasUpgraded old new
  upgraded_from_first new next =
      let it : IsGrownFile Grown2 c mid new.now = next.1 Grown2 refl c was.became in
      record {
        layout = Made1;
        content = c;
        held = record { earlier = omega arith; held = was.held };
        holds = record { trees = desk_trees Grown2 refl c mid.trees new.now.trees it.trees; schema = λ _. it.schema };
        upgraded = are_upgraded new.now.trees it.trees;
      }

  pub second_leaves : (trees : Trees) → MayLeaveStep version_with_amounts mid trees → MayLeaveUpgraded old trees
  second_leaves trees may =
      (Made1, c, record { earlier = omega arith; held = was.held }, inr (are_upgraded trees (may.1 Grown2 refl c was.became)))

-- what a step tells: it was done, or its fault says nothing of the file
pub step_told : (version : ℕ) (old : Database) (new : State) (result : Result (Unit {0}) MigrateFault) → OnOk result (WasGrown version old new.now)
    → IfErr result SaysNothing → TellsStep version old new result
step_told version old new (Ok done) grown says = grown
step_told version old new (Err fault) grown (inl is) = subst (λ f. TellsStep version old new (Err f)) (sym is) tt
step_told version old new (Err fault) grown (inr is) = subst (λ f. TellsStep version old new (Err f)) (sym is) tt

-- a file of the newest version is left as it is
pub newest_told : (old : Database) (new : State) (found : ℕ) → found ≡ newest_version → new.now ≡ old
    → IsSchemaOf found old.schema × IsKnown found × MaySay found old.trees → TellsUpgrade old new (Ok newest_version)
newest_told old new found is same told =
    let now = subst (λ v. IsSchemaOf v old.schema × MaySay v old.trees) is (told.0, told.2) in
    (refl, inl (same, now.0, now.1))

-- nor does an upgrade tell anything of the file by such a fault
pub nothing_told : (old : Database) (new : State) (fault : MigrateFault) → SaysNothing fault → TellsUpgrade old new (Err fault)
nothing_told old new fault (inl is) = subst (λ f. TellsUpgrade old new (Err f)) (sym is) tt
nothing_told old new fault (inr is) = subst (λ f. TellsUpgrade old new (Err f)) (sym is) tt

-- what a fault of the second step leaves
pub second_left : (old mid : Database) → WasGrown first_version old mid → (new : State) (fault : MigrateFault) → SaysNothing fault → new.now ≡ mid
    → LeavesWithFault old new.now fault
second_left old mid was new fault (inl is) same =
    subst (λ f. LeavesWithFault old new.now f) (sym is) (inr (subst (λ (x : Database). WasGrown first_version old x) (sym same) was))
second_left old mid was new fault (inr is) same =
    subst (λ f. LeavesWithFault old new.now f) (sym is) (inr (subst (λ (x : Database). WasGrown first_version old x) (sym same) was))
