-- What the opening of a desk over a file says of what the file held.
use Rattle.std.proofs.Common.{◌≡◌, ◌⊎◌, ◌∙◌, ℕ, ◌≤◌, List, [], ◌∷◌, Some, ap, arith, inl, inr, refl, subst, sym}
use Rattle.std.specs.Prelude.{IsTrue, IfErr, OnOk, Result}
use Rattle.sqlite_disk.specs.declared.Disk as disk
use Rattle.sqlite_store.specs.declared.store.FileStore.{FileStore}
use Rattle.sqlite_schema.specs.declared.schema.Index.{Index}
use Rattle.sqlite_schema.specs.declared.schema.Schema.{Schema}
use Rattle.sqlite_schema.specs.declared.schema.Table.{Table}
use Rattle.sqlite_schema.specs.declared.schema.View.{View}
use Rattle.sqlite_trees.specs.View.{doubt}
use Rattle.sqlite_wal.specs.Recovery.{Image}
use Rattle.sqlite.specs.Effect.{Database}
use Rattle.sqlite.specs.Start.{FindsIn}
use Rattle.sqlite.specs.Files.{AreFoundIn, file_state}
use Rattle.sqlite.specs.Held.{Held}
use Rattle.sqlite.specs.State.{State, HasCleanDisk, IsLive, Opens, Survives}
use Rattle.sqlite_trees.specs.Tree.{Trees}
use Rattle.td_model.specs.Content.{Content}
use Rattle.td_table_model.specs.declared.rule.Rule.{Rule}
use Rattle.td_schema.specs.Layouts.{schema_of}
use Rattle.td_schema.specs.declared.layout.Layout.{Layout}
use Rattle.td_schema.specs.Tables.{IsEmptyOf, no_schema}
use Rattle.td_store_rows.specs.StoreTables.{AreTreesOf, HoldsContent}
use Rattle.typed_sql.specs.Outside.{CrashLeavesShown}
use Rattle.td_store_check.specs.Opened.{AreDamaged, IsOfAnother, IsOfEarlier, IsOfUnknownVersion, IsStoreSchema, TellsDatabase}
use Rattle.td_store_check.specs.declared.fault.OpenFault.{OpenFault}
use Rattle.td_store_check.specs.declared.fault.OpenFault.TheVariants.{UnknownVersion, NeedsMigration, OtherCountry, Damaged, Store, NoMemory}
use Rattle.td_migrate.specs.Upgraded.{LeavesReached, LeavesShown, LeavesWithFault, TellsUpgrade}
use Rattle.td_migrate.specs.declared.fault.MigrateFault.{MigrateFault}
use Rattle.td_files.specs.Upgraded.{ShowsUpgrade}
use Rattle.td_files.specs.Found.{CommitsDesk, IsClean, IsFoundIn, IsOpeningRefused, IsUnmadeFor, IsStoreOrMemory}

-- no fault is forgotten
pub clean_before : (old new : State) (P : Trees → Type 0) → Survives old new P → HasCleanDisk new → HasCleanDisk old
clean_before old new P survives clean =
    let most : doubt old.is_clean ≤ doubt new.is_clean = survives.clean in
    let none : doubt new.is_clean ≡ 0 = clean in
    grind arith

-- what an open found is what the files held
pub found_there : (image : Image) (s : State) → Opens s × IsLive s → FindsIn image s → IsFoundIn image s.now
found_there image s (opens, live) finds =
    record {
      listed = (live opens.is_open).0;
      holds = λ trees held. ap (λ (db : Database). db.trees) opens.clean ∙ finds.holds trees held;
      reads = subst (λ (db : Database). AreFoundIn image db.trees) (sym opens.clean) finds.reads;
    }

-- what the clauses of an open say of a fault
tells : (country : List ℕ) (db : Database) (fault : OpenFault)
    → (fault ≡ UnknownVersion → IsOfUnknownVersion db)
    → ((version : ℕ) → fault ≡ NeedsMigration version → IsStoreSchema db.schema × IsOfEarlier version db.trees)
    → (fault ≡ OtherCountry → IsStoreSchema db.schema × IsOfAnother country db.trees)
    → ((rule : Rule) → fault ≡ Damaged rule → (l : Layout) × (db.schema ≡ schema_of l) × AreDamaged country rule l db.trees)
    → TellsDatabase country db (Some fault)
tells country db UnknownVersion unknown earlier other broken = inr (inl (refl, unknown refl))
tells country db (NeedsMigration version) unknown earlier other broken = let is = earlier version refl in inr (inr (is.0.0, is.0.1, is.1))
tells country db OtherCountry unknown earlier other broken = let is = other refl in inr (inr (is.0.0, is.0.1, is.1))
tells country db (Damaged rule) unknown earlier other broken = inr (inr (broken rule refl))
tells country db Store unknown earlier other broken = inl (inl refl)
tells country db NoMemory unknown earlier other broken = inl (inr refl)

-- a schema has something in it, or nothing
nothing_by : (ts : List Table) (is : List Index) (vs : List View)
    → (record { tables = ts; indexes = is; views = vs } ≡ no_schema) ⊎ (¬ (record { tables = ts; indexes = is; views = vs } ≡ no_schema))
nothing_by [] [] [] = inl refl
nothing_by (t ∷ ts) is vs = inr (λ same. let none : t ∷ ts ≡ [] = ap (λ (s : Schema). s.tables) same in cc)
nothing_by [] (i ∷ is) vs = inr (λ same. let none : i ∷ is ≡ [] = ap (λ (s : Schema). s.indexes) same in cc)
nothing_by [] [] (v ∷ vs) = inr (λ same. let none : v ∷ vs ≡ [] = ap (λ (s : Schema). s.views) same in cc)

-- so a database has a table, or none
blank_or_taken : (db : Database) → IsEmptyOf no_schema db ⊎ (¬ IsEmptyOf no_schema db)
blank_or_taken db = elim (nothing_by db.schema.tables db.schema.indexes db.schema.views) [
  | inl none ↦ inl (record { schema = none; empty = tt })
  | inr some ↦ inr (λ (blank : IsEmptyOf no_schema db). some blank.schema)
]

pub blank_then : (db : Database) → ¬ (¬ IsEmptyOf no_schema db) → IsEmptyOf no_schema db
blank_then db blank = elim (blank_or_taken db) [ inl none ↦ none | inr taken ↦ absurd (blank taken) ]

-- what a crash leaves of a connection that committed no more than this, where before it left what was found
pub leaves_found : (found left : State) (P : Trees → Type 0) → Survives found left P → CrashLeavesShown found → IsTrue found.is_open
    → HasCleanDisk left → (trees : Trees) → left.may_leave trees → (trees ≡ found.now.trees) ⊎ P trees
leaves_found found left P crash before is_open clean trees may =
    elim (crash.crash clean trees may) [ inl was ↦ inl ((before is_open trees).0 was) | inr made ↦ inr made ]

module _ {D : Type 0} {g : disk.Ghosts D} where
  -- What the clauses of an opening say of a connection that was handed back: what the file held was refused for this fault.
  pub refused_for : (image : Image) (country : List ℕ) (found : State) (fault : OpenFault) (c : Held (FileStore D g))
      → IsFoundIn image found.now → IsTrue found.is_open → CrashLeavesShown found → Survives found (file_state c) (λ _. ⊥)
      → (HasCleanDisk (file_state c) → IsTrue (file_state c).is_open → (file_state c).now ≡ found.now) → CrashLeavesShown (file_state c)
      → (HasCleanDisk (file_state c) → fault ≡ UnknownVersion → IsOfUnknownVersion found.now)
      → (HasCleanDisk (file_state c) → (version : ℕ) → fault ≡ NeedsMigration version
      → IsStoreSchema found.now.schema × IsOfEarlier version found.now.trees)
      → (HasCleanDisk (file_state c) → fault ≡ OtherCountry → IsStoreSchema found.now.schema × IsOfAnother country found.now.trees)
      → (HasCleanDisk (file_state c) → (rule : Rule) → fault ≡ Damaged rule
      → (l : Layout) × (found.now.schema ≡ schema_of l) × AreDamaged country rule l found.now.trees)
      → (HasCleanDisk (file_state c) → IsTrue found.is_open → (x : Content) → HoldsContent x found → x.country ≡ country → IsStoreOrMemory fault)
      → ((x : Content) → AreTreesOf x found.now.trees → HoldsContent x found) → IsClean c → IsOpeningRefused image country fault c
  refused_for image country found fault c is is_open before crash same settled unknown earlier other broken sound opens clean = record {
    left = record {
      db = found.now;
      found = is;
      same = same clean;
      leaves = leaves_found found (file_state c) (λ _. ⊥) crash before is_open clean;
      settled = settled;
    };
    tells = tells country found.now fault (unknown clean) (earlier clean) (other clean) (broken clean);
    unsound = λ x trees at. sound clean is_open x (opens x trees) at;
  }

  -- what a crash leaves of a file in which no desk's file of a content was made, where the making may commit just its trees
  leaves_unmade : (made : Content) (May : Trees → Type 0) (conn c : Held (FileStore D g)) → CrashLeavesShown (file_state conn)
      → IsTrue (file_state conn).is_open → Survives (file_state conn) (file_state c) May
      → ((trees : Trees) → May trees → IsEmptyOf no_schema (file_state conn).now → AreTreesOf made trees)
      → (¬ IsEmptyOf no_schema (file_state conn).now → c ≡ conn) → HasCleanDisk (file_state c)
      → (trees : Trees) → (file_state c).may_leave trees → (trees ≡ (file_state conn).now.trees) ⊎ CommitsDesk made (file_state conn).now trees
  leaves_unmade made May conn c before is_open crash commits taken clean trees may =
      elim (blank_or_taken (file_state conn).now) [
        | inl blank ↦ elim (leaves_found (file_state conn) (file_state c) May crash before is_open clean trees may) [
          | inl was ↦ inl was
          | inr left ↦ inr (blank, commits trees left blank)
        ]
        | inr some ↦ inl ((before is_open trees).0 (subst (λ (h : Held (FileStore D g)). (file_state h).may_leave trees) (taken some) may))
      ]

  -- what the clauses of a making say of a connection that was handed back
  pub unmade_for : (image : Image) (made : Content) (May : Trees → Type 0) (conn c : Held (FileStore D g)) (fault : OpenFault)
      → IsFoundIn image (file_state conn).now → IsTrue (file_state conn).is_open → CrashLeavesShown (file_state conn)
      → Survives (file_state conn) (file_state c) May
      → ((trees : Trees) → May trees → IsEmptyOf no_schema (file_state conn).now → AreTreesOf made trees)
      → (HasCleanDisk (file_state c) → IsTrue (file_state c).is_open → (file_state c).now ≡ (file_state conn).now) → CrashLeavesShown (file_state c)
      → IsStoreOrMemory fault → (¬ IsEmptyOf no_schema (file_state conn).now → (fault ≡ Store) × (c ≡ conn)) → IsClean c
      → IsUnmadeFor image made fault c
  unmade_for image made May conn c fault is is_open before crash commits same settled cause taken clean = record {
    left = record {
      db = (file_state conn).now;
      found = is;
      same = same clean;
      leaves = leaves_unmade made May conn c before is_open crash commits (λ some. (taken some).1) clean;
      settled = settled;
    };
    cause = cause;
    taken = λ some. (taken some).0;
  }

-- what came of an upgrade of what a connection found
pub shows_upgrade : {D : Type 0} {g : disk.Ghosts D} (image : Image) (found : State) (c : Held (FileStore D g)) (result : Result ℕ MigrateFault)
    → IsFoundIn image found.now → IsTrue found.is_open → CrashLeavesShown found
    → (HasCleanDisk (file_state c) → OnOk result (IsTrue (file_state c).is_open))
    → (HasCleanDisk (file_state c) → TellsUpgrade found.now (file_state c) result)
    → (HasCleanDisk (file_state c) → IsTrue (file_state c).is_open → IfErr result (LeavesWithFault found.now (file_state c).now))
    → (HasCleanDisk (file_state c) → LeavesShown found → LeavesReached found.now (file_state c).may_leave)
    → CrashLeavesShown (file_state c) → HasCleanDisk (file_state c)
    → ShowsUpgrade image c result
shows_upgrade image found c result is is_open before shown told left reached settled clean = record {
  db = found.now;
  found = is;
  shown = shown clean;
  told = told clean;
  left = left clean;
  leaves = reached clean (λ trees. (before is_open trees).0);
  settled = settled;
}
