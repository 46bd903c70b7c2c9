-- Rows that a step puts into the table that it made, in a file of a layout: while it lasts the file has the tables of the layout
-- that the layout grows to.
use Rattle.std.specs.Prelude.{◌≡◌, ℕ, ◌++◌, List}
use Rattle.std.specs.List.Sorted.{IsPermutation}
use Rattle.sqlite_schema.specs.declared.schema.Schema.{Schema}
use Rattle.sqlite_trees.specs.Tree.{Trees}
use Rattle.sqlite.specs.Effect.{Database}
use Rattle.sqlite.specs.State.{State}
use Rattle.typed_sql.specs.Typed.{AreThose, AreTyped, Typing, typed_rows}
use Rattle.typed_sql.specs.Writing.{AreOthersKept}
use Rattle.td_table_model.specs.Rules.{KeepRules}
use Rattle.td_table_model.specs.Tables.{Keyed}
use Rattle.td_schema.specs.Layouts.{grown, schema_of}
use Rattle.td_schema.specs.declared.layout.Layout.{Layout}
use Rattle.td_store_rows.specs.Places.{is_within}
use Rattle.td_store_rows.specs.StoreTables.{AreAllTyped, tables_in}

-- the layout is what one of these grows to
abbrev pub IsGrownFrom : (Layout → Type 0) → Layout → Type 0
IsGrownFrom At l = (older : Layout) × At older × (l ≡ grown older)

-- these are the holder's rows of a table of the older layout with serials from one on and below another
abbrev pub AreOlderWithin : {R : Type 0} → (Layout → Type 0) → (Layout → Typing (Keyed R)) → ℕ → ℕ → ℕ → State → List (Keyed R) → Type 0
AreOlderWithin At ty H first end state found =
    (l : Layout) → At l → AreThose (ty l) (schema_of (grown l)) (is_within H first end) state found

-- those rows were put into the table, beside those that stood there; the other tables are as they were
pub record ArePut {R : Type 0} (ty : Typing R) (s : Schema) (rows : List R) (old new : Database) : Type 0 where
  pub same : IsPermutation (rows ++ typed_rows ty old.trees) (typed_rows ty new.trees)
  pub typed : AreTyped ty new.trees
  pub others : AreOthersKept s ty.table.tree old.trees new.trees
  pub schema : new.schema ≡ s

-- so it is in a file of one of these layouts in which it is so, and whose rows of that table are typed
abbrev pub Puts : {R : Type 0} → (Layout → Type 0) → (Layout → Typing R) → (Layout → Trees → Type 0) → (Layout → Trees → List R) → State → State → Type 0
Puts At ty Q rows old new =
    (l : Layout) → At l → old.now.schema ≡ schema_of (grown l) → AreTyped (ty (grown l)) old.now.trees → Q l old.now.trees
    → ArePut (ty (grown l)) (schema_of (grown l)) (rows l old.now.trees) old.now new.now

-- where nothing more is asked
abbrev pub IsAnyFile : Layout → Trees → Type 0
IsAnyFile l trees = Unit {0}

-- the rows of the older layout are typed, and keep the rules
pub record KeepTheRules (l : Layout) (trees : Trees) : Type 0 where
  pub typed : AreAllTyped l trees
  pub rules : KeepRules (tables_in l trees)
