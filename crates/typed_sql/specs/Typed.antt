-- A table whose rows are typed: each has the columns of a typed row, and is read back as that.
use Rattle.std.specs.Prelude.{◌≡◌, Bool, List, [], ◌∷◌, map, filter, Option, Some, None}
use Rattle.std.specs.List.{AllByRecursion}
use Rattle.std.specs.List.Sorted.{IsPermutation, IsSorted}
use Rattle.std.specs.declared.cmp.Ordering.{Ordering}
use Rattle.sqlite_value.specs.Order.{Row}
use Rattle.sqlite_trees.specs.Tree.{Trees}
use Rattle.sqlite_schema.specs.declared.schema.Schema.{Schema}
use Rattle.sqlite_schema.specs.declared.schema.Table.{Table}
use Rattle.sqlite.specs.Effect.{Database, IsDatabase}
use Rattle.sqlite.specs.State.{State}
use Rattle.typed_sql.specs.Writing.{HaveIds, AreOthersKept, HasSchema}

-- How a table's rows are typed: the columns of a row, by which a short one is made up with NULLs; the columns of a
-- typed row; and the typed row that columns are read as, whatever they are.
pub record Typing (R : Type 0) : Type 0 where
  pub table : Table
  pub columns : Row → Row
  pub cells : R → Row
  pub from : Row → R

-- a row, and the rows of a table, as typed ones
abbrev pub row_of : {R : Type 0} → Typing R → Row → R
row_of ty r = ty.from (ty.columns r)

abbrev pub typed_rows : {R : Type 0} → Typing R → Trees → List R
typed_rows ty trees = map (row_of ty) (trees ty.table.tree)

-- the row has the columns of the typed row that it is read as
abbrev pub IsTypedRow : {R : Type 0} → Typing R → Row → Type 0
IsTypedRow ty r = ty.columns r ≡ ty.cells (row_of ty r)

-- so has each row of the table, and the rowids are kept apart
pub record AreTyped {R : Type 0} (ty : Typing R) (trees : Trees) : Type 0 where
  pub ids : HaveIds (trees ty.table.tree)
  pub cells : AllByRecursion (IsTypedRow ty) (trees ty.table.tree)

-- The table has these rows now, in any order, and the others are as they were. The trees list the schema, and obey it.
pub record HasNow {R : Type 0} (ty : Typing R) (s : Schema) (rows : List R) (old new : Database) : Type 0 where
  pub same : IsPermutation rows (typed_rows ty new.trees)
  pub typed : AreTyped ty new.trees
  pub others : AreOthersKept s ty.table.tree old.trees new.trees
  pub schema : new.schema ≡ s
  pub sound : IsDatabase new

-- where the table's rows were typed, they are now what f makes of them, and no other table is touched
abbrev pub Turns : {R : Type 0} → Typing R → Schema → (List R → List R) → State → State → Type 0
Turns ty s f old new = HasSchema old s → AreTyped ty old.now.trees
    → HasNow ty s (f (typed_rows ty old.now.trees)) old.now new.now

-- where the table's rows are typed, these are those that pass the test, each once
abbrev pub AreThose : {R : Type 0} → Typing R → Schema → (R → Bool) → State → List R → Type 0
AreThose ty s p state found = HasSchema state s → AreTyped ty state.now.trees
    → IsPermutation (filter p (typed_rows ty state.now.trees)) found

-- where the table's rows are typed, these are in this order
abbrev pub AreInOrder : {R : Type 0} → Typing R → Schema → (R → R → Ordering) → State → List R → Type 0
AreInOrder ty s cmp state found = HasSchema state s → AreTyped ty state.now.trees → IsSorted cmp found

-- this is the first of the rows that pass the test, by this order; none: none of them passes
abbrev pub ComesFirst : {R : Type 0} → (R → Bool) → (R → R → Ordering) → List R → Option R → Type 0
ComesFirst p cmp rows None = filter p rows ≡ []
ComesFirst {R} p cmp rows (Some x) = (rest : List R) × IsPermutation (filter p rows) (x ∷ rest) × IsSorted cmp (x ∷ rest)

-- where the table's rows are typed, this is it
abbrev pub IsFirst : {R : Type 0} → Typing R → Schema → (R → Bool) → (R → R → Ordering) → State → Option R → Type 0
IsFirst ty s p cmp state found = HasSchema state s → AreTyped ty state.now.trees
    → ComesFirst p cmp (typed_rows ty state.now.trees) found
