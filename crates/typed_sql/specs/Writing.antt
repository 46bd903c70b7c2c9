-- The rows of a table, each with its rowid, and the tables beside it.
-- What a statement that writes one row did to the tables.
use Rattle.std.specs.Prelude.{◌≡◌, ◌≢◌, ℕ, ℤ, ◌≤◌, List, length, filter, Bool, if◌then◌else◌, not, [], ◌∷◌, map, drop, IsTrue}
use Rattle.std.specs.List.{AllByRecursion, list_all}
use Rattle.sqlite_value.specs.declared.value.Value.TheVariants.{Int}
use Rattle.sqlite_value.specs.Order.{Row}
use Rattle.sqlite_trees.specs.Tree.{Trees, rowid, has_rowid}
use Rattle.sqlite_rules.specs.Edit.{id_in}
use Rattle.sqlite_schema.specs.declared.schema.Schema.{Schema}
use Rattle.std.specs.List.Sorted.{IsPermutation}
use Rattle.sqlite_sql.specs.Term.{Term, eval_all, holds}
use Rattle.sqlite_rules.specs.Cast.{cast_all}
use Rattle.sqlite_schema.specs.declared.schema.Table.{Table}
use Rattle.sqlite.specs.Effect.{Database, IsDatabase}
use Rattle.sqlite.specs.State.{State}
use Rattle.typed_sql.specs.Meanings.{MeansInsert, MeansUpdate, MeansDelete}

-- each rowid is an integer, and no two are the same
pub record HaveIds (rows : List Row) : Type 0 where
  pub ints : AllByRecursion (λ r. rowid r ≡ Int (id_in (rowid r))) rows
  pub apart : (id : ℤ) → length (filter (has_rowid id) rows) ≤ 1

-- the rows of each table but the one in this tree are as they were
abbrev pub AreOthersKept : Schema → ℕ → Trees → Trees → Type 0
AreOthersKept s tree old new = AllByRecursion (λ u. u.tree ≢ tree → new u.tree ≡ old u.tree) s.tables

-- the row passes every test, with the values that were given
abbrev pub passes : Row → List Term → Row → Bool
passes values tests r = list_all (holds (values ∷ r ∷ [])) tests

-- the columns that an INSERT puts, and those that an UPDATE makes of a row, as the table's columns store them
abbrev pub columns_put : Table → List Term → Row → Row
columns_put t row values = cast_all t.columns (drop 1 (eval_all row (values ∷ [])))

abbrev pub columns_set : Table → List Term → Row → Row → Row
columns_set t columns values r = cast_all t.columns (eval_all columns (values ∷ r ∷ []))

-- One row more is in the table, with these columns, under a rowid that was free. The trees still list the schema, and obey it.
pub record IsInserted (s : Schema) (t : Table) (source columns : Row) (old new : Database) : Type 0 where
  pub id : ℤ
  pub given : (n : ℤ) → rowid source ≡ Int n → id ≡ n
  pub rows : IsPermutation ((Int id ∷ columns) ∷ old.trees t.tree) (new.trees t.tree)
  pub ids : HaveIds (old.trees t.tree) → HaveIds (new.trees t.tree)
  pub others : AreOthersKept s t.tree old.trees new.trees
  pub schema : new.schema ≡ s
  pub sound : IsDatabase new

-- Just one row of the table passes the test, and its columns are set anew. The trees still list the schema, and obey it.
pub record IsUpdated (s : Schema) (t : Table) (test : Row → Bool) (columns : Row
    → Row) (old new : Database) : Type 0 where
  pub one : length (filter test (old.trees t.tree)) ≡ 1
  pub rows : IsPermutation (map (λ r. if test r then rowid r ∷ columns r else r) (old.trees t.tree))
      (new.trees t.tree)
  pub ids : HaveIds (new.trees t.tree)
  pub others : AreOthersKept s t.tree old.trees new.trees
  pub schema : new.schema ≡ s
  pub sound : IsDatabase new

-- Just one row of the table passed the test, and it is there no more. The trees still list the schema, and obey it.
pub record IsDeleted (s : Schema) (t : Table) (test : Row → Bool) (old new : Database) : Type 0 where
  pub one : length (filter test (old.trees t.tree)) ≡ 1
  pub rows : new.trees t.tree ≡ filter (λ r. not (test r)) (old.trees t.tree)
  pub ids : HaveIds (new.trees t.tree)
  pub others : AreOthersKept s t.tree old.trees new.trees
  pub schema : new.schema ≡ s
  pub sound : IsDatabase new

-- The table has no row, and the others are as they were. The trees still list the schema, and obey it.
pub record IsEmptied (s : Schema) (t : Table) (old new : Database) : Type 0 where
  pub rows : new.trees t.tree ≡ []
  pub others : AreOthersKept s t.tree old.trees new.trees
  pub schema : new.schema ≡ s
  pub sound : IsDatabase new

-- these are the tables, as far as the connection is open
abbrev pub HasSchema : State → Schema → Type 0
HasSchema state s = IsTrue state.is_open → state.now.schema ≡ s

-- whatever row the text inserts, that was done
abbrev pub Inserts : List ℕ → Row → State → State → Type 0
Inserts text values old new =
    (s : Schema) (t : Table) (row : List Term) → HasSchema old s → MeansInsert s text t row
    → IsInserted s t (eval_all row (values ∷ [])) (columns_put t row values) old.now new.now

-- whatever row the text sets anew, that was done
abbrev pub Updates : List ℕ → Row → State → State → Type 0
Updates text values old new =
    (s : Schema) (t : Table) (tests columns : List Term) → HasSchema old s → MeansUpdate s text t tests columns
    → HaveIds (old.now.trees t.tree)
    → IsUpdated s t (passes values tests) (columns_set t columns values) old.now new.now

-- whatever row the text deletes, that was done
abbrev pub Deletes : List ℕ → Row → State → State → Type 0
Deletes text values old new =
    (s : Schema) (t : Table) (tests : List Term) → HasSchema old s → MeansDelete s text t tests
    → HaveIds (old.now.trees t.tree) → IsDeleted s t (passes values tests) old.now new.now

-- whatever table the text empties, that was done
abbrev pub Empties : List ℕ → State → State → Type 0
Empties text old new =
    (s : Schema) (t : Table) → HasSchema old s → MeansDelete s text t []
    → HaveIds (old.now.trees t.tree) → IsEmptied s t old.now new.now
