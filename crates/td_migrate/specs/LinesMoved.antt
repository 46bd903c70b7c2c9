-- The lines of a file of version 2, and the table of version 3 into which they are put.
use Rattle.std.specs.Prelude.{◌≡◌, ℕ, List, [], filter, map}
use Rattle.std.specs.List.Sorted.{IsPermutation}
use Rattle.sqlite_trees.specs.Tree.{Trees}
use Rattle.sqlite.specs.Effect.{Database, IsDatabase}
use Rattle.sqlite.specs.State.{State}
use Rattle.td_table_model.specs.Tables.{Keyed, LineCells, version_with_amounts}
use Rattle.td_schema.specs.Layouts.{grown, guarantees_tree, lines_tree, schema_of, version_of, version_with_more_lines}
use Rattle.td_schema.specs.declared.layout.Layout.{Layout}
use Rattle.td_schema.specs.declared.layout.Layout.TheVariants.{Grown2, Made1}
use Rattle.typed_sql.specs.Typed.{AreTyped, typed_rows}
use Rattle.typed_sql.specs.Writing.{HasSchema}
use Rattle.td_store_rows.specs.Columns.{code_typing, holder_typing, line_typing, meta_typing, movement_typing}
use Rattle.td_store_rows.specs.MetaTable.{with_version}
use Rattle.td_store_rows.specs.Places.{is_within}
use Rattle.td_store_rows.specs.StoreReads.{IsOfVersion}
use Rattle.td_migrate.specs.Put.{AreOlderWithin, KeepTheRules, Puts}

-- these are a holder's lines of the movements with serials from one on and below another, in a file of version 2
abbrev pub AreOlderLines : ℕ → ℕ → ℕ → State → List (Keyed LineCells) → Type 0
AreOlderLines = AreOlderWithin (IsOfVersion version_with_amounts) line_typing

-- those lines were put into the table of version 3
abbrev pub PutsLines : (Layout → Trees → Type 0) → (Layout → Trees → List (Keyed LineCells)) → State → State → Type 0
PutsLines = Puts (IsOfVersion version_with_amounts) line_typing

-- those of a holder's movements with serials below one
abbrev pub AreLinesTyped : Layout → Trees → Type 0
AreLinesTyped l trees = AreTyped (line_typing l) trees

abbrev pub PutsLinesWithin : ℕ → ℕ → State → State → Type 0
PutsLinesWithin H end = PutsLines AreLinesTyped (λ l trees. filter (is_within H 0 end) (typed_rows (line_typing l) trees))

-- where the rows keep the rules, all were
abbrev pub PutsAllLines : State → State → Type 0
PutsAllLines = PutsLines KeepTheRules (λ l trees. typed_rows (line_typing l) trees)

-- the rows of the other tables: those that no version changes, and the guarantees; and of a file that was made at version 1 the table
-- of guarantees of that version
pub record AreBesideLines (l : Layout) (a b : Trees) : Type 0 where
  pub holders : b holder_typing.table.tree ≡ a holder_typing.table.tree
  pub codes : b code_typing.table.tree ≡ a code_typing.table.tree
  pub movements : b movement_typing.table.tree ≡ a movement_typing.table.tree
  pub guarantees : b (guarantees_tree l) ≡ a (guarantees_tree l)
  pub first : l ≡ Grown2 → b (guarantees_tree Made1) ≡ a (guarantees_tree Made1)

-- the lines stand in the table of version 3, which is new, and the table that they were in has no row
pub record AreLinesMoved (l : Layout) (a b : Database) : Type 0 where
  pub schema : b.schema ≡ schema_of (grown l)
  pub rows : IsPermutation (typed_rows (line_typing l) a.trees) (typed_rows (line_typing (grown l)) b.trees)
  pub typed : AreTyped (line_typing (grown l)) b.trees
  pub emptied : b.trees (lines_tree l) ≡ []
  pub meta : b.trees meta_typing.table.tree ≡ a.trees meta_typing.table.tree
  pub others : AreBesideLines l a.trees b.trees

-- in a file of version 2, whose rows keep the rules
abbrev pub MovesLines : State → State → Type 0
MovesLines old new =
    (l : Layout) → version_of l ≡ version_with_amounts → HasSchema old (schema_of l) → KeepTheRules l old.now.trees
    → AreLinesMoved l old.now new.now

-- the same, and the office's own row says version 3
pub record IsThird (l : Layout) (a b : Database) : Type 0 where
  pub schema : b.schema ≡ schema_of (grown l)
  pub lines : IsPermutation (typed_rows (line_typing l) a.trees) (typed_rows (line_typing (grown l)) b.trees)
  pub typed : AreTyped (line_typing (grown l)) b.trees
  pub emptied : b.trees (lines_tree l) ≡ []
  pub office : IsPermutation (map (with_version version_with_more_lines) (typed_rows meta_typing a.trees)) (typed_rows meta_typing b.trees)
  pub office_typed : AreTyped meta_typing b.trees
  pub others : AreBesideLines l a.trees b.trees
  pub sound : IsDatabase b

abbrev pub BecomesThird : State → State → Type 0
BecomesThird old new =
    (l : Layout) → version_of l ≡ version_with_amounts → HasSchema old (schema_of l) → KeepTheRules l old.now.trees
    → IsThird l old.now new.now
