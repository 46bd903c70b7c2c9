-- A file of version 1 and the file of version 2 that it becomes, table by table.
use Rattle.std.specs.Prelude.{◌≡◌, [], map}
use Rattle.std.specs.List.Sorted.{IsPermutation}
use Rattle.sqlite_trees.specs.Tree.{Trees}
use Rattle.sqlite.specs.Effect.{Database, IsDatabase}
use Rattle.sqlite.specs.State.{State}
use Rattle.td_table_model.specs.Tables.{version_with_amounts}
use Rattle.td_schema.specs.Layouts.{schema_of}
use Rattle.td_schema.specs.declared.layout.Layout.TheVariants.{Made1, Grown2}
use Rattle.typed_sql.specs.Typed.{AreTyped, typed_rows}
use Rattle.typed_sql.specs.Writing.{HasSchema}
use Rattle.td_store_rows.specs.Columns.{code_typing, guarantee_typing, holder_typing, kept_typing, line_typing, meta_typing, movement_typing}
use Rattle.td_store_rows.specs.KeptTable.{first_guarantees}
use Rattle.td_store_rows.specs.MetaTable.{with_version}
use Rattle.td_migrate.specs.Filled.{with_its_use}
use Rattle.td_migrate.specs.Put.{KeepTheRules}

-- the rows of the tables that no version changes, and of lines
pub record AreOthersSame (a b : Trees) : Type 0 where
  pub holders : b holder_typing.table.tree ≡ a holder_typing.table.tree
  pub codes : b code_typing.table.tree ≡ a code_typing.table.tree
  pub movements : b movement_typing.table.tree ≡ a movement_typing.table.tree
  pub lines : b (line_typing Grown2).table.tree ≡ a (line_typing Grown2).table.tree

-- the guarantees stand in the table of version 2, which is new, with what was in use on them, and the table of version 1 has no row
pub record AreMoved (a b : Database) : Type 0 where
  pub schema : b.schema ≡ schema_of Grown2
  pub kept : IsPermutation (map (with_its_use a.trees) (typed_rows (guarantee_typing Made1) a.trees)) (typed_rows (kept_typing Grown2) b.trees)
  pub typed : AreTyped (kept_typing Grown2) b.trees
  pub emptied : b.trees first_guarantees.tree ≡ []
  pub meta : b.trees meta_typing.table.tree ≡ a.trees meta_typing.table.tree
  pub others : AreOthersSame a.trees b.trees

-- in a file that was made at version 1, whose rows keep the rules
abbrev pub MovesTo2 : State → State → Type 0
MovesTo2 old new = HasSchema old (schema_of Made1) → KeepTheRules Made1 old.now.trees → AreMoved old.now new.now

-- the same, and the office's own row says version 2
pub record IsSecond (a b : Database) : Type 0 where
  pub schema : b.schema ≡ schema_of Grown2
  pub kept : IsPermutation (map (with_its_use a.trees) (typed_rows (guarantee_typing Made1) a.trees)) (typed_rows (kept_typing Grown2) b.trees)
  pub typed : AreTyped (kept_typing Grown2) b.trees
  pub emptied : b.trees first_guarantees.tree ≡ []
  pub office : IsPermutation (map (with_version version_with_amounts) (typed_rows meta_typing a.trees)) (typed_rows meta_typing b.trees)
  pub office_typed : AreTyped meta_typing b.trees
  pub others : AreOthersSame a.trees b.trees
  pub sound : IsDatabase b

abbrev pub BecomesSecond : State → State → Type 0
BecomesSecond old new = HasSchema old (schema_of Made1) → KeepTheRules Made1 old.now.trees → IsSecond old.now new.now
