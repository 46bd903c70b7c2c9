-- What the rules say of tables as they stand in a file.
use Rattle.std.specs.Prelude.{◌≤◌, length}
use Rattle.sqlite_trees.specs.Tree.{Trees}
use Rattle.td_model.specs.Content.{Content, IsSound}
use Rattle.td_table_model.specs.declared.rule.Rule.{Rule}
use Rattle.td_table_model.specs.Tables.{AreTablesOf}
use Rattle.typed_sql.specs.Typed.{IsTypedRow}
use Rattle.td_schema.specs.declared.layout.Layout.{Layout}
use Rattle.td_store_rows.specs.Columns.{meta_typing, holder_typing, guarantee_typing, kept_typing, code_typing, movement_typing, line_typing}
use Rattle.td_store_rows.specs.StoreReads.{KeepsUse}
use Rattle.td_store_rows.specs.StoreTables.{AreAllTyped, tables_in, HoldSoundContent}
use Rattle.td_store_audit_rows.specs.Ids.{HaveAllIds}
use Rattle.td_store_audit_rows.specs.Kept.{AreCodesKept, AreGuaranteesKept, AreHoldersKept, AreLinesKept, AreMovementsKept, AreWithinReference}
use Rattle.td_store_audit_rows.specs.Untyped.{AllRows, HasNumber, KeepsUntyped}

-- where amounts in use are kept: each is a number, and at most the reference amount
pub record AreAmountsKept (l : Layout) (trees : Trees) : Type 0 where
  pub typed : AllRows (kept_typing l) (IsTypedRow (kept_typing l)) trees
  pub within : AreWithinReference (tables_in l trees)

-- What the database itself keeps of the tables: the rowids, the holders' numbers, and of each other table whose rows are typed
-- its keys and references, and of the guarantees the amounts in use, where a file keeps them.
pub record AreKept (l : Layout) (trees : Trees) : Type 0 where
  pub ids : HaveAllIds l trees
  pub numbers : AllRows holder_typing HasNumber trees
  pub holders : AreHoldersKept (tables_in l trees)
  pub guarantees : AllRows (guarantee_typing l) (IsTypedRow (guarantee_typing l)) trees → AreGuaranteesKept (tables_in l trees)
  pub amounts : KeepsUse l → AllRows (guarantee_typing l) (IsTypedRow (guarantee_typing l)) trees → AreAmountsKept l trees
  pub codes : AllRows code_typing (IsTypedRow code_typing) trees → AreCodesKept (tables_in l trees)
  pub movements : AllRows movement_typing (IsTypedRow movement_typing) trees → AreMovementsKept (tables_in l trees)
  pub lines : AllRows (line_typing l) (IsTypedRow (line_typing l)) trees → AreLinesKept (tables_in l trees)

-- tables that keep each rule as they stand hold sound content
abbrev pub KeptRulesMeanContent : Type 0
KeptRulesMeanContent =
    (l : Layout) (trees : Trees) → AreKept l trees → ((rule : Rule) → KeepsUntyped l trees rule) → HoldSoundContent l trees

-- and typed tables of sound content, in which the office has one row at most, keep each rule as they stand
abbrev pub ContentKeepsRules : Type 0
ContentKeepsRules =
    (l : Layout) (trees : Trees) (c : Content) → AreAllTyped l trees → length (trees meta_typing.table.tree) ≤ 1 → IsSound c
    → AreTablesOf (tables_in l trees) c → (rule : Rule) → KeepsUntyped l trees rule
