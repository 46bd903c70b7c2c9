-- What a database keeps of its tables, if they are a store's: its schema's rules, read of the rows.
use Rattle.std.specs.Prelude.{◌≡◌, ◌≤◌, ℕ, length, IsTrue}
use Rattle.std.specs.List.{AllByRecursion}
use Rattle.sqlite_trees.specs.Tree.{Trees}
use Rattle.sqlite.specs.Effect.{Database, IsDatabase}
use Rattle.sqlite.specs.State.{State}
use Rattle.typed_sql.specs.Typed.{IsTypedRow}
use Rattle.typed_sql.specs.Writing.{HasSchema}
use Rattle.td_table_model.specs.Gathering.{no_of, of_key, part, place}
use Rattle.td_table_model.specs.Tables.{Keyed, LineCells, Tables}
use Rattle.td_schema.specs.Layouts.{HasFewLines, schema_of}
use Rattle.td_schema.specs.declared.layout.Layout.{Layout}
use Rattle.td_store_rows.specs.Columns.{holder_typing, guarantee_typing, code_typing, movement_typing, line_typing}
use Rattle.td_store_rows.specs.StoreReads.{KeepsUse}
use Rattle.td_store_rows.specs.StoreTables.{tables_in}
use Rattle.td_store_audit_rows.specs.Ids.{HaveAllIds}
use Rattle.td_store_audit_rows.specs.Kept.{AreCodesKept, AreGuaranteesKept, AreHoldersKept, AreLinesKept, AreMovementsKept}
use Rattle.td_store_audit_rows.specs.Untyped.{AllRows, HasNumber}
use Rattle.td_store_audit_rows.specs.Laws.{AreAmountsKept, AreKept}

-- a database with a store's tables keeps this of their rows, where their rowids are integers and no two are the same
abbrev pub SchemaKeeps : (Layout → Trees → Type 0) → Type 0
SchemaKeeps P =
    (layout : Layout) (db : Database) → IsDatabase db → db.schema ≡ schema_of layout → HaveAllIds layout db.trees → P layout db.trees

-- of the holders: the CHECK of their numbers, which are the rowids
abbrev pub SchemaKeepsHolders : Type 0
SchemaKeepsHolders = SchemaKeeps (λ layout trees. AllRows holder_typing HasNumber trees × AreHoldersKept (tables_in layout trees))

-- of each other table, where its own rows are typed: its UNIQUE keys, and the FOREIGN KEYs that lead to a holder
abbrev pub SchemaKeepsGuarantees : Type 0
SchemaKeepsGuarantees =
    SchemaKeeps (λ layout trees. AllRows (guarantee_typing layout) (IsTypedRow (guarantee_typing layout)) trees → AreGuaranteesKept (tables_in layout trees))

-- where a file keeps amounts in use, and the guarantees' rows are typed: their type, that none is NULL, and their CHECK
abbrev pub SchemaKeepsAmounts : Type 0
SchemaKeepsAmounts =
    SchemaKeeps (λ layout trees. KeepsUse layout → AllRows (guarantee_typing layout) (IsTypedRow (guarantee_typing layout)) trees → AreAmountsKept layout trees)

abbrev pub SchemaKeepsCodes : Type 0
SchemaKeepsCodes = SchemaKeeps (λ layout trees. AllRows code_typing (IsTypedRow code_typing) trees → AreCodesKept (tables_in layout trees))

abbrev pub SchemaKeepsMovements : Type 0
SchemaKeepsMovements =
    SchemaKeeps (λ layout trees. AllRows movement_typing (IsTypedRow movement_typing) trees → AreMovementsKept (tables_in layout trees))

abbrev pub SchemaKeepsLines : Type 0
SchemaKeepsLines = SchemaKeeps (λ layout trees. AllRows (line_typing layout) (IsTypedRow (line_typing layout)) trees → AreLinesKept (tables_in layout trees))

-- all of it
abbrev pub SchemaKeepsTables : Type 0
SchemaKeepsTables = SchemaKeeps AreKept

-- so it is of the tables that an open connection shows
abbrev pub KeepsTables : State → Type 0
KeepsTables state =
    (layout : Layout) → IsTrue state.is_open → HasSchema state (schema_of layout) → HaveAllIds layout state.now.trees
    → AreKept layout state.now.trees

-- a line's number in its movement is from 1 to 9
abbrev pub IsOneOfNine : Keyed LineCells → Type 0
IsOneOfNine line = (1 ≤ no_of line) × (no_of line ≤ 9)

-- so are those of all lines, and no movement has more than nine
pub record HaveNineLines (t : Tables) : Type 0 where
  pub numbers : AllByRecursion IsOneOfNine t.lines
  pub movements : (H n : ℕ) → length (of_key place n (part H t.lines)) ≤ 9

-- of a file below version 3, where its rows of lines are typed: the CHECK of their numbers
abbrev pub OlderFilesHaveNineLines : Type 0
OlderFilesHaveNineLines =
    SchemaKeeps (λ layout trees. HasFewLines layout → AllRows (line_typing layout) (IsTypedRow (line_typing layout)) trees → HaveNineLines (tables_in layout trees))
