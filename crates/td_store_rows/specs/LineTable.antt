-- What is asked of the lines in a store's file, and what is written into them.
use Rattle.std.specs.Prelude.{◌≡◌, ℕ, ◌==◌, Bool, ◌&&◌, List, map}
use Rattle.sqlite.specs.State.{State}
use Rattle.sqlite_trees.specs.Tree.{Trees}
use Rattle.td_table_model.specs.Gathering.{IsApart, in_order, no_of, of_key, part, place}
use Rattle.td_table_model.specs.Tables.{Keyed, LineCells}
use Rattle.td_schema.specs.Layouts.{HasFewLines, HasMoreLines, grown, schema_of, version_of}
use Rattle.td_schema.specs.declared.layout.Layout.{Layout}
use Rattle.td_schema.specs.declared.layout.Layout.TheVariants.{Made1}
use Rattle.sqlite_schema.specs.declared.schema.Table.{Table}
use Rattle.typed_sql.specs.Typed.{AreThose, AreTyped, Turns, typed_rows}
use Rattle.typed_sql.specs.Writing.{HasSchema, HaveIds, IsEmptied}
use Rattle.td_store_rows.specs.Columns.{line_typing, lines_table}
use Rattle.td_store_rows.specs.declared.lines.stored.StoredLine.{StoredLine}

-- a line of a holder's movement, as its row
abbrev pub line_row_of : StoredLine → Keyed LineCells
line_row_of l = record {
  holder = l.holder;
  serial = l.serial;
  row = record { no = l.no; guarantee = l.guarantee; cents = l.cents };
}

-- the lines of a holder's movement with a serial
abbrev pub is_line_of : ℕ → ℕ → Keyed LineCells → Bool
is_line_of H n l = l.holder == H && l.serial == n

-- the lines of a holder's movements on the holder's guarantee with a serial
abbrev pub is_line_on : ℕ → ℕ → Keyed LineCells → Bool
is_line_on H n l = l.holder == H && l.row.guarantee == n

-- in a file with more lines the statement turned them into what f makes of them
abbrev pub TurnsLines : (List (Keyed LineCells) → List (Keyed LineCells)) → State → State → Type 0
TurnsLines f old new = (l : Layout) → HasMoreLines l → Turns (line_typing l) (schema_of l) f old new

-- in a file of one of these layouts these are the lines that pass the test
abbrev pub AreLinesIn : (Layout → Type 0) → (Keyed LineCells → Bool) → State → List StoredLine → Type 0
AreLinesIn P p state found = (l : Layout) → P l → AreThose (line_typing l) (schema_of l) p state (map line_row_of found)

-- of a layout with more lines; with up to nine
abbrev pub AreLines : (Keyed LineCells → Bool) → State → List StoredLine → Type 0
AreLines = AreLinesIn HasMoreLines

abbrev pub AreFewLines : (Keyed LineCells → Bool) → State → List StoredLine → Type 0
AreFewLines = AreLinesIn HasFewLines

-- the lines of a holder's movement in a store's file of a layout, in no order
abbrev pub line_rows_in : Layout → ℕ → ℕ → Trees → List (Keyed LineCells)
line_rows_in l H n trees = of_key place n (part H (typed_rows (line_typing l) trees))

-- where no two of them have one number, these are they by their numbers
abbrev pub AreByNumber : ℕ → ℕ → State → List StoredLine → Type 0
AreByNumber H n state found =
    (l : Layout) → HasMoreLines l → HasSchema state (schema_of l) → AreTyped (line_typing l) state.now.trees
    → IsApart no_of (line_rows_in l H n state.now.trees) → map line_row_of found ≡ in_order no_of (line_rows_in l H n state.now.trees)

-- the table of lines below version 3, in a file that was migrated from there, has no row now, and the others are as they were
abbrev pub first_lines : Table
first_lines = lines_table Made1

abbrev pub EmptiesFirstLines : State → State → Type 0
EmptiesFirstLines old new =
    (l : Layout) → version_of l ≡ 2 → HasSchema old (schema_of (grown l)) → HaveIds (old.now.trees first_lines.tree)
    → IsEmptied (schema_of (grown l)) first_lines old.now new.now
