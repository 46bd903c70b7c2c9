-- What is asked of a holder's codes and lines in a store's file.
use Rattle.std.specs.Prelude.{◌≡◌, ◌↔◌, ℕ, Bool, IsFalse, List, [], filter, map}
use Rattle.std.specs.Cmp.Lexicographic.{slice_cmp}
use Rattle.std.specs.Ordering.{nat_cmp, ordering_then}
use Rattle.std.specs.declared.cmp.Ordering.{Ordering}
use Rattle.sqlite.specs.State.{State}
use Rattle.typed_sql.specs.Typed.{AreInOrder, AreTyped, typed_rows}
use Rattle.typed_sql.specs.Writing.{HasSchema}
use Rattle.td_table_model.specs.Gathering.{no_of, place}
use Rattle.td_table_model.specs.Tables.{Keyed, LineCells}
use Rattle.td_schema.specs.Layouts.{schema_of}
use Rattle.td_schema.specs.declared.layout.Layout.{Layout}
use Rattle.td_store_rows.specs.Columns.{code_typing, line_typing}
use Rattle.td_store_rows.specs.CodeTable.{code_row_of as row_of_code}
use Rattle.td_store_rows.specs.declared.codes.stored.StoredCode.{StoredCode}
use Rattle.td_store_rows.specs.LineTable.{AreLinesIn, line_row_of as row_of_line}
use Rattle.td_store_rows.specs.Places.{is_after, is_within}
use Rattle.td_store_rows.specs.StoreReads.{IsOfVersion}
use Rattle.td_store_rows.specs.declared.lines.stored.StoredLine.{StoredLine}

-- in a file of a version these are the holder's lines of the movements with serials from one on and below another
abbrev pub AreLinesWithin : ℕ → ℕ → ℕ → ℕ → State → List StoredLine → Type 0
AreLinesWithin version H first end = AreLinesIn (IsOfVersion version) (is_within H first end)

-- where the rows of lines are typed, in a file of a version, it is told whether the holder has a line of a movement behind a serial
abbrev pub TellsBehind : ℕ → ℕ → ℕ → State → Bool → Type 0
TellsBehind version H n state is =
    (l : Layout) → IsOfVersion version l → HasSchema state (schema_of l) → AreTyped (line_typing l) state.now.trees
    → IsFalse is ↔ (filter (is_after H n) (typed_rows (line_typing l) state.now.trees) ≡ [])

-- where the rows of codes are typed, it is told whether the holder has a code of a guarantee behind a serial
abbrev pub TellsCodeBehind : ℕ → ℕ → State → Bool → Type 0
TellsCodeBehind H n state is =
    (l : Layout) → HasSchema state (schema_of l) → AreTyped code_typing state.now.trees
    → IsFalse is ↔ (filter (is_after H n) (typed_rows code_typing state.now.trees) ≡ [])

-- codes by their serials, and those of one serial as texts
abbrev pub code_order : Keyed (List ℕ) → Keyed (List ℕ) → Ordering
code_order a b = ordering_then (nat_cmp (place a) (place b)) (slice_cmp nat_cmp a.row b.row)

-- lines by their serials, and those of one serial by their numbers
abbrev pub line_order : Keyed LineCells → Keyed LineCells → Ordering
line_order a b = ordering_then (nat_cmp (place a) (place b)) (nat_cmp (no_of a) (no_of b))

-- where the rows of the table are typed, these are in that order: lines in a file of a version
abbrev pub AreInCodeOrder : State → List StoredCode → Type 0
AreInCodeOrder state found = (l : Layout) → AreInOrder code_typing (schema_of l) code_order state (map row_of_code found)

abbrev pub AreInLineOrder : ℕ → State → List StoredLine → Type 0
AreInLineOrder version state found =
    (l : Layout) → IsOfVersion version l → AreInOrder (line_typing l) (schema_of l) line_order state (map row_of_line found)

-- the serial of the guarantee that a code is of, and of the movement that a line is of
abbrev pub serial_of_code : StoredCode → ℕ
serial_of_code code = code.serial

abbrev pub serial_of_line : StoredLine → ℕ
serial_of_line line = line.serial
