-- The rows of a journal as its lines.
use Rattle.std.specs.Prelude.{◌≡◌, true, ℕ, List, [], ◌∷◌, ◌++◌, Some}
use Rattle.td_base.specs.Days.{moment_of}
use Rattle.td_commands.specs.Commands.{is_changing}
use Rattle.td_commands.specs.declared.command.Command.{Command}
use Rattle.td_journal_rows.specs.Requests.{ReadsBack, request_body, request_method, request_path}
use Rattle.td_journal_rows.specs.declared.rows.JournalRow.{JournalRow}
use Rattle.td_journal_rows.specs.Rows.{IsRow, change_row, row_line}
use Rattle.td_redo.specs.Redo.{Row}

-- a row with its number: a command at its moment, and the body of the reply to it
pub record Numbered : Type 0 where
  pub number : ℕ
  pub row : Row (List ℕ)

-- a row has the request of this command
pub record HasRequestOf (c : Command) (row : JournalRow) : Type 0 where
  pub method : row.method.items ≡ request_method c
  pub path : row.path.items ≡ request_path c
  pub body : row.body.items ≡ request_body c

-- It is this line, exactly: that of a command that is no view, whose request is read back as that, and whose moment is in range.
pub record IsLine (r : Numbered) (line : List ℕ) : Type 0 where
  pub seconds : ℕ
  pub moment : moment_of r.row.stamped.at ≡ Some seconds
  pub line_is : line ≡ row_line (change_row r.number seconds r.row.stamped.command r.row.shown)
  -- no line ends within it, and its numbers have at most 18 digits
  pub is_row : IsRow (change_row r.number seconds r.row.stamped.command r.row.shown)
  pub reads_back : ReadsBack r.row.stamped.command
  pub changing : is_changing r.row.stamped.command ≡ true

-- the text is the lines of these rows, in their order
abbrev pub AreLinesOf : List Numbered → List ℕ → Type 0
AreLinesOf [] text = text ≡ []
AreLinesOf (r ∷ rows) text = (line : List ℕ) × (rest : List ℕ) × IsLine r line × (text ≡ line ++ rest) × AreLinesOf rows rest
