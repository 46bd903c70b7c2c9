-- What is read of a journal's text: whole lines, each exactly the row of a change, and what stands behind them.
use Rattle.std.specs.Prelude.{◌≡◌, ⊤, ℕ, ◌+◌, List, ◌++◌, length}
use Rattle.td_journal_lines.specs.Lines.{AreLinesOf, IsLine, Numbered}
use Rattle.td_journal_rows.specs.Rows.{HasNoLineFeed, IsOneLine}
use Rattle.td_journal_rows.specs.declared.rows.JournalFault.{JournalFault}
use Rattle.td_journal_rows.specs.declared.rows.JournalFault.TheVariants.{BadRow, NoMemory}

-- bytes are the lines of these rows, and behind them so many bytes of a torn one, or none
pub record HasChanges (bytes : List ℕ) (rows : List Numbered) (torn : ℕ) : Type 0 where
  pub text : List ℕ
  pub rest : List ℕ
  pub bytes_are : bytes ≡ text ++ rest
  pub lines : AreLinesOf rows text
  pub none : HasNoLineFeed rest
  pub size : torn ≡ length rest

-- the line with this number, counted from 1, is the first that is the row of no change
pub record HasBadLine (bytes : List ℕ) (number : ℕ) : Type 0 where
  pub rows : List Numbered
  pub text : List ℕ
  pub line : List ℕ
  pub rest : List ℕ
  pub bytes_are : bytes ≡ text ++ (line ++ rest)
  pub lines : AreLinesOf rows text
  pub place : number ≡ length rows + 1
  pub one : IsOneLine line
  pub bad : (r : Numbered) → IsLine r line → ⊥

-- bytes are the lines of no rows
abbrev pub HasNone : List ℕ → Type 0
HasNone bytes = (rows : List Numbered) (torn : ℕ) → HasChanges bytes rows torn → ⊥

-- a fault that tells of what was read
abbrev pub TellsJournal : List ℕ → JournalFault → Type 0
TellsJournal bytes (BadRow row) = HasBadLine bytes row × HasNone bytes
TellsJournal bytes NoMemory = ⊤
