-- The rows of a journal as its lines, and the last of them in a file.
use Rattle.std.specs.Prelude.{◌≡◌, ◌⊎◌, ℕ, ◌+◌, ◌<◌, ◌≤◌, List, [], ◌∷◌, ◌++◌, length, Option, None, Some}
use Rattle.td_journal_lines.specs.Lines.{IsLine, Numbered}
use Rattle.td_journal_rows.specs.Rows.{HasNoLineFeed}
use Rattle.td_journal_start.specs.Texts.{IsWhole}
use Rattle.td_redo.specs.Redo.{Row}

-- the text is the lines of these rows, with numbers that rise by one from the first on
abbrev pub AreLines : ℕ → List (Row (List ℕ)) → List ℕ → Type 0
AreLines first [] text = text ≡ []
AreLines first (row ∷ rows) text =
    (line : List ℕ) × (rest : List ℕ) × IsLine (record { number = first; row = row }) line × (text ≡ line ++ rest) × AreLines (first + 1) rows rest

-- a line, behind whole lines, is that of the last row; a text of no line has none
abbrev pub IsLast : List ℕ → List ℕ → Option Numbered → Type 0
IsLast before line None = (before ≡ []) × (line ≡ [])
IsLast before line (Some r) = IsWhole before × IsLine r line

-- the number of the row behind it
abbrev pub next_after : Option Numbered → ℕ
next_after None = 1
next_after (Some r) = r.number + 1

-- how many bytes at its end are read of a file
abbrev pub tail : ℕ
tail = 65536

-- The bytes of a file are a journal: this text, which ends with its last row, and behind it a torn row, or nothing. What is read of
-- its end has that row whole.
pub record IsJournal (bytes text : List ℕ) (last : Option Numbered) : Type 0 where
  pub before : List ℕ
  pub line : List ℕ
  pub torn : List ℕ
  pub bytes_are : bytes ≡ text ++ torn
  pub text_is : text ≡ before ++ line
  pub last_is : IsLast before line last
  pub torn_is : HasNoLineFeed torn
  pub near : (length line + length torn < tail) ⊎ (length bytes ≤ tail)

-- they are none
abbrev pub IsNoJournal : List ℕ → Type 0
IsNoJournal bytes = (text : List ℕ) (last : Option Numbered) → IsJournal bytes text last → ⊥
