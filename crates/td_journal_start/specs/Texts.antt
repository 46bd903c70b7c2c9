-- Texts that end with a line feed, and what stands behind it.
use Rattle.std.specs.Prelude.{◌≡◌, ◌⊎◌, ℕ, List, [], ◌∷◌, ◌++◌}
use Rattle.td_journal_rows.specs.Rows.{HasNoLineFeed, IsOneLine}

-- whole lines, or nothing
abbrev pub IsWhole : List ℕ → Type 0
IsWhole text = (text ≡ []) ⊎ ((before : List ℕ) × (text ≡ before ++ 10 ∷ []))

-- bytes are whole lines, and then what stands behind the last line feed
pub record Splits (bytes text torn : List ℕ) : Type 0 where
  pub bytes_are : bytes ≡ text ++ torn
  pub whole : IsWhole text
  pub none : HasNoLineFeed torn

-- the last whole line of bytes, what stands before it and what stands behind it; where no line ends, nothing is before
pub record HasLast (bytes before line torn : List ℕ) : Type 0 where
  pub split : Splits bytes (before ++ line) torn
  pub before_whole : IsWhole before
  pub line_is : IsOneLine line ⊎ ((before ≡ []) × (line ≡ []))
