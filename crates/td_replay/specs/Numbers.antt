-- The numbers of rows.
use Rattle.std.specs.Prelude.{◌≡◌, ⊤, ℕ, ◌+◌, ◌<◌, List, [], ◌∷◌, ◌++◌}
use Rattle.td_journal_lines.specs.Lines.{Numbered}

-- they rise by one from the first on
abbrev pub AreCounted : ℕ → List Numbered → Type 0
AreCounted first [] = ⊤
AreCounted first (r ∷ rows) = (r.number ≡ first) × AreCounted (first + 1) rows

-- each is above the one before it, and the first above this
abbrev pub AreAbove : ℕ → List Numbered → Type 0
AreAbove n [] = ⊤
AreAbove n (r ∷ rows) = (n < r.number) × AreAbove r.number rows

-- each but the first is above the one before it
abbrev pub AreRising : List Numbered → Type 0
AreRising [] = ⊤
AreRising (r ∷ rows) = AreAbove r.number rows

-- the row with this number is the first with which rows aren't so
pub record IsFirstNot (so : List Numbered → Type 0) (rows : List Numbered) (number : ℕ) : Type 0 where
  pub before : List Numbered
  pub row : Numbered
  pub after : List Numbered
  pub rows_are : rows ≡ before ++ row ∷ after
  pub still : so before
  pub no_more : so (before ++ row ∷ []) → ⊥
  pub number_is : number ≡ row.number
