-- Rows under keys: what is found, and the order, after a row is put in its place. Once for every list of rows.
use Rattle.std.proofs.Common.{◌≡◌, ◌≢◌, ℕ, ◌+◌, ◌≤◌, List, [], ◌∷◌, Some, IfSome, arith}
use Rattle.std.specs.List.{AllByRecursion}
use Rattle.std.proofs.lemmas.Bool.Decides.{nat_tests}
use Rattle.keyed_rows.specs.Rows.{row_at, Rises, put_row}

module _ {R : Type 0} (key : R → ℕ) where
  -- the row that is found has the key
  pub row_at_has : (k : ℕ) (rows : List R) → IfSome (row_at key k rows) (λ r. key r ≡ k)
  row_at_has k [] = tt
  row_at_has k (r ∷ rows) = grind (arith, nat_tests, row_at_has k rows)

  -- what was put is found under its key
  pub row_at-put_row_same : (k : ℕ) (row : R) (rows : List R) → key row ≡ k → row_at key k (put_row key row rows) ≡ Some row
  row_at-put_row_same k row [] same = grind (arith, nat_tests)
  row_at-put_row_same k row (r ∷ rows) same = grind (arith, nat_tests, row_at-put_row_same k row rows same)

  -- and nothing else is found otherwise
  pub row_at-put_row_other : (k : ℕ) (row : R) (rows : List R) → key row ≢ k → row_at key k (put_row key row rows) ≡ row_at key k rows
  row_at-put_row_other k row [] other = grind (arith, nat_tests)
  row_at-put_row_other k row (r ∷ rows) other = grind (arith, nat_tests, row_at-put_row_other k row rows other)

  -- the order stays
  pub Rises-put_row : (row : R) (low : ℕ) (rows : List R) → Rises key low rows → low ≤ key row → Rises key low (put_row key row rows)
  Rises-put_row row low [] rise above = (above, tt)
  Rises-put_row row low (r ∷ rows) rise above = grind (arith, nat_tests, Rises-put_row row (key r + 1) rows rise.1)

  -- what holds of each row holds of each row still
  pub All-put_row : (P : R → Type 0) (row : R) (rows : List R) → AllByRecursion P rows → P row → AllByRecursion P (put_row key row rows)
  All-put_row P row [] all one = (one, tt)
  All-put_row P row (r ∷ rows) all one = grind (arith, nat_tests, All-put_row P row rows all.1 one)

  -- what holds of each row holds of the one that is found
  pub All-row_at : (P : R → Type 0) (k : ℕ) (rows : List R) → AllByRecursion P rows → IfSome (row_at key k rows) P
  All-row_at P k [] all = tt
  All-row_at P k (r ∷ rows) all = grind (arith, nat_tests, All-row_at P k rows all.1)
