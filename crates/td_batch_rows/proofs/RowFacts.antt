-- One record more of a file.
use Rattle.std.proofs.Common.{◌≡◌, ℕ, ◌+◌, Bool, true, false, List, [], ◌∷◌, ◌++◌, length, Result, Ok, Err, refl, sym, ap, arith}
use Rattle.std.specs.Prelude.{if◌then◌else◌}
use Rattle.td_batch_rows.specs.Rows.{Fields, Place, then_rows, rows_from, file_in}

module _ {A : Type 0} (read : Fields → Result A ℕ) where
  -- the rest of what was read, once its first row is known
  first_was : (n : ℕ) (r : Result A ℕ) (rest : Result (List A) Place) (rows : List A) → then_rows n r rest ≡ Ok rows
      → (row : A) × (more : List A) × (r ≡ Ok row) × (rest ≡ Ok more) × (rows ≡ row ∷ more)
  first_was n (Err column) rest rows e = cc
  first_was n (Ok row) (Err place) rows e = cc
  first_was n (Ok row) (Ok more) rows e = (row, more, refl, refl, cc)

  pub one_more : (n : ℕ) (records : List Fields) (rows : List A) (fields : Fields) (row : A) → rows_from read n records ≡ Ok rows
      → read fields ≡ Ok row → rows_from read n (records ++ fields ∷ []) ≡ Ok (rows ++ row ∷ [])
  unfolding rows_from
  one_more n [] [] fields row so_far is = rw is refl
  one_more n [] (r ∷ rows) fields row so_far is = cc
  one_more n (first ∷ records) rows fields row so_far is =
      let w = first_was n (read first) (rows_from read (n + 1) records) rows so_far in
      let later = one_more (n + 1) records w.1 fields row w.3 is in
      rw (w.2, later) (ap (λ (l : List A). Ok (l ++ row ∷ [])) (sym w.4))

  pub first_bad : (n : ℕ) (records : List Fields) (rows : List A) (fields : Fields) (rest : List Fields) (column : ℕ)
      → rows_from read n records ≡ Ok rows → read fields ≡ Err column
      → rows_from read n (records ++ fields ∷ rest) ≡ Err (n + length rows, column)
  unfolding rows_from
  first_bad n [] [] fields rest column so_far is = let none : n + 0 ≡ n = omega arith in rw (is, none) refl
  first_bad n [] (row ∷ rows) fields rest column so_far is = cc
  first_bad n (first ∷ records) rows fields rest column so_far is =
      let w = first_was n (read first) (rows_from read (n + 1) records) rows so_far in
      let later = first_bad (n + 1) records w.1 fields rest column w.3 is in
      let sizes : length rows ≡ length (w.0 ∷ w.1) = ap (λ (l : List A). length l) w.4 in
      let size : (n + 1) + length w.1 ≡ n + length rows = omega (arith, sizes) in
      rw (w.2, later) (ap (λ (at : ℕ). Err (at, column)) size)

  pub file_one_more : (is_header : Fields → Bool) (records : List Fields) (rows : List A) (fields : Fields) (row : A)
      → file_in is_header read records ≡ Ok rows → read fields ≡ Ok row
      → file_in is_header read (records ++ fields ∷ []) ≡ Ok (rows ++ row ∷ [])
  file_one_more is_header [] rows fields row so_far is = cc
  file_one_more is_header (first ∷ more) rows fields row so_far is = by_header (is_header first) so_far
    where
      by_header : (b : Bool) → (if b then rows_from read 2 more else Err (1, 0)) ≡ Ok rows
          → (if b then rows_from read 2 (more ++ fields ∷ []) else Err (1, 0)) ≡ Ok (rows ++ row ∷ [])
      by_header true e = one_more 2 more rows fields row e is
      by_header false e = cc

  pub file_first_bad : (is_header : Fields → Bool) (records : List Fields) (rows : List A) (fields : Fields) (rest : List Fields)
      (column : ℕ) → file_in is_header read records ≡ Ok rows → read fields ≡ Err column
      → file_in is_header read (records ++ fields ∷ rest) ≡ Err (2 + length rows, column)
  file_first_bad is_header [] rows fields rest column so_far is = cc
  file_first_bad is_header (first ∷ more) rows fields rest column so_far is = by_header (is_header first) so_far
    where
      by_header : (b : Bool) → (if b then rows_from read 2 more else Err (1, 0)) ≡ Ok rows
          → (if b then rows_from read 2 (more ++ fields ∷ rest) else Err (1, 0)) ≡ Err (2 + length rows, column)
      by_header true e = first_bad 2 more rows fields rest column e is
      by_header false e = cc
