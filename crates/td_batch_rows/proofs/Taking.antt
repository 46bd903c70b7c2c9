-- What one record more does to what was taken of a file.
use Rattle.std.proofs.Common.{◌≡◌, ℕ, ◌+◌, Bool, true, false, List, [], ◌∷◌, ◌++◌, length, Result, Ok, Err, refl, ◌∙◌, ap, arith}
use Rattle.td_batch_rows.specs.Rows.{Fields, rows_from, file_in, HasTaken}
use Rattle.td_batch_rows.proofs.RowFacts.{file_one_more, file_first_bad}

module _ {A : Type 0} (is_header : Fields → Bool) (read : Fields → Result A ℕ) where
  -- the header is taken
  pub header_taken : (headed : Bool) (records : List Fields) (rows : List A) (fields : Fields) → headed ≡ false
      → HasTaken is_header read headed records rows → is_header fields ≡ true
      → file_in is_header read (records ++ fields ∷ []) ≡ Ok rows
  unfolding rows_from
  header_taken true records rows fields was taken is = cc
  header_taken false records rows fields was (none, empty) is = rw (none, empty, is) refl

  -- another header
  pub header_refused : (headed : Bool) (records rest : List Fields) (rows : List A) (fields : Fields) → headed ≡ false
      → HasTaken is_header read headed records rows → is_header fields ≡ false
      → file_in is_header read (records ++ fields ∷ rest) ≡ Err (1, 0)
  header_refused true records rest rows fields was taken is = cc
  header_refused false records rest rows fields was (none, empty) is = rw (none, is) refl

  -- a row is taken
  pub row_taken : (headed : Bool) (records : List Fields) (rows : List A) (fields : Fields) (row : A) → headed ≡ true
      → HasTaken is_header read headed records rows → read fields ≡ Ok row
      → file_in is_header read (records ++ fields ∷ []) ≡ Ok (rows ++ row ∷ [])
  row_taken true records rows fields row was taken is = file_one_more read is_header records rows fields row taken is
  row_taken false records rows fields row was taken is = cc

  -- a bad row
  pub row_refused : (headed : Bool) (records rest : List Fields) (rows : List A) (fields : Fields) (column : ℕ) → headed ≡ true
      → HasTaken is_header read headed records rows → read fields ≡ Err column
      → file_in is_header read (records ++ fields ∷ rest) ≡ Err (length rows + 2, column)
  row_refused true records rest rows fields column was taken is =
      let place : 2 + length rows ≡ length rows + 2 = omega arith in
      file_first_bad read is_header records rows fields rest column taken is ∙ ap (λ n. Err (n, column)) place
  row_refused false records rest rows fields column was taken is = cc

  -- the header was taken, and then all these rows
  pub all_taken : (headed : Bool) (records : List Fields) (rows : List A) → headed ≡ true → HasTaken is_header read headed records rows
      → file_in is_header read records ≡ Ok rows
  all_taken true records rows was taken = taken
  all_taken false records rows was taken = cc

  -- nothing was there
  pub none_taken : (headed : Bool) (records : List Fields) (rows : List A) → headed ≡ false → HasTaken is_header read headed records rows
      → file_in is_header read records ≡ Err (1, 0)
  none_taken true records rows was taken = cc
  none_taken false records rows was (none, empty) = rw none refl
