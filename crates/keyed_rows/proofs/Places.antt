-- Where a row stands or goes, by its place in the list.
use Rattle.std.proofs.Common.{◌≡◌, ◌≢◌, ℕ, zero, suc, ◌+◌, ◌<◌, ◌≤◌, Bool, true, false, List, [], ◌∷◌, length, get_or, set, Some, None, refl, sym, ◌∙◌, ap, arith}
use Rattle.std.specs.Prelude.{take_while, insert, nat_lt}
use Rattle.std.specs.List.Sorted.{IsPartitionPoint, IsPartitionedBy}
use Rattle.std.proofs.lemmas.Bool.Decides.{nat_tests}
use Rattle.std.proofs.lemmas.Grind.{common_steps}
use Rattle.keyed_rows.specs.Rows.{Rises, row_at, put_row}

-- a place between rows that pass a test and rows that fail it is the number of those that pass
pub point_is : {R : Type 0} (p : R → Bool) (rows : List R) (i : ℕ) → i ≤ length rows → IsPartitionPoint (λ r. p r ≡ true) (λ r. p r ≡ false) rows i → i ≡ length (take_while p rows)
point_is p [] i within point = omega (arith, within)
point_is p (r ∷ rows) zero within point =
    let no : p r ≡ false = point.1 0 r (omega arith) (omega arith) in
    rw no refl
point_is p (r ∷ rows) (suc i) within point =
    let yes : p r ≡ true = point.0 0 r (omega arith) (omega arith) in
    let rest = point_is p rows i (omega (arith, within)) (λ k d low high. point.0 (suc k) d (omega arith) (omega (arith, high)), λ k d low high. point.1 (suc k) d (omega (arith, low)) (omega (arith, high))) in
    grind (arith, common_steps, yes, rest)

module _ {R : Type 0} (key : R → ℕ) where
  -- how many rows have a smaller key
  abbrev pub below : ℕ → List R → ℕ
  below k rows = length (take_while (λ r. nat_lt (key r) k) rows)

  -- rows in order lie above the bound
  above : (low : ℕ) (rows : List R) (d : R) (k : ℕ) → Rises key low rows → k < length rows → low ≤ key (get_or rows k d)
  above low [] d k rise within = absurd (omega (arith, within))
  above low (r ∷ rows) d zero rise within = rise.0
  above low (r ∷ rows) d (suc k) rise within = omega (arith, rise.0, above (key r + 1) rows d k rise.1 (omega (arith, within)))

  -- and none has a greater key than one behind it
  between : (low : ℕ) (rows : List R) (d : R) (i j : ℕ) → Rises key low rows → i ≤ j → j < length rows → key (get_or rows i d) ≤ key (get_or rows j d)
  between low [] d i j rise before within = absurd (omega (arith, within))
  between low (r ∷ rows) d zero zero rise before within = omega arith
  between low (r ∷ rows) d zero (suc j) rise before within = omega (arith, above (key r + 1) rows d j rise.1 (omega (arith, within)))
  between low (r ∷ rows) d (suc i) zero rise before within = absurd (omega (arith, before))
  between low (r ∷ rows) d (suc i) (suc j) rise before within = between (key r + 1) rows d i j rise.1 (omega (arith, before)) (omega (arith, within))

  -- those with a smaller key stand before the others
  pub parted : (low k : ℕ) (rows : List R) → Rises key low rows → IsPartitionedBy (λ r. nat_lt (key r) k) rows
  parted low k rows rise = λ i j d before within less. let order = between low rows d i j rise before within in grind (arith, nat_tests, order, less)

  -- nothing is found under a key below the bound
  none_below : (low k : ℕ) (rows : List R) → Rises key low rows → k < low → row_at key k rows ≡ None
  none_below low k [] rise less = refl
  none_below low k (r ∷ rows) rise less = let later = none_below (key r + 1) k rows rise.1 (omega (arith, rise.0, less)) in let order = rise.0 in grind (arith, nat_tests, later, order, less)

  -- a row is found at its place
  pub found_at : (k low : ℕ) (rows : List R) (d : R) → Rises key low rows → below k rows < length rows → key (get_or rows (below k rows) d) ≡ k → row_at key k rows ≡ Some (get_or rows (below k rows) d)
  found_at k low [] d rise within same = absurd (omega (arith, within))
  found_at k low (r ∷ rows) d rise within same = grind (arith, nat_tests, common_steps, found_at k (key r + 1) rows d rise.1)

  -- and where its place has none of its key, nothing is found
  pub not_found : (k low : ℕ) (rows : List R) (d : R) → Rises key low rows → (below k rows < length rows → key (get_or rows (below k rows) d) ≢ k) → row_at key k rows ≡ None
  not_found k low [] d rise other = refl
  not_found k low (r ∷ rows) d rise other = grind (arith, nat_tests, common_steps, not_found k (key r + 1) rows d rise.1, none_below (key r + 1) k rows rise.1)

  -- the same by a number that is the place
  pub found_by : (k : ℕ) (rows : List R) (n : ℕ) (r : R) → Rises key 0 rows → n ≡ below k rows → n < length rows → r ≡ get_or rows n r → key r ≡ k → row_at key k rows ≡ Some r
  found_by k rows n r rise place within at same =
      found_at k 0 rows r rise (omega (arith, place, within)) (ap (λ m. key (get_or rows m r)) (sym place) ∙ ap key (sym at) ∙ same)
      ∙ ap (λ m. Some (get_or rows m r)) (sym place) ∙ ap (λ x. Some x) (sym at)

  pub missed_by : (k : ℕ) (rows : List R) (n : ℕ) → Rises key 0 rows → n ≡ below k rows → ((d : R) → n < length rows → key (get_or rows n d) ≢ k) → row_at key k rows ≡ None
  missed_by k [] n rise place other = refl
  missed_by k (r ∷ rows) n rise place other = not_found k 0 (r ∷ rows) r rise (λ within same. other r (omega (arith, place, within)) (ap (λ m. key (get_or (r ∷ rows) m r)) place ∙ same))

  -- a row in the place of one with its key
  pub set-put_row : (row : R) (rows : List R) (d : R) → below (key row) rows < length rows → key (get_or rows (below (key row) rows) d) ≡ key row → set rows (below (key row) rows) row ≡ put_row key row rows
  set-put_row row [] d within same = absurd (omega arith)
  set-put_row row (r ∷ rows) d within same = grind (arith, nat_tests, common_steps, set-put_row row rows d)

  -- a row before those with a greater key
  pub insert-put_row : (row : R) (rows : List R) (d : R) → (below (key row) rows < length rows → key (get_or rows (below (key row) rows) d) ≢ key row) → insert rows (below (key row) rows) row ≡ put_row key row rows
  insert-put_row row [] d other = refl
  insert-put_row row (r ∷ rows) d other = grind (arith, nat_tests, common_steps, insert-put_row row rows d)

  -- the same by a number that is the place
  pub set_by : (row : R) (rows : List R) (n : ℕ) (d : R) → n ≡ below (key row) rows → n < length rows → key (get_or rows n d) ≡ key row → set rows n row ≡ put_row key row rows
  set_by row rows n d place within same = ap (λ m. set rows m row) place ∙ set-put_row row rows d (omega (arith, place, within)) (ap (λ m. key (get_or rows m d)) (sym place) ∙ same)

  pub insert_by : (row : R) (rows : List R) (n : ℕ) (d : R) → n ≡ below (key row) rows → (n < length rows → key (get_or rows n d) ≢ key row) → insert rows n row ≡ put_row key row rows
  insert_by row rows n d place other = ap (λ m. insert rows m row) place ∙ insert-put_row row rows d (λ within same. other (omega (arith, place, within)) (ap (λ m. key (get_or rows m d)) place ∙ same))
