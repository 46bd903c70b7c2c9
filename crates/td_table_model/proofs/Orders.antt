-- Rows brought in order of a number: whatever order they were given in, the outcome is one.
use Rattle.std.proofs.Common.{◌≡◌, ◌≢◌, ℕ, suc, ◌+◌, ◌<◌, ◌≤◌, Bool, true, false, cond, List, [], ◌∷◌, length, map, Some, None, refl, sym, subst, ◌∙◌, ap, arith, IsPermutation}
use Rattle.std.specs.Prelude.{◌==◌, filter, nat_lt, slice_index_or, if◌then◌else◌}
use Rattle.std.specs.List.{AllByRecursion}
use Rattle.std.proofs.lemmas.Bool.Decides.{nat_tests}
use Rattle.std.proofs.lemmas.List.Sorted.{IsPermutation-refl, IsPermutation-cons, IsPermutation-middle, IsPermutation-sym, IsPermutation-trans, length_permutation}
use Rattle.std.specs.List.Sorted.{IsSortedByKey}
use Rattle.std.specs.Ordering.{is_lt, nat_cmp}
use Rattle.sqlite_trees.proofs.ListLemmas.{all_weaker, all_both, along_permutation, IsPermutation-filter}
use Rattle.keyed_rows.specs.Rows.{row_at, Rises, put_row}
use Rattle.keyed_rows.proofs.Putting.{Rises-put_row, row_at-put_row_same, row_at-put_row_other}
use Rattle.td_table_model.specs.Gathering.{IsApart, IsNumbered, in_order, of_key}

module _ {R : Type 0} (key : R → ℕ) where
  -- rows in order rise
  pub in_order_rises : (rows : List R) → Rises key 0 (in_order key rows)
  in_order_rises [] = tt
  in_order_rises (r ∷ rows) = Rises-put_row key r 0 (in_order key rows) (in_order_rises rows) (omega arith)

  -- rows of different keys are put in any order
  put_puts : (x y : R) (rows : List R) → key x ≢ key y → put_row key x (put_row key y rows) ≡ put_row key y (put_row key x rows)
  put_puts x y [] other = grind (arith, nat_tests)
  put_puts x y (r ∷ rows) other = grind (arith, nat_tests, put_puts x y rows other)

  -- no two of the rows behind have one key
  pub apart_behind : (r : R) (rows : List R) → IsApart key (r ∷ rows) → IsApart key rows
  apart_behind r rows apart k = by_test (key r == k) (apart k)
    where
      by_test : (b : Bool) → length (cond b (r ∷ of_key key k rows) (of_key key k rows)) ≤ 1 → length (of_key key k rows) ≤ 1
      by_test true most = omega (arith, most)
      by_test false most = most

  -- the first two have different keys
  first_two : (x y : R) (rows : List R) → IsApart key (x ∷ y ∷ rows) → key x ≢ key y
  first_two x y rows apart same = by_tests (key x == key y) (key y == key y) (grind (arith, nat_tests, same)) (grind (arith, nat_tests)) (apart (key y))
    where
      by_tests : (a b : Bool) → a ≡ true → b ≡ true → length (cond a (x ∷ cond b (y ∷ of_key key (key y) rows) (of_key key (key y) rows)) (cond b (y ∷ of_key key (key y) rows) (of_key key (key y) rows))) ≤ 1 → ⊥
      by_tests true true is_a is_b most = omega (arith, most)
      by_tests true false is_a is_b most = cc
      by_tests false b is_a is_b most = cc

  -- a permutation of rows that are apart is apart
  pub apart_permuted : (xs ys : List R) → IsPermutation xs ys → IsApart key xs → IsApart key ys
  apart_permuted xs ys same apart k = omega (arith, apart k, length_permutation (of_key key k xs) (of_key key k ys) (IsPermutation-filter (λ r. key r == k) xs ys same))

  -- rows that are apart come to one order, however they were given
  pub in_order_permuted : (xs ys : List R) → IsPermutation xs ys → IsApart key xs → in_order key xs ≡ in_order key ys
  in_order_permuted xs ys same = (along_permutation (λ xs ys. IsPermutation xs ys × (IsApart key xs → in_order key xs ≡ in_order key ys))
      (λ xs. (IsPermutation-refl xs, λ apart. refl))
      (λ x xs ys h. (IsPermutation-cons x xs ys h.0, λ apart. ap (put_row key x) (h.1 (apart_behind x xs apart))))
      (λ x y xs. (IsPermutation-middle (x ∷ []) y xs, λ apart. put_puts x y (in_order key xs) (first_two x y xs apart)))
      (λ xs ys zs h k. (IsPermutation-trans xs ys zs h.0 k.0, λ apart. h.1 apart ∙ k.1 (apart_permuted xs ys h.0 apart)))
      xs ys same).1

  -- rising rows have no key below the bound
  none_low : (k low : ℕ) (rows : List R) → Rises key low rows → k < low → of_key key k rows ≡ []
  none_low k low [] rise less = refl
  none_low k low (r ∷ rows) rise less =
      let later = none_low k (key r + 1) rows rise.1 (omega (arith, rise.0, less)) in
      let order = rise.0 in
      grind (arith, nat_tests, later, order, less)

  -- rising rows are apart
  pub rises_apart : (low : ℕ) (rows : List R) → Rises key low rows → IsApart key rows
  rises_apart low [] rise k = omega arith
  rises_apart low (r ∷ rows) rise k = by_test (key r == k) refl (rises_apart (key r + 1) rows rise.1 k)
    where
      by_test : (b : Bool) → (key r == k) ≡ b → length (of_key key k rows) ≤ 1 → length (cond b (r ∷ of_key key k rows) (of_key key k rows)) ≤ 1
      by_test true same later =
          let here : key r ≡ k = grind (arith, nat_tests, same) in
          rw (none_low k (key r + 1) rows rise.1 (omega (arith, here))) (omega arith)
      by_test false other later = later

  -- and stand in order already
  put_first : (low : ℕ) (r : R) (rows : List R) → key r < low → Rises key low rows → put_row key r rows ≡ r ∷ rows
  put_first low r [] less rise = refl
  put_first low r (s ∷ rows) less rise = let order = rise.0 in grind (arith, nat_tests, order, less)

  pub in_order_same : (low : ℕ) (rows : List R) → Rises key low rows → in_order key rows ≡ rows
  in_order_same low [] rise = refl
  in_order_same low (r ∷ rows) rise = ap (put_row key r) (in_order_same (key r + 1) rows rise.1) ∙ put_first (key r + 1) r rows (omega arith) rise.1

  -- so a permutation of rising rows is brought back to them
  pub brought_to_order : (low : ℕ) (rows given : List R) → Rises key low rows → IsPermutation rows given → in_order key given ≡ rows
  brought_to_order low rows given rise same = sym (in_order_permuted rows given same (rises_apart low rows rise)) ∙ in_order_same low rows rise

  tail_sorted : (r : R) (rows : List R) → IsSortedByKey key nat_cmp (r ∷ rows) → IsSortedByKey key nat_cmp rows
  tail_sorted r rows sorted k d low high =
      let next : suc k + 1 ≡ suc (k + 1) = omega arith in
      subst (λ j. is_lt (nat_cmp (key (slice_index_or (r ∷ rows) j d)) (key (slice_index_or rows k d))) ≡ false) next (sorted (suc k) d (omega arith) (omega (arith, high)))

  -- rows whose keys don't fall, and that are apart, rise
  sorted_rise : (low : ℕ) (r : R) (rows : List R) → low ≤ key r → IsSortedByKey key nat_cmp (r ∷ rows) → IsApart key (r ∷ rows) → Rises key low (r ∷ rows)
  sorted_rise low r [] first sorted apart = (first, tt)
  sorted_rise low r (s ∷ rows) first sorted apart =
      let other = first_two r s rows apart in
      let after : is_lt (nat_cmp (key s) (key r)) ≡ false = sorted 0 r (omega arith) (omega arith) in
      (first, sorted_rise (key r + 1) s rows (grind (arith, nat_tests, other, after)) (tail_sorted r (s ∷ rows) sorted) (apart_behind r (s ∷ rows) apart))

  -- so a permutation whose keys don't fall is what the rows are brought to
  pub sorted_is_order : (rows given : List R) → IsPermutation given rows → IsSortedByKey key nat_cmp rows → IsApart key given → rows ≡ in_order key given
  sorted_is_order [] given same sorted apart = sym (brought_to_order 0 [] given tt (IsPermutation-sym given [] same))
  sorted_is_order (r ∷ rows) given same sorted apart =
      sym (brought_to_order 0 (r ∷ rows) given (sorted_rise 0 r rows (omega arith) sorted (apart_permuted given (r ∷ rows) same apart)) (IsPermutation-sym given (r ∷ rows) same))

  -- what is found of rows in order is what is found of the rows
  pub found_in_order : (k : ℕ) (rows : List R) → row_at key k (in_order key rows) ≡ row_at key k rows
  found_in_order k [] = refl
  found_in_order k (r ∷ rows) = by_test (key r == k) refl (found_in_order k rows)
    where
      by_test : (b : Bool) → (key r == k) ≡ b → row_at key k (in_order key rows) ≡ row_at key k rows → row_at key k (put_row key r (in_order key rows)) ≡ cond b (Some r) (row_at key k rows)
      by_test true same later = row_at-put_row_same key k r (in_order key rows) (grind (arith, nat_tests, same))
      by_test false other later = row_at-put_row_other key k r (in_order key rows) (grind (arith, nat_tests, other)) ∙ later

  -- nothing is found where no row has the key
  pub none_found : (k : ℕ) (rows : List R) → length (of_key key k rows) ≤ 0 → row_at key k rows ≡ None
  none_found k [] none = refl
  none_found k (r ∷ rows) none = by_test (key r == k) none (none_found k rows)
    where
      by_test : (b : Bool) → length (cond b (r ∷ of_key key k rows) (of_key key k rows)) ≤ 0 → (length (of_key key k rows) ≤ 0 → row_at key k rows ≡ None) → cond b (Some r) (row_at key k rows) ≡ None
      by_test true none later = absurd (omega (arith, none))
      by_test false none later = later none

  -- a row whose key is new is put to the others
  pub put_permutes : (r : R) (rows : List R) → row_at key (key r) rows ≡ None → IsPermutation (r ∷ rows) (put_row key r rows)
  put_permutes r [] none = IsPermutation-refl (r ∷ [])
  put_permutes r (s ∷ rows) none = by_tests (nat_lt (key s) (key r)) (key s == key r) none (put_permutes r rows)
    where
      by_tests : (a b : Bool) → cond b (Some s) (row_at key (key r) rows) ≡ None → (row_at key (key r) rows ≡ None → IsPermutation (r ∷ rows) (put_row key r rows))
          → IsPermutation (r ∷ s ∷ rows) (if a then s ∷ put_row key r rows else (if b then r ∷ rows else r ∷ s ∷ rows))
      by_tests a true none later = cc
      by_tests true false none later = IsPermutation-trans _ _ _ (IsPermutation-middle (r ∷ []) s rows) (IsPermutation-cons s _ _ (later none))
      by_tests false false none later = IsPermutation-refl (r ∷ s ∷ rows)

  -- bringing in order only moves rows that are apart
  pub in_order_permutes : (rows : List R) → IsApart key rows → IsPermutation rows (in_order key rows)
  in_order_permutes [] apart = IsPermutation-refl []
  in_order_permutes (r ∷ rows) apart =
      IsPermutation-trans _ _ _ (IsPermutation-cons r _ _ (in_order_permutes rows (apart_behind r rows apart)))
      (put_permutes r (in_order key rows) (found_in_order (key r) rows ∙ none_found (key r) rows (by_test (key r == key r) (grind (arith, nat_tests)) (apart (key r)))))
    where
      by_test : (b : Bool) → b ≡ true → length (cond b (r ∷ of_key key (key r) rows) (of_key key (key r) rows)) ≤ 1 → length (of_key key (key r) rows) ≤ 0
      by_test true is most = omega (arith, most)
      by_test false is most = cc

  -- rising rows stand above the bound
  pub rises_above : (low : ℕ) (rows : List R) → Rises key low rows → AllByRecursion (λ r. low ≤ key r) rows
  rises_above low [] rise = tt
  rises_above low (r ∷ rows) rise = (rise.0, all_weaker (λ s. key r + 1 ≤ key s) (λ s. low ≤ key s) (λ s above. omega (arith, above, rise.0)) rows (rises_above (key r + 1) rows rise.1))

  -- and each is the one that its key finds
  pub each_found : (low : ℕ) (rows : List R) → Rises key low rows → AllByRecursion (λ r. row_at key (key r) rows ≡ Some r) rows
  each_found low [] rise = tt
  each_found low (r ∷ rows) rise = (
    here (key r == key r) (grind (arith, nat_tests)),
    all_both (λ s. key r + 1 ≤ key s) (λ s. row_at key (key s) rows ≡ Some s) (λ s. row_at key (key s) (r ∷ rows) ≡ Some s) (λ s above found. there s (key r == key s) refl above found) rows (rises_above (key r + 1) rows rise.1) (each_found (key r + 1) rows rise.1),
  )
    where
      here : (b : Bool) → b ≡ true → cond b (Some r) (row_at key (key r) rows) ≡ Some r
      here true is = refl
      here false is = cc

      there : (s : R) (b : Bool) → (key r == key s) ≡ b → key r + 1 ≤ key s → row_at key (key s) rows ≡ Some s → cond b (Some r) (row_at key (key s) rows) ≡ Some s
      there s true same above found = absurd (grind (arith, nat_tests, same, above))
      there s false other above found = found

  -- nothing is found below the bound
  pub none_at : (k low : ℕ) (rows : List R) → Rises key low rows → k < low → row_at key k rows ≡ None
  none_at k low rows rise less = none_found k rows (omega (arith, ap length (none_low k low rows rise less)))

  -- a lower bound
  pub rises_lower : (low high : ℕ) (rows : List R) → low ≤ high → Rises key high rows → Rises key low rows
  rises_lower low high [] most rise = tt
  rises_lower low high (r ∷ rows) most rise = (omega (arith, most, rise.0), rise.1)

  -- numbered rows rise
  pub numbered_rise : (n : ℕ) (rows : List R) → IsNumbered key n rows → Rises key (n + 1) rows
  numbered_rise n [] is = tt
  numbered_rise n (r ∷ rows) is = (omega (arith, is.0), subst (λ k. Rises key (k + 1) rows) (sym is.0) (numbered_rise (n + 1) rows is.1))

  -- so do those of rising rows that pass
  pub rises-filter : (p : R → Bool) (low : ℕ) (rows : List R) → Rises key low rows → Rises key low (filter p rows)
  rises-filter p low [] rise = tt
  rises-filter p low (r ∷ rows) rise = by_test (p r) (rises-filter p (key r + 1) rows rise.1)
    where
      by_test : (b : Bool) → Rises key (key r + 1) (filter p rows) → Rises key low (cond b (r ∷ filter p rows) (filter p rows))
      by_test true later = (rise.0, later)
      by_test false later = rises_lower low (key r + 1) (filter p rows) (omega (arith, rise.0)) later

-- what is made of elements rises where they do
pub rises-map : {X R : Type 0} (f : X → R) (key : R → ℕ) (low : ℕ) (xs : List X) → Rises (λ x. key (f x)) low xs → Rises key low (map f xs)
rises-map f key low [] rise = tt
rises-map f key low (x ∷ xs) rise = (rise.0, rises-map f key (key (f x) + 1) xs rise.1)

pub rises_from_map : {X R : Type 0} (f : X → R) (key : R → ℕ) (low : ℕ) (xs : List X) → Rises key low (map f xs) → Rises (λ x. key (f x)) low xs
rises_from_map f key low [] rise = tt
rises_from_map f key low (x ∷ xs) rise = (rise.0, rises_from_map f key (key (f x) + 1) xs rise.1)
