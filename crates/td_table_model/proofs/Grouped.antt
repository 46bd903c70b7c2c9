-- Rows that belong to others: what each has of all of them, and all of them from what each has.
use Rattle.std.proofs.Common.{◌≡◌, ◌≢◌, ℕ, ◌+◌, ◌<◌, Bool, true, false, cond, List, [], ◌∷◌, ◌++◌, flat_map, Some, IsSome, refl, ◌∙◌, ap, ap₂, subst, arith, append-nil, IsPermutation}
use Rattle.std.specs.Prelude.{◌==◌}
use Rattle.std.specs.List.{AllByRecursion}
use Rattle.std.specs.Option.{option_map_or}
use Rattle.std.proofs.lemmas.Bool.Decides.{nat_tests}
use Rattle.std.proofs.lemmas.List.Sorted.{IsPermutation-refl, IsPermutation-sym, IsPermutation-cons, IsPermutation-middle, IsPermutation-trans, IsPermutation-append_right}
use Rattle.sqlite_trees.proofs.ListLemmas.{flat_map_none, all_weaker, IsPermutation-same}
use Rattle.keyed_rows.specs.Rows.{row_at, Rises}
use Rattle.td_table_model.specs.Gathering.{of_key}
use Rattle.td_table_model.proofs.Orders.{each_found}

module _ {X : Type 0} (own : X → ℕ) where
  pub of_key-append : (k : ℕ) (xs ys : List X) → of_key own k (xs ++ ys) ≡ of_key own k xs ++ of_key own k ys
  of_key-append k [] ys = refl
  of_key-append k (x ∷ xs) ys = by_test (own x == k) (of_key-append k xs ys)
    where
      by_test : (b : Bool) → of_key own k (xs ++ ys) ≡ of_key own k xs ++ of_key own k ys → cond b (x ∷ of_key own k (xs ++ ys)) (of_key own k (xs ++ ys)) ≡ cond b (x ∷ of_key own k xs) (of_key own k xs) ++ of_key own k ys
      by_test true later = ap (λ l. x ∷ l) later
      by_test false later = later

  -- all are of one that all belong to
  pub all_of_key : (k : ℕ) (xs : List X) → AllByRecursion (λ x. own x ≡ k) xs → of_key own k xs ≡ xs
  all_of_key k [] all = refl
  all_of_key k (x ∷ xs) all = let later = all_of_key k xs all.1 in let here = all.0 in grind (arith, nat_tests, later, here)

  -- and none is of another
  pub none_of_key : (j k : ℕ) (xs : List X) → j ≢ k → AllByRecursion (λ x. own x ≡ j) xs → of_key own k xs ≡ []
  none_of_key j k [] other all = refl
  none_of_key j k (x ∷ xs) other all = let later = none_of_key j k xs other all.1 in let here = all.0 in grind (arith, nat_tests, later, here, other)

  -- those of a key have it
  pub of_key_has : (k : ℕ) (xs : List X) → AllByRecursion (λ x. own x ≡ k) (of_key own k xs)
  of_key_has k [] = tt
  of_key_has k (x ∷ xs) = by_test (own x == k) refl (of_key_has k xs)
    where
      by_test : (b : Bool) → (own x == k) ≡ b → AllByRecursion (λ x. own x ≡ k) (of_key own k xs) → AllByRecursion (λ x. own x ≡ k) (cond b (x ∷ of_key own k xs) (of_key own k xs))
      by_test true same later = (grind (arith, nat_tests, same), later)
      by_test false other later = later

module _ {R X : Type 0} (key : R → ℕ) (own : X → ℕ) (f : R → List X) (owned : (r : R) → AllByRecursion (λ x. own x ≡ key r) (f r)) where
  -- nothing is of a key below the bound
  none_below : (k low : ℕ) (rows : List R) → Rises key low rows → k < low → of_key own k (flat_map f rows) ≡ []
  none_below k low [] rise less = refl
  none_below k low (r ∷ rows) rise less =
      of_key-append own k (f r) (flat_map f rows)
      ∙ ap₂ ◌++◌ (none_of_key own (key r) k (f r) (λ e. omega (arith, e, rise.0, less)) (owned r)) (none_below k (key r + 1) rows rise.1 (omega (arith, rise.0, less)))

  -- of all that rows have, that of a key is what the row of the key has
  pub flat_of : (k low : ℕ) (rows : List R) → Rises key low rows → of_key own k (flat_map f rows) ≡ option_map_or f (row_at key k rows) []
  flat_of k low [] rise = refl
  flat_of k low (r ∷ rows) rise = of_key-append own k (f r) (flat_map f rows) ∙ by_test (key r == k) refl (flat_of k (key r + 1) rows rise.1)
    where
      by_test : (b : Bool) → (key r == k) ≡ b → of_key own k (flat_map f rows) ≡ option_map_or f (row_at key k rows) [] → of_key own k (f r) ++ of_key own k (flat_map f rows) ≡ option_map_or f (cond b (Some r) (row_at key k rows)) []
      by_test true same later =
          let here : key r ≡ k = grind (arith, nat_tests, same) in
          ap₂ ◌++◌ (subst (λ n. of_key own n (f r) ≡ f r) here (all_of_key own (key r) (f r) (owned r))) (none_below k (key r + 1) rows rise.1 (omega (arith, here))) ∙ append-nil (f r)
      by_test false other later =
          ap₂ ◌++◌ (none_of_key own (key r) k (f r) (grind (arith, nat_tests, other)) (owned r)) later

  -- so each row has back what it gave
  pub flat_each : (low : ℕ) (rows : List R) → Rises key low rows → AllByRecursion (λ r. of_key own (key r) (flat_map f rows) ≡ f r) rows
  flat_each low rows rise =
      all_weaker (λ r. row_at key (key r) rows ≡ Some r) (λ r. of_key own (key r) (flat_map f rows) ≡ f r) (λ r found. flat_of (key r) low rows rise ∙ ap (λ o. option_map_or f o []) found) rows (each_found key low rows rise)

module _ {R X : Type 0} (key : R → ℕ) (own : X → ℕ) where
  -- what each row has of these
  abbrev pub grouped : List X → List R → List X
  grouped xs rows = flat_map (λ r. of_key own (key r) xs) rows

  -- one of a key below the bound is nobody's
  grouped_low : (x : X) (xs : List X) (low : ℕ) (rows : List R) → Rises key low rows → own x < low → grouped (x ∷ xs) rows ≡ grouped xs rows
  grouped_low x xs low [] rise less = refl
  grouped_low x xs low (r ∷ rows) rise less = by_test (own x == key r) refl (grouped_low x xs (key r + 1) rows rise.1 (omega (arith, rise.0, less)))
    where
      by_test : (b : Bool) → (own x == key r) ≡ b → grouped (x ∷ xs) rows ≡ grouped xs rows → cond b (x ∷ of_key own (key r) xs) (of_key own (key r) xs) ++ grouped (x ∷ xs) rows ≡ of_key own (key r) xs ++ grouped xs rows
      by_test true same later = absurd (let here : own x ≡ key r = grind (arith, nat_tests, same) in omega (arith, here, rise.0, less))
      by_test false other later = ap (λ l. of_key own (key r) xs ++ l) later

  -- one of a row's key is that row's
  grouped_one : (x : X) (xs : List X) (low : ℕ) (rows : List R) → Rises key low rows → IsSome (row_at key (own x) rows) → IsPermutation (x ∷ grouped xs rows) (grouped (x ∷ xs) rows)
  grouped_one x xs low [] rise some = cc
  grouped_one x xs low (r ∷ rows) rise some = by_tests (key r == own x) (own x == key r) refl refl some (grouped_one x xs (key r + 1) rows rise.1)
    where
      by_tests : (a b : Bool) → (key r == own x) ≡ a → (own x == key r) ≡ b → IsSome (cond a (Some r) (row_at key (own x) rows)) → (IsSome (row_at key (own x) rows) → IsPermutation (x ∷ grouped xs rows) (grouped (x ∷ xs) rows))
          → IsPermutation (x ∷ (of_key own (key r) xs ++ grouped xs rows)) (cond b (x ∷ of_key own (key r) xs) (of_key own (key r) xs) ++ grouped (x ∷ xs) rows)
      by_tests true true same also some later =
          let here : own x ≡ key r = grind (arith, nat_tests, also) in
          rw (grouped_low x xs (key r + 1) rows rise.1 (omega (arith, here))) (IsPermutation-refl _)
      by_tests true false same other some later = absurd (grind (arith, nat_tests, same, other))
      by_tests false true other same some later = absurd (grind (arith, nat_tests, same, other))
      by_tests false false other also some later =
          IsPermutation-trans _ _ _ (IsPermutation-sym _ _ (IsPermutation-middle (of_key own (key r) xs) x (grouped xs rows)))
          (IsPermutation-append_right (of_key own (key r) xs) _ _ (later some))

  -- where each is some row's, the rows have them all
  pub together : (low : ℕ) (rows : List R) → Rises key low rows → (xs : List X) → AllByRecursion (λ x. IsSome (row_at key (own x) rows)) xs → IsPermutation (grouped xs rows) xs
  together low rows rise [] all = IsPermutation-same _ _ (flat_map_none (λ r. []) (λ r. refl) rows)
  together low rows rise (x ∷ xs) all =
      IsPermutation-trans _ _ _ (IsPermutation-sym _ _ (grouped_one x xs low rows rise all.0)) (IsPermutation-cons x _ _ (together low rows rise xs all.1))
