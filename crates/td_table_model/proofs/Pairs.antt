-- Rows of which no two have one key, pair by pair, and back.
use Rattle.std.proofs.Common.{◌≡◌, ◌≢◌, ℕ, zero, suc, ◌<◌, ◌≤◌, Bool, true, false, cond, List, [], ◌∷◌, length, filter, get_or, refl, sym, ◌∙◌, ap, arith, IsPermutation}
use Rattle.std.specs.Prelude.{◌==◌, AllPairs}
use Rattle.std.specs.List.{AllByRecursion}
use Rattle.std.specs.Str.{bytes_eq}
use Rattle.std.proofs.lemmas.Bool.Decides.{nat_tests}
use Rattle.std.proofs.lemmas.List.Sorted.{length_permutation}
use Rattle.std.proofs.lemmas.Slice.Eq.{bytes_eq-Decides}
use Rattle.sqlite_trees.proofs.ListLemmas.{all_weaker, all-get_or, filter_none, IsPermutation-filter}
use Rattle.td_table_model.specs.Gathering.{IsApart, IsTextApart}

module _ {X : Type 0} (R : X → X → Type 0) where
  -- pairs with one more in front
  pub pairs_with : (x : X) (xs : List X) → AllByRecursion (R x) xs → AllPairs R xs → AllPairs R (x ∷ xs)
  pairs_with x xs first rest zero zero d less within = absurd (omega (arith, less))
  pairs_with x xs first rest zero (suc j) d less within = all-get_or (R x) xs j d first (omega (arith, within))
  pairs_with x xs first rest (suc i) zero d less within = absurd (omega (arith, less))
  pairs_with x xs first rest (suc i) (suc j) d less within = rest i j d (omega (arith, less)) (omega (arith, within))

  -- the pairs of the first, and those behind it
  each_from : (xs : List X) (P : X → Type 0) → ((k : ℕ) (d : X) → k < length xs → P (get_or xs k d)) → AllByRecursion P xs
  each_from [] P each = tt
  each_from (x ∷ xs) P each = (each 0 x (omega arith), each_from xs P (λ k d within. each (suc k) d (omega (arith, within))))

  pub pairs_first : (x : X) (xs : List X) → AllPairs R (x ∷ xs) → AllByRecursion (R x) xs
  pairs_first x xs pairs = each_from xs (R x) (λ k d within. pairs zero (suc k) d (omega arith) (omega (arith, within)))

  pub pairs_behind : (x : X) (xs : List X) → AllPairs R (x ∷ xs) → AllPairs R xs
  pairs_behind x xs pairs = λ i j d less within. pairs (suc i) (suc j) d (omega (arith, less)) (omega (arith, within))

-- where none passes, each fails
all_fail : {X : Type 0} (p : X → Bool) (xs : List X) → length (filter p xs) ≤ 0 → AllByRecursion (λ y. p y ≡ false) xs
all_fail p [] most = tt
all_fail {X} p (x ∷ xs) most = by_test (p x) refl most (all_fail p xs)
  where
    by_test : (b : Bool) → p x ≡ b → length (cond b (x ∷ filter p xs) (filter p xs)) ≤ 0 → (length (filter p xs) ≤ 0 → AllByRecursion (λ y. p y ≡ false) xs) → AllByRecursion (λ y. p y ≡ false) (x ∷ xs)
    by_test true passes most later = absurd (omega (arith, most))
    by_test false fails most later = (fails, later most)

-- rows that pass a test are none but the first, where it passes and at most one does
none_behind : {X : Type 0} (p : X → Bool) (x : X) (xs : List X) → p x ≡ true → length (filter p (x ∷ xs)) ≤ 1 → AllByRecursion (λ y. p y ≡ false) xs
none_behind {X} p x xs is most = all_fail p xs (by_test (p x) is most)
  where
    by_test : (b : Bool) → b ≡ true → length (cond b (x ∷ filter p xs) (filter p xs)) ≤ 1 → length (filter p xs) ≤ 0
    by_test true is most = omega (arith, most)
    by_test false is most = cc

-- at most one of more passes where at most one of fewer does
fewer : {X : Type 0} (p : X → Bool) (x : X) (xs : List X) → length (filter p (x ∷ xs)) ≤ 1 → length (filter p xs) ≤ 1
fewer {X} p x xs most = by_test (p x) most
  where
    by_test : (b : Bool) → length (cond b (x ∷ filter p xs) (filter p xs)) ≤ 1 → length (filter p xs) ≤ 1
    by_test true most = omega (arith, most)
    by_test false most = most

module _ {X : Type 0} (key : X → ℕ) where
  -- numbers
  pub apart_pairs : (xs : List X) → IsApart key xs → AllPairs (λ a b. key a ≢ key b) xs
  apart_pairs [] apart = λ i j d less within. absurd (omega (arith, within))
  apart_pairs (x ∷ xs) apart =
      pairs_with (λ a b. key a ≢ key b) x xs
      (all_weaker (λ y. (key y == key x) ≡ false) (λ y. key x ≢ key y) (λ y other same. let e = sym same in absurd (grind (arith, nat_tests, other, e))) xs (none_behind (λ y. key y == key x) x xs (grind (arith, nat_tests)) (apart (key x))))
      (apart_pairs xs (λ k. fewer (λ y. key y == k) x xs (apart k)))

  pub pairs_apart : (xs : List X) → AllPairs (λ a b. key a ≢ key b) xs → IsApart key xs
  pairs_apart [] pairs k = omega arith
  pairs_apart (x ∷ xs) pairs k = by_test (key x == k) refl (pairs_apart xs (pairs_behind (λ a b. key a ≢ key b) x xs pairs) k)
    where
      by_test : (b : Bool) → (key x == k) ≡ b → length (filter (λ y. key y == k) xs) ≤ 1 → length (cond b (x ∷ filter (λ y. key y == k) xs) (filter (λ y. key y == k) xs)) ≤ 1
      by_test true same later =
          let here : key x ≡ k = grind (arith, nat_tests, same) in
          let none : filter (λ y. key y == k) xs ≡ [] = filter_none (λ y. key y == k) xs (all_weaker (λ y. key x ≢ key y) (λ y. (key y == k) ≡ false) (λ y other. let far : key y ≢ k = λ e. other (here ∙ sym e) in grind (arith, nat_tests, far)) xs (pairs_first (λ a b. key a ≢ key b) x xs pairs)) in
          omega (arith, ap length none)
      by_test false other later = later

module _ {X : Type 0} (key : X → List ℕ) where
  differ : (a b : List ℕ) → a ≢ b → bytes_eq a b ≡ false
  differ a b other = by_test (bytes_eq a b) refl
    where
      by_test : (t : Bool) → bytes_eq a b ≡ t → t ≡ false
      by_test true same = absurd (other ((bytes_eq-Decides a b).0 same))
      by_test false is = refl

  -- texts
  pub text_apart_pairs : (xs : List X) → IsTextApart key xs → AllPairs (λ a b. key a ≢ key b) xs
  text_apart_pairs [] apart = λ i j d less within. absurd (omega (arith, within))
  text_apart_pairs (x ∷ xs) apart =
      pairs_with (λ a b. key a ≢ key b) x xs
      (all_weaker (λ y. bytes_eq (key y) (key x) ≡ false) (λ y. key x ≢ key y) (λ y other same. let e = (bytes_eq-Decides (key y) (key x)).1 (sym same) in cc) xs (none_behind (λ y. bytes_eq (key y) (key x)) x xs ((bytes_eq-Decides (key x) (key x)).1 refl) (apart (key x))))
      (text_apart_pairs xs (λ k. fewer (λ y. bytes_eq (key y) k) x xs (apart k)))

  pub pairs_text_apart : (xs : List X) → AllPairs (λ a b. key a ≢ key b) xs → IsTextApart key xs
  pairs_text_apart [] pairs k = omega arith
  pairs_text_apart (x ∷ xs) pairs k = by_test (bytes_eq (key x) k) refl (pairs_text_apart xs (pairs_behind (λ a b. key a ≢ key b) x xs pairs) k)
    where
      by_test : (b : Bool) → bytes_eq (key x) k ≡ b → length (filter (λ y. bytes_eq (key y) k) xs) ≤ 1 → length (cond b (x ∷ filter (λ y. bytes_eq (key y) k) xs) (filter (λ y. bytes_eq (key y) k) xs)) ≤ 1
      by_test true same later =
          let here : key x ≡ k = (bytes_eq-Decides (key x) k).0 same in
          let none : filter (λ y. bytes_eq (key y) k) xs ≡ [] = filter_none (λ y. bytes_eq (key y) k) xs (all_weaker (λ y. key x ≢ key y) (λ y. bytes_eq (key y) k ≡ false) (λ y other. differ (key y) k (λ e. other (here ∙ sym e))) xs (pairs_first (λ a b. key a ≢ key b) x xs pairs)) in
          omega (arith, ap length none)
      by_test false other later = later

  -- whatever their order
  pub text_apart_permuted : (xs ys : List X) → IsPermutation xs ys → IsTextApart key xs → IsTextApart key ys
  text_apart_permuted xs ys same apart k = omega (arith, apart k, length_permutation (filter (λ y. bytes_eq (key y) k) xs) (filter (λ y. bytes_eq (key y) k) ys) (IsPermutation-filter (λ y. bytes_eq (key y) k) xs ys same))
