-- Rows that are found by a key, where no two have one key.
use Rattle.std.proofs.Common.{◌≡◌, ◌≢◌, ℕ, zero, suc, ◌+◌, ◌<◌, Bool, true, false, List, [], ◌∷◌, length, get_or, Option, Some, refl, sym, ◌∙◌, subst, arith}
use Rattle.std.specs.Prelude.{AllPairs, find, if◌then◌else◌}
use Rattle.std.specs.List.{AllByRecursion}
use Rattle.std.specs.Str.{bytes_eq}
use Rattle.std.proofs.lemmas.Slice.Eq.{bytes_eq-Decides}
use Rattle.td_model.specs.Sound.{AllNumbered}

module _ {R : Type 0} (key : R → List ℕ) where
  -- the keys of rows differ
  abbrev pub KeysDiffer : List R → Type 0
  KeysDiffer rows = AllPairs (λ a b. key a ≢ key b) rows

  -- the row with a key
  abbrev pub row_by : List ℕ → List R → Option R
  row_by k rows = find (λ r. bytes_eq (key r) k) rows

  pub behind_differ : (r : R) (rows : List R) → KeysDiffer (r ∷ rows) → KeysDiffer rows
  behind_differ r rows differ = λ i j d less within. differ (suc i) (suc j) d (omega (arith, less)) (omega (arith, within))

  pub first_differs : (r : R) (rows : List R) → KeysDiffer (r ∷ rows) → (k : ℕ) (d : R) → k < length rows → key r ≢ key (get_or rows k d)
  first_differs r rows differ k d within = differ zero (suc k) d (omega arith) (omega (arith, within))

  -- the same, element by element
  pub others_differ : (x : List ℕ) (rows : List R) → ((k : ℕ) (d : R) → k < length rows → x ≢ key (get_or rows k d)) → AllByRecursion (λ r. x ≢ key r) rows
  others_differ x [] other = tt
  others_differ x (r ∷ rows) other = (other zero r (omega arith), others_differ x rows (λ k d within. other (suc k) d (omega (arith, within))))

  -- each row with the key is the one that is found
  pub only_found : (k : List ℕ) (rows : List R) (found : R) → KeysDiffer rows → row_by k rows ≡ Some found → AllByRecursion (λ r. key r ≡ k → r ≡ found) rows
  only_found k [] found differ is = tt
  only_found k (r ∷ rows) found differ is = by_test (bytes_eq (key r) k) refl is (only_found k rows found (behind_differ r rows differ))
    where
      behind : (ns : List R) → AllByRecursion (λ n. key r ≢ key n) ns → key r ≡ k → AllByRecursion (λ n. key n ≡ k → n ≡ found) ns
      behind [] others same = tt
      behind (n ∷ ns) others same = (λ e. absurd (others.0 (same ∙ sym e)), behind ns others.1 same)

      by_test : (b : Bool) → bytes_eq (key r) k ≡ b → if◌then◌else◌ {A = Option R} b (Some r) (row_by k rows) ≡ Some found
          → (row_by k rows ≡ Some found → AllByRecursion (λ n. key n ≡ k → n ≡ found) rows) → AllByRecursion (λ n. key n ≡ k → n ≡ found) (r ∷ rows)
      by_test true same is later = (λ e. cc, behind rows (others_differ (key r) rows (first_differs r rows differ)) ((bytes_eq-Decides (key r) k).0 same))
      by_test false other is later = ((λ e. let yes = (bytes_eq-Decides (key r) k).1 e in cc), later is)

  -- and each row is the one that its key finds
  pub each_found : (rows : List R) → KeysDiffer rows → AllByRecursion (λ r. row_by (key r) rows ≡ Some r) rows
  each_found [] differ = tt
  each_found (r ∷ rows) differ = (here (bytes_eq (key r) (key r)) refl, behind rows (others_differ (key r) rows (first_differs r rows differ)) (each_found rows (behind_differ r rows differ)))
    where
      here : (b : Bool) → bytes_eq (key r) (key r) ≡ b → if◌then◌else◌ {A = Option R} b (Some r) (row_by (key r) rows) ≡ Some r
      here true same = refl
      here false other = let yes = (bytes_eq-Decides (key r) (key r)).1 refl in cc

      there : (n : R) (b : Bool) → bytes_eq (key r) (key n) ≡ b → key r ≢ key n → row_by (key n) rows ≡ Some n → if◌then◌else◌ {A = Option R} b (Some r) (row_by (key n) rows) ≡ Some n
      there n true same other is = absurd (other ((bytes_eq-Decides (key r) (key n)).0 same))
      there n false same other is = is

      behind : (ns : List R) → AllByRecursion (λ n. key r ≢ key n) ns → AllByRecursion (λ n. row_by (key n) rows ≡ Some n) ns → AllByRecursion (λ n. row_by (key n) (r ∷ rows) ≡ Some n) ns
      behind [] others each = tt
      behind (n ∷ ns) others each = (there n (bytes_eq (key r) (key n)) refl others.0 each.0, behind ns others.1 each.1)

  -- the row that is found has a number
  pub number_found : (P : ℕ → R → Type 0) (n : ℕ) (k : List ℕ) (rows : List R) (found : R) → AllNumbered P n rows → row_by k rows ≡ Some found → (i : ℕ) × P i found
  number_found P n k [] found all is = cc
  number_found P n k (r ∷ rows) found all is = by_test (bytes_eq (key r) k) is (number_found P (n + 1) k rows found all.1)
    where
      by_test : (b : Bool) → if◌then◌else◌ {A = Option R} b (Some r) (row_by k rows) ≡ Some found → (row_by k rows ≡ Some found → (i : ℕ) × P i found) → (i : ℕ) × P i found
      by_test true is later = let same : r ≡ found = cc in subst (λ (f : R). (i : ℕ) × P i f) same (n + 1, all.0)
      by_test false is later = later is
