-- Rows of which one before has this key, or none has; and keys of rows that are read as others.
use Rattle.std.proofs.Common.{◌≡◌, ◌≢◌, ℕ, zero, suc, ◌<◌, ◌≤◌, Bool, true, false, List, [], ◌∷◌, length, filter, map, take, get_or, refl, ap, arith, cond}
use Rattle.std.proofs.lemmas.Bool.Decides.{Decides-and, nat_tests}
use Rattle.std.specs.Bool.{Decides}
use Rattle.std.specs.Prelude.{◌||◌, ◌==◌, ◌&&◌, nat_le}
use Rattle.std.specs.List.{list_all, list_any}
use Rattle.td_base.proofs.Decided.{le_decided}
use Rattle.td_table_model.specs.Gathering.{IsApart, place}
use Rattle.td_table_model.specs.Tables.{Keyed}
use Rattle.td_store_audit_rows.specs.InPlace.{BelongTo}

-- neither of two tests passed
neither : (a b : Bool) → (a || b) ≡ false → (a ≡ false) × (b ≡ false)
neither true b h = cc
neither false b h = (refl, h)

module _ {X : Type 0} (key : X → ℕ) where
  abbrev pub has : ℕ → X → Bool
  has k x = key x == k

  -- where none of the first i has the key, each of them has another
  pub none_before : (k : ℕ) (xs : List X) (i j : ℕ) (d : X) → list_any (has k) (take i xs) ≡ false → j < i → i ≤ length xs → key (get_or xs j d) ≢ k
  none_before k [] i j d none before within = absurd (omega arith)
  none_before k (x ∷ xs) zero j d none before within = absurd (omega arith)
  none_before k (x ∷ xs) (suc i) zero d none before within = let other = (neither (has k x) (list_any (has k) (take i xs)) none).0 in grind (arith, nat_tests, other)
  none_before k (x ∷ xs) (suc i) (suc j) d none before within = none_before k xs i j d (neither (has k x) (list_any (has k) (take i xs)) none).1 (omega arith) (omega arith)

  -- where one of the first i has it, there is its place
  pub one_before : (k : ℕ) (xs : List X) (i : ℕ) → list_any (has k) (take i xs) ≡ true → i ≤ length xs → (j : ℕ) × (j < i) × ((d : X) → key (get_or xs j d) ≡ k)
  one_before k [] zero some within = cc
  one_before k [] (suc i) some within = cc
  one_before k (x ∷ xs) zero some within = cc
  one_before k (x ∷ xs) (suc i) some within = by_first (has k x) refl some (λ later. one_before k xs i later (omega arith))
    where
      by_first : (b : Bool) → has k x ≡ b → (b || list_any (has k) (take i xs)) ≡ true → (list_any (has k) (take i xs) ≡ true → (j : ℕ) × (j < i) × ((d : X) → key (get_or xs j d) ≡ k)) → (j : ℕ) × (j < suc i) × ((d : X) → key (get_or (x ∷ xs) j d) ≡ k)
      by_first true named some later = (zero, omega arith, λ d. grind (arith, nat_tests, named))
      by_first false other some later = let found = later some in (suc found.0, omega (arith, found.1), found.2)

module _ {S R : Type 0} (row : S → R) (key : R → ℕ) where
  -- as many rows have a key as there are that are read as such
  as_many : (k : ℕ) (xs : List S) → length (filter (λ r. key r == k) (map row xs)) ≡ length (filter (λ s. key (row s) == k) xs)
  as_many k [] = refl
  as_many k (x ∷ xs) = by_test (key (row x) == k) (as_many k xs)
    where
      by_test : (b : Bool) → length (filter (λ r. key r == k) (map row xs)) ≡ length (filter (λ s. key (row s) == k) xs)
          → length (cond b (row x ∷ filter (λ r. key r == k) (map row xs)) (filter (λ r. key r == k) (map row xs))) ≡ length (cond b (x ∷ filter (λ s. key (row s) == k) xs) (filter (λ s. key (row s) == k) xs))
      by_test true same = ap suc same
      by_test false same = same

  pub apart_read : (xs : List S) → IsApart (λ s. key (row s)) xs → IsApart key (map row xs)
  apart_read xs apart k = omega (arith, as_many k xs, apart k)

  pub read_apart : (xs : List S) → IsApart key (map row xs) → IsApart (λ s. key (row s)) xs
  read_apart xs apart k = omega (arith, as_many k xs, apart k)

-- the test that rows belong is right
pub belong_decided : {S R : Type 0} (row : S → Keyed R) (n : ℕ) (xs : List S) → Decides (list_all (λ s. nat_le 1 (place (row s)) && nat_le (place (row s)) n) xs) (BelongTo n (map row xs))
belong_decided row n [] = (λ t. tt, λ t. refl)
belong_decided row n (x ∷ xs) = Decides-and _ _ (Decides-and _ _ (le_decided 1 (place (row x))) (le_decided (place (row x)) n)) (belong_decided row n xs)
