-- What is found by its reference.
use Rattle.std.proofs.Common.{◌≡◌, ℕ, Bool, true, false, List, [], ◌∷◌, Option, Some, None, refl}
use Rattle.std.specs.Prelude.{find, option_to_list, IfSome, if◌then◌else◌}
use Rattle.std.specs.List.{AllByRecursion}
use Rattle.std.specs.Str.{bytes_eq}
use Rattle.std.proofs.lemmas.Slice.Eq.{bytes_eq-Decides}

module _ {R : Type 0} (key : R → List ℕ) where
  -- the first row with this reference
  abbrev pub with_key : List ℕ → List R → Option R
  with_key k rows = find (λ r. bytes_eq (key r) k) rows

  -- a row that is found has the reference
  pub found_has : (k : List ℕ) (rows : List R) → IfSome (with_key k rows) (λ r. key r ≡ k)
  found_has k [] = tt
  found_has k (r ∷ rows) = by_test (bytes_eq (key r) k) refl (found_has k rows)
    where
      by_test : (b : Bool) → bytes_eq (key r) k ≡ b → IfSome (with_key k rows) (λ x. key x ≡ k) → IfSome (if◌then◌else◌ {A = Option R} b (Some r) (with_key k rows)) (λ x. key x ≡ k)
      by_test true same later = (bytes_eq-Decides (key r) k).0 same
      by_test false other later = later

  -- a row taken out alone is found as among all
  pub found_alone : (k : List ℕ) (o : Option R) → IfSome o (λ r. key r ≡ k) → with_key k (option_to_list o) ≡ o
  found_alone k None has = refl
  found_alone k (Some r) has = rw ((bytes_eq-Decides (key r) k).1 has) refl

  -- what holds of all rows holds of the one that is found
  pub found_keeps : (P : R → Type 0) (k : List ℕ) (rows : List R) → AllByRecursion P rows → IfSome (with_key k rows) P
  found_keeps P k [] all = tt
  found_keeps P k (r ∷ rows) all = by_test (bytes_eq (key r) k) (found_keeps P k rows all.1)
    where
      by_test : (b : Bool) → IfSome (with_key k rows) P → IfSome (if◌then◌else◌ {A = Option R} b (Some r) (with_key k rows)) P
      by_test true later = all.0
      by_test false later = later
