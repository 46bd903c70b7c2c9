-- The elements that pass a test.
use Rattle.std.proofs.Common.{◌≡◌, ◌∙◌, ℕ, ◌≤◌, Bool, true, false, cond, List, [], ◌∷◌, length, refl, sym, ap, subst, arith}
use Rattle.std.specs.Prelude.{◌==◌, filter}
use Rattle.std.specs.List.{AllByRecursion}
use Rattle.std.proofs.lemmas.Bool.{false≢true}
use Rattle.std.proofs.lemmas.Bool.Decides.{nat_tests}
use Rattle.td_table_model.specs.Gathering.{of_key}

module _ {X : Type 0} where
  -- what passes the first test passes the second
  pub filter_within : (p q : X → Bool) → ((x : X) → p x ≡ true → q x ≡ true) → (xs : List X) → filter p (filter q xs) ≡ filter p xs
  filter_within p q within [] = refl
  filter_within p q within (x ∷ xs) = by_tests (p x) (q x) refl refl (filter_within p q within xs)
    where
      by_tests : (b d : Bool) → p x ≡ b → q x ≡ d → filter p (filter q xs) ≡ filter p xs
          → filter p (cond d (x ∷ filter q xs) (filter q xs)) ≡ cond b (x ∷ filter p xs) (filter p xs)
      by_tests true true is there later = rw is (ap (λ l. x ∷ l) later)
      by_tests false true is there later = rw is later
      by_tests false false is there later = later
      by_tests true false is there later = absurd (false≢true (sym there ∙ within x is))

  -- no more pass a second test after a first
  pub fewer_pass : (p q : X → Bool) (xs : List X) → length (filter p (filter q xs)) ≤ length (filter p xs)
  fewer_pass p q [] = omega arith
  fewer_pass p q (x ∷ xs) = by_tests (p x) (q x) refl (fewer_pass p q xs)
    where
      by_tests : (b d : Bool) → p x ≡ b → length (filter p (filter q xs)) ≤ length (filter p xs)
          → length (filter p (cond d (x ∷ filter q xs) (filter q xs))) ≤ length (cond b (x ∷ filter p xs) (filter p xs))
      by_tests true true is later = rw is (omega (arith, later))
      by_tests false true is later = rw is later
      by_tests true false is later = omega (arith, later)
      by_tests false false is later = later

  -- all pass, or none
  pub filter_all : (p : X → Bool) (xs : List X) → AllByRecursion (λ x. p x ≡ true) xs → filter p xs ≡ xs
  filter_all p [] all = refl
  filter_all p (x ∷ xs) all = rw (all.0) (ap (λ l. x ∷ l) (filter_all p xs all.1))

  pub filter_none : (p : X → Bool) (xs : List X) → AllByRecursion (λ x. p x ≡ false) xs → filter p xs ≡ []
  filter_none p [] all = refl
  filter_none p (x ∷ xs) all = rw (all.0) (filter_none p xs all.1)

  pub none_pass : (p : X → Bool) (xs : List X) → filter p xs ≡ [] → AllByRecursion (λ x. p x ≡ false) xs
  none_pass p [] none = tt
  none_pass p (x ∷ xs) none = by_test (p x) refl none (none_pass p xs)
    where
      by_test : (b : Bool) → p x ≡ b → cond b (x ∷ filter p xs) (filter p xs) ≡ [] → (filter p xs ≡ [] → AllByRecursion (λ x. p x ≡ false) xs)
          → (p x ≡ false) × AllByRecursion (λ x. p x ≡ false) xs
      by_test true is none later = cc
      by_test false is none later = (is, later none)

  module _ (P : X → Type 0) (p : X → Bool) where
    -- what holds of those that pass holds of all where they pass
    pub all_where : (xs : List X) → AllByRecursion P (filter p xs) → AllByRecursion (λ x. p x ≡ true → P x) xs
    all_where [] all = tt
    all_where (x ∷ xs) all = by_test (p x) refl all (all_where xs)
      where
        by_test : (b : Bool) → p x ≡ b → AllByRecursion P (cond b (x ∷ filter p xs) (filter p xs)) → (AllByRecursion P (filter p xs) → AllByRecursion (λ x. p x ≡ true → P x) xs)
            → (p x ≡ true → P x) × AllByRecursion (λ x. p x ≡ true → P x) xs
        by_test true is all later = (λ t. all.0, later all.1)
        by_test false is all later = (λ t. absurd (false≢true (sym is ∙ t)), later all)

    -- and the other way round
    pub all_passing : (xs : List X) → AllByRecursion (λ x. p x ≡ true → P x) xs → AllByRecursion P (filter p xs)
    all_passing [] all = tt
    all_passing (x ∷ xs) all = by_test (p x) refl (all_passing xs all.1)
      where
        by_test : (b : Bool) → p x ≡ b → AllByRecursion P (filter p xs) → AllByRecursion P (cond b (x ∷ filter p xs) (filter p xs))
        by_test true is rest = (all.0 is, rest)
        by_test false is rest = rest

  -- what holds of the elements of each key of a kind holds of all elements with such a key
  pub all_by_key : (key : X → ℕ) (Q : ℕ → Type 0) (P : X → Type 0) (xs : List X) → ((n : ℕ) → Q n → AllByRecursion P (of_key key n xs))
      → AllByRecursion (λ x. Q (key x) → P x) xs
  all_by_key key Q P [] each = tt
  all_by_key key Q P (x ∷ xs) each = (
    λ q. (subst (λ b. AllByRecursion P (cond b (x ∷ of_key key (key x) xs) (of_key key (key x) xs))) own (each (key x) q)).0,
    all_by_key key Q P xs (λ n q. rest n (key x == n) (each n q)),
  )
    where
      own : (key x == key x) ≡ true
      own = grind (arith, nat_tests)

      rest : (n : ℕ) (b : Bool) → AllByRecursion P (cond b (x ∷ of_key key n xs) (of_key key n xs)) → AllByRecursion P (of_key key n xs)
      rest n true all = all.1
      rest n false all = all
