-- The elements of a list that pass a test, and elements one after another.
use Rattle.std.proofs.Common.{◌≡◌, ◌∙◌, ◌+◌, ◌<◌, ℕ, Bool, true, false, cond, List, [], ◌∷◌, ◌++◌, length, take, get_or, Option, Some, None, refl, sym, ap, subst}
use Rattle.std.specs.Prelude.{filter, IfSome, IsSome, unwrap_or}
use Rattle.std.specs.List.{AllByRecursion}
use Rattle.std.proofs.lemmas.Bool.{false≢true}
use Rattle.std.proofs.lemmas.List.{take_more}
use Rattle.sqlite_trees.proofs.ListLemmas.{all-append}

module _ {X : Type 0} where
  -- all pass, or none
  pub filter_all : (p : X → Bool) (xs : List X) → AllByRecursion (λ x. p x ≡ true) xs → filter p xs ≡ xs
  filter_all p [] all = refl
  filter_all p (x ∷ xs) all = rw (all.0) (ap (λ l. x ∷ l) (filter_all p xs all.1))

  pub filter_none : (p : X → Bool) (xs : List X) → AllByRecursion (λ x. p x ≡ false) xs → filter p xs ≡ []
  filter_none p [] all = refl
  filter_none p (x ∷ xs) all = rw (all.0) (filter_none p xs all.1)

  pub none_pass : (p : X → Bool) (xs : List X) → filter p xs ≡ [] → AllByRecursion (λ x. p x ≡ false) xs
  none_pass p [] none = tt
  none_pass p (x ∷ xs) none = by_test (p x) refl none (none_pass p xs)
    where
      by_test : (b : Bool) → p x ≡ b → cond b (x ∷ filter p xs) (filter p xs) ≡ [] → (filter p xs ≡ [] → AllByRecursion (λ x. p x ≡ false) xs)
          → (p x ≡ false) × AllByRecursion (λ x. p x ≡ false) xs
      by_test true is none later = cc
      by_test false is none later = (is, later none)

  module _ (P : X → Type 0) (p : X → Bool) where
    -- what holds of those that pass holds of all where they pass, and the other way round
    pub all_where : (xs : List X) → AllByRecursion P (filter p xs) → AllByRecursion (λ x. p x ≡ true → P x) xs
    all_where [] all = tt
    all_where (x ∷ xs) all = by_test (p x) refl all (all_where xs)
      where
        by_test : (b : Bool) → p x ≡ b → AllByRecursion P (cond b (x ∷ filter p xs) (filter p xs)) → (AllByRecursion P (filter p xs) → AllByRecursion (λ x. p x ≡ true → P x) xs)
            → (p x ≡ true → P x) × AllByRecursion (λ x. p x ≡ true → P x) xs
        by_test true is all later = (λ t. all.0, later all.1)
        by_test false is all later = (λ t. absurd (false≢true (sym is ∙ t)), later all)

    pub all_passing : (xs : List X) → AllByRecursion (λ x. p x ≡ true → P x) xs → AllByRecursion P (filter p xs)
    all_passing [] all = tt
    all_passing (x ∷ xs) all = by_test (p x) refl (all_passing xs all.1)
      where
        by_test : (b : Bool) → p x ≡ b → AllByRecursion P (filter p xs) → AllByRecursion P (cond b (x ∷ filter p xs) (filter p xs))
        by_test true is rest = (all.0 is, rest)
        by_test false is rest = rest

  -- what holds of those before and of one more
  pub one_more : (P : X → Type 0) (xs : List X) (i : ℕ) (x : X) → i < length xs → x ≡ get_or xs i x → AllByRecursion P (take i xs) → P x
      → AllByRecursion P (take (i + 1) xs)
  one_more P xs i x within is before here =
      subst (AllByRecursion P) (ap (λ y. take i xs ++ y ∷ []) is ∙ sym (take_more xs i x within))
      (all-append P (take i xs) (x ∷ []) before (here, tt))

-- the value of a field that is there
pub value_is : (o : Option ℕ) (n d : ℕ) → IsSome o → IfSome o (λ k. k ≡ n) → unwrap_or o d ≡ n
value_is None n d some is = cc
value_is (Some k) n d some is = is
