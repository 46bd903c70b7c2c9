-- Lists that are put together, and what passes a test of them.
use Rattle.std.proofs.Common.{◌≡◌, ◌∙◌, ◌+◌, ◌<◌, ℕ, Bool, true, false, cond, List, [], ◌∷◌, ◌++◌, length, map, take, get_or, refl, sym, ap, subst, IsPermutation}
use Rattle.std.specs.Prelude.{◌&&◌, ◌||◌, filter}
use Rattle.std.specs.List.{AllByRecursion}
use Rattle.std.proofs.lemmas.Bool.{false≢true}
use Rattle.std.proofs.lemmas.List.{append-nil, append_assoc, map-append, take_more}
use Rattle.std.proofs.lemmas.List.Sorted.{IsPermutation-append, IsPermutation-append_comm, IsPermutation-cons, IsPermutation-middle, IsPermutation-refl, IsPermutation-sym, IsPermutation-trans}

module _ {X : Type 0} where
  -- rows that are put before others, and then more, are both put
  pub more_there : (r s u t : List X) → IsPermutation (r ++ s) u → IsPermutation (u ++ t) (s ++ (r ++ t))
  more_there r s u t same =
      let turned : IsPermutation u (s ++ r) = IsPermutation-trans _ _ _ (IsPermutation-sym _ _ same) (IsPermutation-append_comm r s) in
      subst (IsPermutation (u ++ t)) (append_assoc s r t) (IsPermutation-append u (s ++ r) t t turned (IsPermutation-refl t))

  -- nothing is beside them
  pub beside_none : (xs ys ts : List X) → IsPermutation xs ys → IsPermutation [] ts → IsPermutation xs (ys ++ ts)
  beside_none xs ys ts same none = subst (λ l. IsPermutation l (ys ++ ts)) (append-nil xs) (IsPermutation-append xs ys [] ts same none)

  pub before_none : (xs ts : List X) → IsPermutation [] xs → IsPermutation (xs ++ ts) ts
  before_none xs ts none = IsPermutation-append xs [] ts ts (IsPermutation-sym _ _ none) (IsPermutation-refl ts)

  -- the next of a list is put behind those before it
  pub next_more : {Y : Type 0} (f : X → Y) (xs : List X) (i : ℕ) (x d : X) → i < length xs → x ≡ get_or xs i d
      → map f (take i xs) ++ f x ∷ [] ≡ map f (take (i + 1) xs)
  next_more f xs i x d low is =
      ap (λ y. map f (take i xs) ++ f y ∷ []) is ∙ sym (map-append f (take i xs) (get_or xs i d ∷ []))
      ∙ ap (map f) (sym (take_more xs i d low))

-- what passes one of two tests, never both, is what passes a third
abbrev pub AreParts : Bool → Bool → Bool → Type 0
AreParts p q s = (s ≡ (p || q)) × ((p && q) ≡ false)

module _ {X : Type 0} (p q s : X → Bool) where
  pub parts : (xs : List X) → AllByRecursion (λ x. AreParts (p x) (q x) (s x)) xs → IsPermutation (filter p xs ++ filter q xs) (filter s xs)
  parts [] all = IsPermutation-refl []
  parts (x ∷ xs) all = by_tests (p x) (q x) (s x) all.0 (parts xs all.1)
    where
      by_tests : (b d e : Bool) → AreParts b d e → IsPermutation (filter p xs ++ filter q xs) (filter s xs)
          → IsPermutation (cond b (x ∷ filter p xs) (filter p xs) ++ cond d (x ∷ filter q xs) (filter q xs)) (cond e (x ∷ filter s xs) (filter s xs))
      by_tests true true e are later = absurd cc
      by_tests true false true are later = IsPermutation-cons x (filter p xs ++ filter q xs) (filter s xs) later
      by_tests true false false are later = absurd cc
      by_tests false true true are later =
          IsPermutation-trans _ _ _ (IsPermutation-middle (filter p xs) x (filter q xs)) (IsPermutation-cons x (filter p xs ++ filter q xs) (filter s xs) later)
      by_tests false true false are later = absurd cc
      by_tests false false true are later = absurd cc
      by_tests false false false are later = later

-- what holds of those that pass holds of all where they pass
module _ {X : Type 0} (P : X → Type 0) (p : X → Bool) where
  pub all_where : (xs : List X) → AllByRecursion P (filter p xs) → AllByRecursion (λ x. p x ≡ true → P x) xs
  all_where [] all = tt
  all_where (x ∷ xs) all = by_test (p x) refl all (all_where xs)
    where
      by_test : (b : Bool) → p x ≡ b → AllByRecursion P (cond b (x ∷ filter p xs) (filter p xs))
          → (AllByRecursion P (filter p xs) → AllByRecursion (λ x. p x ≡ true → P x) xs) → (p x ≡ true → P x) × AllByRecursion (λ x. p x ≡ true → P x) xs
      by_test true is all later = (λ _. all.0, later all.1)
      by_test false is all later = (λ passes. absurd (false≢true (sym is ∙ passes)), later all)

-- none passes
pub none_pass : {X : Type 0} (p : X → Bool) (xs : List X) → filter p xs ≡ [] → AllByRecursion (λ x. p x ≡ false) xs
none_pass p [] none = tt
none_pass p (x ∷ xs) none = by_test (p x) refl none (none_pass p xs)
  where
    by_test : (b : Bool) → p x ≡ b → cond b (x ∷ filter p xs) (filter p xs) ≡ [] → (filter p xs ≡ [] → AllByRecursion (λ x. p x ≡ false) xs)
        → (p x ≡ false) × AllByRecursion (λ x. p x ≡ false) xs
    by_test true is none later = cc
    by_test false is none later = (is, later none)
