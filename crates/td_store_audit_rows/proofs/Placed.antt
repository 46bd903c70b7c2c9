-- Rows that are numbered, and each of which keeps a rule, one by one.
use Rattle.std.proofs.Common.{◌≡◌, ℕ, zero, suc, ◌+◌, ◌<◌, List, [], ◌∷◌, length, map, get_or, Bool, true, false, nat_lt, refl, ◌∙◌, arith, subst}
use Rattle.std.proofs.lemmas.Bool.Decides.{nat_tests}
use Rattle.std.proofs.lemmas.List.{get_or_default}
use Rattle.std.specs.List.{AllByRecursion}
use Rattle.td_table_model.specs.Gathering.{IsNumbered}

-- what holds of all places below one, and there, holds of all up to it
pub up_to : (Q : ℕ → Type 0) (i : ℕ) → ((j : ℕ) → j < i → Q j) → Q i → (j : ℕ) → j < i + 1 → Q j
up_to Q i below there j less = by_test (nat_lt j i) refl
  where
    by_test : (b : Bool) → nat_lt j i ≡ b → Q j
    by_test true h = below j (grind (arith, nat_tests))
    by_test false h = let same : i ≡ j = grind (arith, nat_tests) in subst Q same there

module _ {S R : Type 0} (row : S → R) (key : R → ℕ) (P : R → Type 0) where
  -- the row at place j is the one after n + j, and keeps the rule
  abbrev pub IsPlaced : ℕ → List S → ℕ → S → Type 0
  IsPlaced n xs j d = (key (row (get_or xs j d)) ≡ n + (j + 1)) × P (row (get_or xs j d))

  -- rows that do so one by one are numbered, and each keeps it
  pub placed : (n : ℕ) (xs : List S) → ((j : ℕ) (d : S) → j < length xs → IsPlaced n xs j d) → IsNumbered key n (map row xs) × AllByRecursion P (map row xs)
  placed n [] each = (tt, tt)
  placed n (x ∷ xs) each =
      let first = each 0 x (omega arith) in
      let others = placed (n + 1) xs (λ j d within. let later = each (suc j) d (omega (arith, within)) in (later.0 ∙ omega arith, later.1)) in
      ((first.0, others.0), (first.1, others.1))

  -- and the other way round
  pub each_placed : (n : ℕ) (xs : List S) → IsNumbered key n (map row xs) → AllByRecursion P (map row xs) → (j : ℕ) (d : S) → j < length xs → IsPlaced n xs j d
  each_placed n [] numbers keeps j d within = absurd (omega (arith, within))
  each_placed n (x ∷ xs) numbers keeps zero d within = (numbers.0, keeps.0)
  each_placed n (x ∷ xs) numbers keeps (suc j) d within =
      let later = each_placed (n + 1) xs numbers.1 keeps.1 j d (omega (arith, within)) in (later.0 ∙ omega arith, later.1)

  -- one more is in its place
  pub one_more : (n : ℕ) (xs : List S) (i : ℕ) (x : S) → ((j : ℕ) (d : S) → j < i → IsPlaced n xs j d) → i < length xs → x ≡ get_or xs i x → (key (row x) ≡ n + (i + 1)) → P (row x)
      → (j : ℕ) (d : S) → j < i + 1 → IsPlaced n xs j d
  one_more n xs i x before there is serial keeps j d =
      up_to (λ k. IsPlaced n xs k d) i (λ k less. before k d less)
      (subst (λ (y : S). (key (row y) ≡ n + (i + 1)) × P (row y)) (is ∙ get_or_default xs i x d there) (serial, keeps)) j
