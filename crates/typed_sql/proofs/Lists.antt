-- Lists of which some elements pass a test.
use Rattle.sqlite_value.specs.Order.{Row}
use Rattle.std.proofs.Common.{Bool, IsPermutation, List, [], ap, ap₂, arith, cond, false, length, map, refl, sym, true, ◌++◌, ◌∙◌, ◌∷◌, ◌≡◌, ◌≤◌}
use Rattle.std.proofs.lemmas.List.Sorted.{IsPermutation-cons, IsPermutation-middle, IsPermutation-refl, IsPermutation-sym, IsPermutation-trans}
use Rattle.std.specs.List.{AllByRecursion}
use Rattle.std.specs.Prelude.{filter, if◌then◌else◌, not}

-- those that pass are changed, and the others stay
pub replaced : {X : Type 0} (test : X → Bool) (f : X → X) (xs : List X)
    → IsPermutation (map (λ x. if test x then f x else x) xs) (map f (filter test xs)
    ++ filter (λ x. not (test x)) xs)
replaced test f [] = IsPermutation-refl []
replaced test f (x ∷ xs) = go (test x) (replaced test f xs)
  where
    go : (b : Bool)
        → IsPermutation (map (λ x. if test x then f x else x) xs) (map f (filter test xs)
        ++ filter (λ x. not (test x)) xs)
        → IsPermutation ((if b then f x else x) ∷ map (λ x. if test x then f x else x) xs)
        (map f (cond b (x ∷ filter test xs) (filter test xs))
        ++ cond (not b) (x ∷ filter (λ x. not (test x)) xs) (filter (λ x. not (test x)) xs))
    go true more = IsPermutation-cons (f x) _ _ more
    go false more = IsPermutation-trans _ _ _ (IsPermutation-cons x _ _ more)
        (IsPermutation-sym _ _ (IsPermutation-middle (map f (filter test xs)) x (filter (λ x. not (test x)) xs)))

-- a list of one element
pub alone : {X : Type 0} (xs : List X) → length xs ≡ 1 → (x : X) × (xs ≡ x ∷ [])
alone [] one = absurd (omega (arith, one))
alone (x ∷ []) one = (x, refl)
alone (x ∷ y ∷ xs) one = absurd (omega (arith, one))

none_left : {X : Type 0} (p : X → Bool) (xs : List X) → length (filter p xs) ≤ 0 → filter (λ x. not (p x)) xs ≡ xs
none_left p [] none = refl
none_left p (x ∷ xs) none = go (p x) none (none_left p xs)
  where
    go : (b : Bool) → length (cond b (x ∷ filter p xs) (filter p xs)) ≤ 0
        → (length (filter p xs) ≤ 0 → filter (λ x. not (p x)) xs ≡ xs)
        → cond (not b) (x ∷ filter (λ x. not (p x)) xs) (filter (λ x. not (p x)) xs) ≡ x ∷ xs
    go true none more = absurd (omega (arith, none))
    go false none more = ap (λ l. x ∷ l) (more none)

none_both : {X : Type 0} (p q : X → Bool) (xs : List X) → filter q xs ≡ [] → length (filter p xs) ≤ 0
    → filter (λ x. not (p x)) xs ≡ filter (λ x. not (q x)) xs
none_both p q xs no_q no_p = none_left p xs no_p ∙ sym (none_left q xs (rw no_q (omega arith)))

-- Where one element passes the test and has the mark, and no other has it, those without the mark are those that
-- don't pass.
pub same_left : {X : Type 0} (mark test : X → Bool) (r : X) (xs : List X) → mark r ≡ true → filter test xs ≡ r ∷ []
    → length (filter mark xs) ≤ 1 → filter (λ x. not (mark x)) xs ≡ filter (λ x. not (test x)) xs
same_left mark test r [] has one most = refl
same_left {X = X} mark test r (x ∷ xs) has one most =
    go (mark x) (test x) refl one most (same_left mark test r xs has)
  where
    go : (m b : Bool) → mark x ≡ m → cond b (x ∷ filter test xs) (filter test xs) ≡ r ∷ []
        → length (cond m (x ∷ filter mark xs) (filter mark xs)) ≤ 1
        → (filter test xs ≡ r ∷ [] → length (filter mark xs) ≤ 1
        → filter (λ x. not (mark x)) xs ≡ filter (λ x. not (test x)) xs)
        → cond (not m) (x ∷ filter (λ x. not (mark x)) xs) (filter (λ x. not (mark x)) xs)
        ≡ cond (not b) (x ∷ filter (λ x. not (test x)) xs) (filter (λ x. not (test x)) xs)
    go true true marked one most more = let rest : filter test xs ≡ [] = cc in
        none_both mark test xs rest (omega (arith, most))
    go true false marked one most more = absurd (marked_once xs one (omega (arith, most)))
      where
        marked_once : (ys : List X) → filter test ys ≡ r ∷ [] → length (filter mark ys) ≤ 0 → ⊥
        marked_once [] one none = let e = one in cc
        marked_once (y ∷ ys) one none = step (mark y) (test y) refl one none (marked_once ys)
          where
            step : (m b : Bool) → mark y ≡ m → cond b (y ∷ filter test ys) (filter test ys) ≡ r ∷ []
                → length (cond m (y ∷ filter mark ys) (filter mark ys)) ≤ 0
                → (filter test ys ≡ r ∷ [] → length (filter mark ys) ≤ 0 → ⊥) → ⊥
            step true b is one none more = omega (arith, none)
            step false true is one none more = let same : y ≡ r = cc in let e : mark r ≡ false = rw (← same) is in
                cc
            step false false is one none more = more one none
    go false true marked one most more = let same : x ≡ r = cc in
        absurd (let e : mark r ≡ false = rw (← same) marked in cc)
    go false false marked one most more = ap (λ l. x ∷ l) (more one most)

-- of fewer elements no more have a mark
pub fewer : {X : Type 0} (p q : X → Bool) (xs : List X) → length (filter p (filter q xs)) ≤ length (filter p xs)
fewer p q [] = omega arith
fewer p q (x ∷ xs) = go (p x) (q x) refl (fewer p q xs)
  where
    go : (b d : Bool) → p x ≡ b → length (filter p (filter q xs)) ≤ length (filter p xs)
        → length (filter p (cond d (x ∷ filter q xs) (filter q xs))) ≤ length
        (cond b (x ∷ filter p xs) (filter p xs))
    go true true is less = rw is (omega (arith, less))
    go false true is less = rw is less
    go true false is less = omega (arith, less)
    go false false is less = less

-- of rows that pass a test and show columns as typed rows do, the shown columns are those of the typed rows
pub typed_shown : {R : Type 0} (of : Row → R) (cells : R → Row) (p : R → Bool) (test : Row → Bool) (show : Row
    → Row) (rows : List Row)
    → AllByRecursion (λ r. (test r ≡ p (of r)) × (show r ≡ cells (of r))) rows
    → map show (filter test rows) ≡ map cells (filter p (map of rows))
typed_shown of cells p test show [] each = refl
typed_shown of cells p test show (x ∷ xs) each =
    rw each.0.0 (elim (p (of x)) as (λ b. map show (cond b (x ∷ filter test xs) (filter test xs))
    ≡ map cells (cond b (of x ∷ filter p (map of xs)) (filter p (map of xs)))) [
      | true ↦ ap₂ ◌∷◌ each.0.1
          (typed_shown of cells p test show xs each.1)
      | false ↦ typed_shown of cells p test show xs each.1
    ])
