-- Lists with one more element, and lists made of others.
use Rattle.std.proofs.Common.{◌≡◌, ℕ, ◌+◌, ◌<◌, Bool, true, false, List, [], ◌∷◌, ◌++◌, length, map, get_or, refl, subst, arith}
use Rattle.std.specs.Prelude.{All, AllPairs, nat_lt}
use Rattle.std.specs.List.{AllByRecursion}
use Rattle.std.proofs.Math.Seq.{get_or-append_seam}
use Rattle.std.proofs.lemmas.Bool.Decides.{nat_tests}
use Rattle.std.proofs.lemmas.List.{get_or_append_left, get_or-map, length-append, length-map}
use Rattle.td_model.specs.Sound.{AllNumbered}

-- what holds of all pairs, and of each element beside one more, holds of all pairs with that one
pub AllPairs-append : {X : Type 0} (R : X → X → Type 0) (xs : List X) (y : X) → AllPairs R xs → All (λ x. R x y) xs → AllPairs R (xs ++ y ∷ [])
AllPairs-append {X} R xs y pairs each = λ i j d less within. by_place i j d (nat_lt j (length xs)) refl less (simp length-append at within)
  where
    by_place : (i j : ℕ) (d : X) (b : Bool) → nat_lt j (length xs) ≡ b → i < j → j < length xs + 1 → R (get_or (xs ++ y ∷ []) i d) (get_or (xs ++ y ∷ []) j d)
    by_place i j d true h less within = rw (get_or_append_left xs (y ∷ []) d i (grind (arith, nat_tests)), get_or_append_left xs (y ∷ []) d j (grind (arith, nat_tests))) (pairs i j d less (grind (arith, nat_tests)))
    by_place i j d false h less within =
        let last : j ≡ length xs = grind (arith, nat_tests) in
        rw (last, get_or-append_seam xs y [] d, get_or_append_left xs (y ∷ []) d i (omega (arith, last))) (each i d (omega (arith, last)))

-- what holds of each element holds of what is made of it
pub All-map : {X Y : Type 0} (f : X → Y) (P : Y → Type 0) (xs : List X) (other : Y → X) → All (λ x. P (f x)) xs → All P (map f xs)
All-map f P xs other all = λ k d within.
    let inside : k < length xs = simp length-map at within in
    rw (get_or-map f xs k (other d) d inside) (all k (other d) inside)

-- and so of pairs
pub AllPairs-map : {X Y : Type 0} (f : X → Y) (R : Y → Y → Type 0) (xs : List X) (other : Y → X) → AllPairs (λ a b. R (f a) (f b)) xs → AllPairs R (map f xs)
AllPairs-map f R xs other pairs = λ i j d less within.
    let inside : j < length xs = simp length-map at within in
    rw (get_or-map f xs i (other d) d (omega (arith, inside, less)), get_or-map f xs j (other d) d inside) (pairs i j (other d) less inside)

-- and element by element
pub AllByRecursion-map : {X Y : Type 0} (f : X → Y) (P : Y → Type 0) (xs : List X) → AllByRecursion (λ x. P (f x)) xs → AllByRecursion P (map f xs)
AllByRecursion-map f P [] all = tt
AllByRecursion-map f P (x ∷ xs) all = (all.0, AllByRecursion-map f P xs all.1)

-- what holds of one thing holds of each that is weaker
pub AllByRecursion-weaker : {X : Type 0} (P Q : X → Type 0) → ((x : X) → P x → Q x) → (xs : List X) → AllByRecursion P xs → AllByRecursion Q xs
AllByRecursion-weaker P Q weaker [] all = tt
AllByRecursion-weaker P Q weaker (x ∷ xs) all = (weaker x all.0, AllByRecursion-weaker P Q weaker xs all.1)

-- numbered rows with one more at the end
pub AllNumbered-append : {R : Type 0} (P : ℕ → R → Type 0) (n : ℕ) (rows : List R) (r : R) → AllNumbered P n rows → P (n + length rows + 1) r → AllNumbered P n (rows ++ r ∷ [])
AllNumbered-append P n [] r all last = (subst (λ k. P k r) (omega arith) last, tt)
AllNumbered-append P n (s ∷ rows) r all last = (all.0, AllNumbered-append P (n + 1) rows r all.1 (subst (λ k. P k r) (omega arith) last))

-- numbered rows that keep a weaker rule
pub AllNumbered-weaker : {R : Type 0} (P Q : ℕ → R → Type 0) → ((n : ℕ) (r : R) → P n r → Q n r) → (n : ℕ) (rows : List R) → AllNumbered P n rows → AllNumbered Q n rows
AllNumbered-weaker P Q weaker n [] all = tt
AllNumbered-weaker P Q weaker n (r ∷ rows) all = (weaker (n + 1) r all.0, AllNumbered-weaker P Q weaker (n + 1) rows all.1)
