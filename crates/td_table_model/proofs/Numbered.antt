-- Elements with their numbers.
use Rattle.std.proofs.Common.{◌≡◌, ℕ, suc, ◌+◌, List, [], ◌∷◌, ◌++◌, length, map, refl, ◌∙◌, ap, ap₂, subst, arith}
use Rattle.std.specs.List.{AllByRecursion}
use Rattle.keyed_rows.specs.Rows.{Rises}
use Rattle.td_table_model.specs.Gathering.{IsNumbered}
use Rattle.td_table_model.proofs.Orders.{rises_lower}
use Rattle.td_model.specs.Sound.{AllNumbered}
use Rattle.td_table_model.specs.Tables.{numbered}

module _ {X : Type 0} where
  -- the number of an element, and the element
  abbrev pub number : ℕ × X → ℕ
  number p = p.0

  abbrev pub element : ℕ × X → X
  element p = p.1

  -- the numbers rise
  pub numbered_rises : (n : ℕ) (xs : List X) → Rises number (n + 1) (numbered n xs)
  numbered_rises n [] = tt
  numbered_rises n (x ∷ xs) = (omega arith, numbered_rises (n + 1) xs)

  pub numbered_rises_low : (n : ℕ) (xs : List X) → Rises number 0 (numbered n xs)
  numbered_rises_low n xs = rises_lower number 0 (n + 1) (numbered n xs) (omega arith) (numbered_rises n xs)

  -- the elements are as before
  pub elements_are : (n : ℕ) (xs : List X) → map element (numbered n xs) ≡ xs
  elements_are n [] = refl
  elements_are n (x ∷ xs) = ap (λ l. x ∷ l) (elements_are (n + 1) xs)

  -- with more behind them
  pub numbered-append : (n : ℕ) (xs ys : List X) → numbered n (xs ++ ys) ≡ numbered n xs ++ numbered (n + length xs) ys
  numbered-append n [] ys = ap (λ k. numbered k ys) (omega arith)
  numbered-append n (x ∷ xs) ys = ap (λ l. (n + 1, x) ∷ l) (numbered-append (n + 1) xs ys ∙ ap (λ k. numbered (n + 1) xs ++ numbered k ys) (omega arith))

  -- what holds of each with its number
  pub all_numbered : (P : ℕ → X → Type 0) (n : ℕ) (xs : List X) → AllNumbered P n xs → AllByRecursion (λ p. P p.0 p.1) (numbered n xs)
  all_numbered P n [] all = tt
  all_numbered P n (x ∷ xs) all = (all.0, all_numbered P (n + 1) xs all.1)

  -- and of the last of them
  pub last_numbered : (P : ℕ → X → Type 0) (n : ℕ) (xs : List X) (x : X) → AllNumbered P n (xs ++ x ∷ []) → P (n + length xs + 1) x
  last_numbered P n [] x all = subst (λ k. P k x) (omega arith) all.0
  last_numbered P n (y ∷ xs) x all = subst (λ k. P k x) (omega arith) (last_numbered P (n + 1) xs x all.1)

  -- elements that are made of others in their places
  pub numbered-map : {Y : Type 0} (f : X → Y) (n : ℕ) (xs : List X) → numbered n (map f xs) ≡ map (λ (p : ℕ × X). (p.0, f p.1)) (numbered n xs)
  numbered-map f n [] = refl
  numbered-map f n (x ∷ xs) = ap (λ l. (n + 1, f x) ∷ l) (numbered-map f (n + 1) xs)

  -- the number of elements is kept
  pub length-numbered : (n : ℕ) (xs : List X) → length (numbered n xs) ≡ length xs
  length-numbered n [] = refl
  length-numbered n (x ∷ xs) = ap suc (length-numbered (n + 1) xs)

-- what is made of numbered elements is numbered
pub numbered_made : {X R : Type 0} (key : R → ℕ) (f : ℕ × X → R) → ((p : ℕ × X) → key (f p) ≡ p.0) → (n : ℕ) (xs : List X) → IsNumbered key n (map f (numbered n xs))
numbered_made key f is n [] = tt
numbered_made key f is n (x ∷ xs) = (is (n + 1, x), numbered_made key f is (n + 1) xs)

-- what holds of each holds of it with its number
pub all_with_numbers : {X : Type 0} (P : X → Type 0) (n : ℕ) (xs : List X) → AllByRecursion P xs → AllByRecursion (λ (p : ℕ × X). P p.1) (numbered n xs)
all_with_numbers P n [] all = tt
all_with_numbers P n (x ∷ xs) all = (all.0, all_with_numbers P (n + 1) xs all.1)

-- where each element gives the same by two functions, so do all
pub map_same : {X Y : Type 0} (f g : X → Y) (xs : List X) → AllByRecursion (λ x. f x ≡ g x) xs → map f xs ≡ map g xs
map_same f g [] all = refl
map_same f g (x ∷ xs) all = ap₂ ◌∷◌ all.0 (map_same f g xs all.1)
