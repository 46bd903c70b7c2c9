-- Rows that are numbered, made again from what was made of them.
use Rattle.std.proofs.Common.{◌≡◌, ℕ, ◌+◌, ◌<◌, ◌≤◌, List, [], ◌∷◌, length, map, flat_map, refl, sym, ◌∙◌, ap, ap₂, subst, arith, IsPermutation}
use Rattle.std.specs.List.{AllByRecursion}
use Rattle.std.proofs.lemmas.List.Sorted.{IsPermutation-refl, IsPermutation-append}
use Rattle.sqlite_trees.proofs.ListLemmas.{map-map, flat_map-map, all_weaker}
use Rattle.keyed_rows.proofs.Putting.{All-put_row}
use Rattle.td_table_model.proofs.Numbered.{map_same}
use Rattle.td_model.specs.Sound.{AllNumbered}
use Rattle.td_table_model.specs.Tables.{numbered}
use Rattle.td_table_model.specs.Gathering.{IsNumbered, in_order}

module _ {R X : Type 0} (key : R → ℕ) (back : R → X) where
  -- the elements with their numbers are the rows' keys with what was made of them
  pub numbered_are : (n : ℕ) (rows : List R) → IsNumbered key n rows → numbered n (map back rows) ≡ map (λ r. (key r, back r)) rows
  numbered_are n [] is = refl
  numbered_are n (r ∷ rows) is = ap₂ ◌∷◌ (ap (λ k. (k, back r)) (sym is.0)) (numbered_are (n + 1) rows is.1)

  -- rows that are made of these
  pub renumbered : (make : ℕ × X → R) (n : ℕ) (rows : List R) → IsNumbered key n rows → AllByRecursion (λ r. make (key r, back r) ≡ r) rows → map make (numbered n (map back rows)) ≡ rows
  renumbered make n rows is all = ap (map make) (numbered_are n rows is) ∙ map-map make (λ r. (key r, back r)) rows ∙ map_same (λ r. make (key r, back r)) (λ r. r) rows all ∙ map_id rows
    where
      map_id : (rows : List R) → map (λ r. r) rows ≡ rows
      map_id [] = refl
      map_id (r ∷ rows) = ap (λ l. r ∷ l) (map_id rows)

  pub flat_numbered : {Y : Type 0} (f : ℕ × X → List Y) (n : ℕ) (rows : List R) → IsNumbered key n rows → flat_map f (numbered n (map back rows)) ≡ flat_map (λ r. f (key r, back r)) rows
  flat_numbered f n rows is = ap (flat_map f) (numbered_are n rows is) ∙ flat_map-map f (λ r. (key r, back r)) rows

  -- what holds of each row holds of what was made of it, with its number
  pub all_renumbered : (P : ℕ → X → Type 0) (n : ℕ) (rows : List R) → IsNumbered key n rows → AllByRecursion (λ r. P (key r) (back r)) rows → AllNumbered P n (map back rows)
  all_renumbered P n [] is all = tt
  all_renumbered P n (r ∷ rows) is all = (subst (λ k. P k (back r)) is.0 all.0, all_renumbered P (n + 1) rows is.1 all.1)

-- functions of elements that agree on each give permutations of one another
pub permuted_each : {X Y : Type 0} (f g : X → List Y) (xs : List X) → AllByRecursion (λ x. IsPermutation (f x) (g x)) xs → IsPermutation (flat_map f xs) (flat_map g xs)
permuted_each f g [] all = IsPermutation-refl []
permuted_each f g (x ∷ xs) all = IsPermutation-append _ _ _ _ all.0 (permuted_each f g xs all.1)

-- numbered rows have the numbers up to how many they are
pub numbered_within : {R : Type 0} (key : R → ℕ) (n : ℕ) (rows : List R) → IsNumbered key n rows → AllByRecursion (λ r. (n < key r) × (key r ≤ n + length rows)) rows
numbered_within key n [] is = tt
numbered_within key n (r ∷ rows) is = (
  (omega (arith, is.0), omega (arith, is.0)),
  all_weaker (λ s. (n + 1 < key s) × (key s ≤ n + 1 + length rows)) (λ s. (n < key s) × (key s ≤ n + length (r ∷ rows))) (λ s within. (omega (arith, within.0), omega (arith, within.1))) rows (numbered_within key (n + 1) rows is.1),
)

-- what holds of rows holds of them in order
pub all_in_order : {R : Type 0} (key : R → ℕ) (P : R → Type 0) (rows : List R) → AllByRecursion P rows → AllByRecursion P (in_order key rows)
all_in_order key P [] all = tt
all_in_order key P (r ∷ rows) all = All-put_row key P r (in_order key rows) (all_in_order key P rows all.1) all.0
