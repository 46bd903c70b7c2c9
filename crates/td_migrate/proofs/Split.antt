-- The rows of a table by holders up to a number, and those of a holder by ranges of serials.
use Rattle.std.proofs.Common.{◌≡◌, ◌<◌, ◌≤◌, ℕ, Bool, true, false, cond, List, [], ◌∷◌, ◌++◌, nat_lt, refl, arith, IsPermutation}
use Rattle.std.specs.Prelude.{◌==◌, ◌&&◌, ◌||◌, filter, nat_le}
use Rattle.std.specs.List.{AllByRecursion}
use Rattle.std.proofs.lemmas.Bool.Decides.{nat_tests}
use Rattle.std.proofs.lemmas.List.Sorted.{IsPermutation-cons, IsPermutation-middle, IsPermutation-refl, IsPermutation-trans}
use Rattle.sqlite_trees.proofs.ListLemmas.{all_of, all_weaker}
use Rattle.td_table_model.specs.Gathering.{owner, place}
use Rattle.td_table_model.specs.Tables.{Keyed}
use Rattle.td_store_rows.specs.Places.{is_within}
use Rattle.td_migrate.proofs.Passing.{filter_all, filter_none}

-- what passes one of two tests, never both, is what passes a third
abbrev AreParts : Bool → Bool → Bool → Type 0
AreParts p q s = (s ≡ (p || q)) × ((p && q) ≡ false)

module _ {X : Type 0} (p q s : X → Bool) where
  pub parts : (xs : List X) → AllByRecursion (λ x. AreParts (p x) (q x) (s x)) xs → IsPermutation (filter p xs ++ filter q xs) (filter s xs)
  parts [] all = IsPermutation-refl []
  parts (x ∷ xs) all = by_tests (p x) (q x) (s x) all.0 (parts xs all.1)
    where
      by_tests : (b d e : Bool) → AreParts b d e → IsPermutation (filter p xs ++ filter q xs) (filter s xs)
          → IsPermutation (cond b (x ∷ filter p xs) (filter p xs) ++ cond d (x ∷ filter q xs) (filter q xs)) (cond e (x ∷ filter s xs) (filter s xs))
      by_tests true true e are later = absurd cc
      by_tests true false true are later = IsPermutation-cons x (filter p xs ++ filter q xs) (filter s xs) later
      by_tests true false false are later = absurd cc
      by_tests false true true are later =
          IsPermutation-trans _ _ _ (IsPermutation-middle (filter p xs) x (filter q xs)) (IsPermutation-cons x (filter p xs ++ filter q xs) (filter s xs) later)
      by_tests false true false are later = absurd cc
      by_tests false false true are later = absurd cc
      by_tests false false false are later = later

module _ {R : Type 0} where
  -- of a holder with a number up to that one
  abbrev pub is_upto : ℕ → Keyed R → Bool
  is_upto number r = nat_le (owner r) number

  -- a range behind another
  pub ranges_join : (H first next : ℕ) → first ≤ next → (rows : List (Keyed R))
      → IsPermutation (filter (is_within H 0 first) rows ++ filter (is_within H first next) rows) (filter (is_within H 0 next) rows)
  ranges_join H first next up rows =
      parts (is_within H 0 first) (is_within H first next) (is_within H 0 next) rows (all_of (λ r. AreParts (is_within H 0 first r) (is_within H first next r) (is_within H 0 next r)) each rows)
    where
      by_owner : (b : Bool) (n : ℕ) → AreParts (b && (nat_le 0 n && nat_lt n first)) (b && (nat_le first n && nat_lt n next)) (b && (nat_le 0 n && nat_lt n next))
      by_owner true n = grind (arith, nat_tests, up)
      by_owner false n = (refl, refl)

      each : (r : Keyed R) → AreParts (is_within H 0 first r) (is_within H first next r) (is_within H 0 next r)
      each r = by_owner (r.holder == H) r.serial

  -- none is in an empty range
  pub range_none : (H : ℕ) (rows : List (Keyed R)) → filter (is_within H 0 0) rows ≡ []
  range_none H rows = filter_none (is_within H 0 0) rows (all_of (λ r. is_within H 0 0 r ≡ false) (λ r. by_owner (r.holder == H) r.serial) rows)
    where
      by_owner : (b : Bool) (n : ℕ) → (b && (nat_le 0 n && nat_lt n 0)) ≡ false
      by_owner true n = grind (arith, nat_tests)
      by_owner false n = refl

  -- the next holder's rows, which are up to a serial, behind those of the holders before
  abbrev pub IsPlacedBy : ℕ → ℕ → ℕ → Keyed R → Type 0
  IsPlacedBy number H end r = (number < owner r → H ≤ owner r) × (owner r ≡ H → place r < end)

  pub holders_join : (number H end : ℕ) → number < H → (rows : List (Keyed R)) → AllByRecursion (IsPlacedBy number H end) rows
      → IsPermutation (filter (is_upto number) rows ++ filter (is_within H 0 end) rows) (filter (is_upto H) rows)
  holders_join number H end above rows placed =
      parts (is_upto number) (is_within H 0 end) (is_upto H) rows
      (all_weaker (IsPlacedBy number H end) (λ r. AreParts (is_upto number r) (is_within H 0 end r) (is_upto H r)) each rows placed)
    where
      by_number : (o n : ℕ) → (number < o → H ≤ o) → (o ≡ H → n < end) → AreParts (nat_le o number) (o == H && (nat_le 0 n && nat_lt n end)) (nat_le o H)
      by_number o n least low = grind (arith, nat_tests, above, least, low)

      each : (r : Keyed R) → IsPlacedBy number H end r → AreParts (is_upto number r) (is_within H 0 end r) (is_upto H r)
      each r is = by_number r.holder r.serial is.0 is.1

  pub upto_none : (rows : List (Keyed R)) → AllByRecursion (λ r. 1 ≤ owner r) rows → filter (is_upto 0) rows ≡ []
  upto_none rows all = filter_none (is_upto 0) rows (all_weaker (λ r. 1 ≤ owner r) (λ r. is_upto 0 r ≡ false) (λ r low. grind (arith, nat_tests, low)) rows all)

  pub upto_all : (number : ℕ) (rows : List (Keyed R)) → AllByRecursion (λ r. owner r ≤ number) rows → filter (is_upto number) rows ≡ rows
  upto_all number rows all = filter_all (is_upto number) rows (all_weaker (λ r. owner r ≤ number) (λ r. is_upto number r ≡ true) (λ r low. grind (arith, nat_tests, low)) rows all)
