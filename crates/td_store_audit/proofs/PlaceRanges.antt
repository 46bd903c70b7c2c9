-- The rows with serials in a range, among all rows of a holder.
use Rattle.std.proofs.Common.{◌≡◌, ◌∙◌, ℕ, ◌<◌, ◌≤◌, Bool, true, false, List, [], ◌∷◌, Option, None, Some, length, nat_le, nat_lt, refl, sym, ap, arith, IsPermutation}
use Rattle.std.specs.Prelude.{◌↔◌, ◌==◌, ◌&&◌, IsFalse, filter, is_some}
use Rattle.std.specs.List.{AllByRecursion}
use Rattle.std.specs.Option.{option_map}
use Rattle.std.specs.declared.cmp.Ordering.{Ordering}
use Rattle.std.proofs.lemmas.Bool.{false≢true}
use Rattle.std.proofs.lemmas.Bool.Decides.{nat_tests}
use Rattle.std.proofs.lemmas.List.Sorted.{IsPermutation-sym, length_permutation}
use Rattle.sqlite_trees.proofs.ListLemmas.{all-filter, all-permutation, all_both, all_of, all_weaker}
use Rattle.typed_sql.proofs.Ordered.{both_pass}
use Rattle.typed_sql.specs.Typed.{ComesFirst}
use Rattle.td_table_model.specs.Gathering.{of_key, owner, part, place}
use Rattle.td_table_model.specs.Tables.{Keyed}
use Rattle.td_table_model.proofs.Counting.{filter_both}
use Rattle.td_store_rows.specs.Places.{is_after}
use Rattle.td_store_audit.specs.InPlace.{AreInPlaceWithin, AreSerialsWithin}
use Rattle.td_store_rows.specs.Ranges.{rows_between}
use Rattle.td_store_audit.proofs.Filters.{all_passing, all_where, filter_none, filter_within, none_pass}

-- a number is below another, or from it on
split : {P : Type 0} (k n : ℕ) → (k < n → P) → (n ≤ k → P) → P
split {P} k n low high = go (nat_lt k n) refl
  where
    go : (b : Bool) → nat_lt k n ≡ b → P
    go true is = low (grind (arith, nat_tests, is))
    go false is = high (grind (arith, nat_tests, is))

module _ {R : Type 0} (AreSo : List (Keyed R) → Type 0) (rows : List (Keyed R)) where
  -- rows that are in place in a range are so in a part of it
  pub part_in_place : (low first next end : ℕ) → low ≤ first → next ≤ end → AreInPlaceWithin AreSo low end rows → AreInPlaceWithin AreSo first next rows
  part_in_place low first next end from to are = record {
    serials = all_weaker (λ r. low ≤ place r → place r < end → 1 ≤ place r) (λ r. first ≤ place r → place r < next → 1 ≤ place r)
        (λ r is above below. is (omega (arith, from, above)) (omega (arith, to, below))) rows are.serials;
    each = λ n some above below. are.each n some (omega (arith, from, above)) (omega (arith, to, below));
  }

  -- those that are so in two ranges are so in both together
  pub joined_in_place : (first next : ℕ) → AreInPlaceWithin AreSo 0 first rows → AreInPlaceWithin AreSo first next rows → AreInPlaceWithin AreSo 0 next rows
  joined_in_place first next before here = record {
    serials = all_both (λ r. 0 ≤ place r → place r < first → 1 ≤ place r) (λ r. first ≤ place r → place r < next → 1 ≤ place r) (λ r. 0 ≤ place r → place r < next → 1 ≤ place r)
        (λ r lower upper zero below. split (place r) first (λ low. lower zero low) (λ high. upper high below)) rows before.serials here.serials;
    each = λ n some zero below. split n first (λ low. before.each n some zero low) (λ high. here.each n some high below);
  }

  -- in no range
  pub none_in_place : AreInPlaceWithin AreSo 0 0 rows
  none_in_place = record {
    serials = all_of (λ r. 0 ≤ place r → place r < 0 → 1 ≤ place r) (λ r zero below. absurd (omega (arith, below))) rows;
    each = λ n some zero below. absurd (omega (arith, below));
  }

module _ {R : Type 0} where
  -- a row is in the range
  abbrev pub is_in : ℕ → ℕ → Keyed R → Bool
  is_in first end r = nat_le first (place r) && nat_lt (place r) end

  in_test : (first end : ℕ) (r : Keyed R) → first ≤ place r → place r < end → is_in first end r ≡ true
  in_test first end r above below =
      let low : nat_le first (place r) ≡ true = grind (arith, nat_tests, above) in
      let high : nat_lt (place r) end ≡ true = grind (arith, nat_tests, below) in
      rw (low, high) refl

  pub test_in : (first end : ℕ) (r : Keyed R) → is_in first end r ≡ true → (first ≤ place r) × (place r < end)
  test_in first end r is =
      let both = both_pass (nat_le first (place r)) (nat_lt (place r) end) is in
      (grind (arith, nat_tests, both.0), grind (arith, nat_tests, both.1))

  -- what was found of a range
  module _ (first end : ℕ) (mine found : List (Keyed R)) (same : IsPermutation (rows_between first end mine) found) where
    pub found_within : AreSerialsWithin first end found
    found_within =
        all-permutation (λ r. (first ≤ place r) × (place r < end)) (rows_between first end mine) found same
        (all_passing (λ r. (first ≤ place r) × (place r < end)) (is_in first end) mine
        (all_of (λ r. is_in first end r ≡ true → (first ≤ place r) × (place r < end)) (test_in first end) mine))

    -- those of a serial are all that there are of it
    pub same_key : (n : ℕ) → first ≤ n → n < end → of_key place n (rows_between first end mine) ≡ of_key place n mine
    same_key n above below =
        filter_within (λ r. place r == n) (is_in first end)
        (λ r is. let own : place r ≡ n = grind (arith, nat_tests, is) in in_test first end r (omega (arith, own, above)) (omega (arith, own, below))) mine

    -- so they are in their places exactly where those of the holder are
    pub found_tell : (AreSo : List (Keyed R) → Type 0) → ((n : ℕ) → first ≤ n → n < end → AreSo (of_key place n found) ↔ AreSo (of_key place n mine))
        → AreInPlaceWithin AreSo first end found ↔ AreInPlaceWithin AreSo first end mine
    found_tell AreSo alike = (
      λ are. record {
        serials = all_weaker (λ r. is_in first end r ≡ true → first ≤ place r → place r < end → 1 ≤ place r) (λ r. first ≤ place r → place r < end → 1 ≤ place r)
            (λ r is above below. is (in_test first end r above below) above below) mine
            (all_where (λ r. first ≤ place r → place r < end → 1 ≤ place r) (is_in first end) mine
            (all-permutation (λ r. first ≤ place r → place r < end → 1 ≤ place r) found (rows_between first end mine)
            (IsPermutation-sym (rows_between first end mine) found same) are.serials));
        each = λ n some above below. (alike n above below).0 (are.each n some above below);
      },
      λ are. record {
        serials = all-permutation (λ r. first ≤ place r → place r < end → 1 ≤ place r) (rows_between first end mine) found same
            (all-filter (λ r. first ≤ place r → place r < end → 1 ≤ place r) (is_in first end) mine are.serials);
        each = λ n some above below. (alike n above below).1 (are.each n some above below);
      },
    )

-- a holder's rows behind a serial: there is none exactly where each row's serial is at most that
module _ {R : Type 0} (H last : ℕ) (rows : List (Keyed R)) where
  behind_is : filter (is_after H last) rows ≡ filter (λ r. nat_lt last (place r)) (part H rows)
  behind_is = filter_both (λ r. nat_lt last (place r)) (λ r. owner r == H) rows

  pub none_behind : filter (is_after H last) rows ≡ [] → AllByRecursion (λ r. place r ≤ last) (part H rows)
  none_behind none =
      all_weaker (λ r. nat_lt last (place r) ≡ false) (λ r. place r ≤ last) (λ r is. grind (arith, nat_tests, is)) (part H rows)
      (none_pass (λ r. nat_lt last (place r)) (part H rows) (sym behind_is ∙ none))

  pub behind_none : AllByRecursion (λ r. place r ≤ last) (part H rows) → filter (is_after H last) rows ≡ []
  behind_none low =
      behind_is ∙ filter_none (λ r. nat_lt last (place r)) (part H rows)
      (all_weaker (λ r. place r ≤ last) (λ r. nat_lt last (place r) ≡ false) (λ r is. grind (arith, nat_tests, is)) (part H rows) low)

-- one comes first exactly where one passes
pub first_tells : {T R : Type 0} (f : T → R) (p : R → Bool) (cmp : R → R → Ordering) (rows : List R) (found : Option T)
    → ComesFirst p cmp rows (option_map f found) → IsFalse (is_some found) ↔ (filter p rows ≡ [])
first_tells f p cmp rows None first = (λ is. first, λ none. refl)
first_tells f p cmp rows (Some x) first = (
  λ is. absurd (false≢true (sym is)),
  λ none. absurd (omega (arith, length_permutation (filter p rows) (f x ∷ first.0) first.1, ap length none)),
)
