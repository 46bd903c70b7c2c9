-- The lines of the movements in a range of serials, among all lines of a holder.
use Rattle.std.proofs.Common.{◌≡◌, ◌∙◌, ℕ, ◌+◌, ◌<◌, ◌≤◌, Bool, true, false, List, [], length, sum_by, nat_lt, refl, sym, ap, ap₂, subst, arith, IsPermutation}
use Rattle.std.specs.Prelude.{◌↔◌, ◌==◌, ◌&&◌, filter, nat_le, if◌then◌else◌}
use Rattle.std.specs.List.{AllByRecursion}
use Rattle.std.proofs.lemmas.Bool.Decides.{nat_tests}
use Rattle.std.proofs.lemmas.List.Sorted.{IsPermutation-sym}
use Rattle.sqlite_trees.proofs.ListLemmas.{IsPermutation-filter, all-permutation, all_both, all_of, all_weaker}
use Rattle.td_table_model.specs.Gathering.{IsApart, in_order, no_of, of_key, owner, part, place}
use Rattle.td_table_model.specs.Rules.{named_by}
use Rattle.td_table_model.specs.Tables.{Keyed, LineCells}
use Rattle.td_table_model.proofs.Counting.{filter_both}
use Rattle.td_table_model.proofs.Orders.{in_order_permuted, in_order_permutes}
use Rattle.td_store_rows.specs.Places.{is_within}
use Rattle.td_store_audit_rows.specs.InPlace.{AreLinesInPlace, IsLineInPlace}
use Rattle.td_store_audit.specs.InPlace.{AreAllLinesInPlace, AreLinesInPlaceWithin, AreNumbersApart, AreOfOneMovement}
use Rattle.td_store_rows.specs.Ranges.{rows_between}
use Rattle.td_store_audit.proofs.Filters.{all_by_key, all_passing, fewer_pass, filter_all, filter_none}
use Rattle.td_store_audit.proofs.Permuted.{apart_still}
use Rattle.td_store_audit.proofs.PlaceRanges.{found_tell, is_in, same_key, test_in}
use Rattle.td_store_audit.proofs.Sums.{sum_by-both, sum_by-passing}

module _ (guarantees : ℕ) (rows : List (Keyed LineCells)) where
  -- all are in place where those up to the last movement are, and no other is there
  pub all_in_place : (movements : ℕ) → AreLinesInPlaceWithin guarantees 0 (movements + 1) rows → AllByRecursion (λ r. place r ≤ movements) rows → AreAllLinesInPlace guarantees movements rows
  all_in_place movements are last = record {
    belong = all_both (λ r. 0 ≤ place r → place r < movements + 1 → 1 ≤ place r) (λ r. place r ≤ movements) (λ r. (1 ≤ place r) × (place r ≤ movements))
        (λ r is low. (is (omega arith) (omega (arith, low)), low)) rows are.serials last;
    each = λ n some low. are.each n some (omega arith) (omega (arith, low));
  }

-- a line is of a movement below a serial
abbrev pub is_below : ℕ → Keyed LineCells → Bool
is_below end r = nat_lt (place r) end

-- the lines of a range are those of the holder's lines that are in it
pub within_is : (H first end : ℕ) (rows : List (Keyed LineCells)) → filter (is_within H first end) rows ≡ filter (is_in first end) (part H rows)
within_is H first end rows = filter_both (is_in first end) (λ r. owner r == H) rows

-- what was found of a range, of lines of a holder of which no two of one movement have one number
module _ (guarantees first end : ℕ) (mine found : List (Keyed LineCells)) (same : IsPermutation (rows_between first end mine) found) (apart : AreNumbersApart mine) where
  pub found_apart : AreNumbersApart found
  found_apart =
      apart_still (rows_between first end mine) found same
      (λ n k. let test = λ (r : Keyed LineCells). place r == n && no_of r == k in
      omega (
        arith,
        apart n k,
        fewer_pass test (is_in first end) mine,
        ap length (filter_both (λ r. no_of r == k) (λ r. place r == n) (rows_between first end mine)),
        ap length (filter_both (λ r. no_of r == k) (λ r. place r == n) mine),
      ))

  -- those of a movement are all of it
  same_lines : (n : ℕ) → first ≤ n → n < end → in_order no_of (of_key place n found) ≡ in_order no_of (of_key place n mine)
  same_lines n above below =
      sym (in_order_permuted no_of (of_key place n (rows_between first end mine)) (of_key place n found) (IsPermutation-filter (λ r. place r == n) (rows_between first end mine) found same)
      (subst (IsApart no_of) (sym (same_key first end mine found same n above below)) (apart n)))
      ∙ ap (in_order no_of) (same_key first end mine found same n above below)

  -- so they are in their places exactly where those of the holder are
  pub lines_tell : AreLinesInPlaceWithin guarantees first end found ↔ AreLinesInPlaceWithin guarantees first end mine
  lines_tell = found_tell first end mine found same (AreOfOneMovement guarantees) (λ n above below. (
    subst (AreLinesInPlace guarantees) (same_lines n above below),
    subst (AreLinesInPlace guarantees) (sym (same_lines n above below)),
  ))

  -- and then each is on one of the guarantees
  pub found_named : AreLinesInPlaceWithin guarantees first end mine → AllByRecursion (λ r. named_by r ≤ guarantees) found
  found_named are =
      all-permutation (λ r. named_by r ≤ guarantees) (rows_between first end mine) found same
      (all_passing (λ r. named_by r ≤ guarantees) (is_in first end) mine
      (all_both (λ r. first ≤ place r → place r < end → 1 ≤ place r) (λ r. IsOne (place r) → IsLineInPlace guarantees r) (λ r. is_in first end r ≡ true → named_by r ≤ guarantees)
      (λ r some is there. let it = test_in first end r there in (is (some it.0 it.1, it.0, it.1)).last) mine are.serials
      (all_by_key place IsOne (IsLineInPlace guarantees) mine
      (λ n it. all-permutation (IsLineInPlace guarantees) (in_order no_of (of_key place n mine)) (of_key place n mine)
      (IsPermutation-sym (of_key place n mine) (in_order no_of (of_key place n mine)) (in_order_permutes no_of (of_key place n mine) (apart n)))
      (are.each n it.0 it.1 it.2).each))))
    where
      IsOne : ℕ → Type 0
      IsOne n = (1 ≤ n) × (first ≤ n) × (n < end)

-- what is added up over a range, and before it, is what is added up over both
module _ (f : Keyed LineCells → ℕ) (first next : ℕ) (up : first ≤ next) where
  each_once : (r : Keyed LineCells) → (if is_below first r then f r else 0) + (if is_in first next r then f r else 0) ≡ (if is_below next r then f r else 0)
  each_once r = by_test (nat_lt (place r) first) refl
    where
      by_test : (b : Bool) → nat_lt (place r) first ≡ b → (if b then f r else 0) + (if is_in first next r then f r else 0) ≡ (if is_below next r then f r else 0)
      by_test true is =
          let above : nat_le first (place r) ≡ false = grind (arith, nat_tests, is) in
          let below : nat_lt (place r) next ≡ true = grind (arith, nat_tests, is, up) in
          rw (above, below) (omega arith)
      by_test false is =
          let above : nat_le first (place r) ≡ true = grind (arith, nat_tests, is) in
          rw above (omega arith)

  pub sums_joined : (rows : List (Keyed LineCells)) → sum_by f (filter (is_below first) rows) + sum_by f (filter (is_in first next) rows) ≡ sum_by f (filter (is_below next) rows)
  sums_joined rows =
      ap₂ ◌+◌ (sum_by-passing f (is_below first) rows) (sum_by-passing f (is_in first next) rows)
      ∙ sym (sum_by-both (λ r. if is_below first r then f r else 0) (λ r. if is_in first next r then f r else 0) rows)
      ∙ (λ i. sum_by (λ r. each_once r i) rows)
      ∙ sym (sum_by-passing f (is_below next) rows)

-- none is below 0
pub none_below : (rows : List (Keyed LineCells)) → filter (is_below 0) rows ≡ []
none_below rows = filter_none (is_below 0) rows (all_of (λ r. is_below 0 r ≡ false) (λ r. grind (arith, nat_tests)) rows)

-- all are below what is above the last
pub all_below : (last : ℕ) (rows : List (Keyed LineCells)) → AllByRecursion (λ r. place r ≤ last) rows → filter (is_below (last + 1)) rows ≡ rows
all_below last rows all =
    filter_all (is_below (last + 1)) rows (all_weaker (λ r. place r ≤ last) (λ r. is_below (last + 1) r ≡ true) (λ r low. grind (arith, nat_tests, low)) rows all)
