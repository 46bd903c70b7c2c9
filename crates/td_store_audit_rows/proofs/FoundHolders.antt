-- What all holders that were read tell of the table of holders.
use Rattle.std.proofs.Common.{◌≡◌, ◌∙◌, ℕ, suc, ◌+◌, ◌<◌, ◌≤◌, ◌^◌, true, false, cond, List, [], ◌∷◌, length, map, Option, Some, None, refl, sym, subst, subst₂, ap, arith, IsPermutation}
use Rattle.std.specs.Prelude.{◌↔◌, ◌==◌, IfSome, IsSome, unwrap_or}
use Rattle.std.specs.List.{AllByRecursion}
use Rattle.std.proofs.lemmas.List.Sorted.{IsPermutation-map, IsPermutation-sym}
use Rattle.sqlite_trees.specs.Tree.{Trees}
use Rattle.sqlite_trees.proofs.ListLemmas.{all-map, all-permutation, all_both, all_from_map, all_weaker, map-map}
use Rattle.sqlite_value.specs.Order.{Row}
use Rattle.td_model.specs.declared.holder_row.HolderRow.{HolderRow}
use Rattle.td_base.specs.Codes.{IsHolderNumber}
use Rattle.keyed_rows.specs.Rows.{Rises}
use Rattle.td_table_model.specs.Gathering.{IsApart, holder_no, of_key}
use Rattle.td_table_model.proofs.Numbered.{map_same}
use Rattle.td_table_model.proofs.Orders.{apart_permuted, rises_apart}
use Rattle.typed_sql.specs.Typed.{row_of, typed_rows}
use Rattle.td_store_rows.specs.Columns.{holder_typing}
use Rattle.td_store_audit_rows.specs.Found.{FoundHoldersTell, HasGrns, HasMrns, grn_pair, mrn_pair, raw_grn_pair, raw_mrn_pair}
use Rattle.td_store_audit_rows.specs.Holders.{AreHoldersIn, HolderFields, NumbersRise, fields_of, fields_of_raw}
use Rattle.td_store_audit_rows.specs.Untyped.{HasGrnCount, HasMrnCount, HasNumber}
use Rattle.td_store_audit_rows.specs.declared.holders.RawHolder.{RawHolder}
use Rattle.td_store_audit_rows.proofs.Identities.{fields_tell, tell_s2}

-- rows whose numbers rise
rises : (low : ℕ) (found : List RawHolder) → NumbersRise found → AllByRecursion (λ (h : RawHolder). low ≤ h.holder) found
    → Rises (λ (h : RawHolder). h.holder) low found
rises low [] ascend above = tt
rises low (h ∷ found) ascend above =
    (above.0, rises (h.holder + 1) found ascend.1 (all_weaker (λ (k : RawHolder). h.holder < k.holder) (λ (k : RawHolder). h.holder + 1 ≤ k.holder) (λ k less. omega (arith, less)) found ascend.0))

from_zero : (found : List RawHolder) → AllByRecursion (λ (h : RawHolder). 0 ≤ h.holder) found
from_zero [] = tt
from_zero (h ∷ found) = (omega arith, from_zero found)

-- elements are apart by a number where the numbers are
count_mapped : {X : Type 0} (key : X → ℕ) (k : ℕ) (xs : List X) → length (of_key (λ (n : ℕ). n) k (map key xs)) ≡ length (of_key key k xs)
count_mapped key k [] = refl
count_mapped key k (x ∷ xs) =
    elim (key x == k) as (λ b. length (cond b (key x ∷ of_key (λ (n : ℕ). n) k (map key xs)) (of_key (λ (n : ℕ). n) k (map key xs)))
    ≡ length (cond b (x ∷ of_key key k xs) (of_key key k xs)))
    [ true ↦ ap suc (count_mapped key k xs) | false ↦ count_mapped key k xs ]

apart_mapped : {X : Type 0} (key : X → ℕ) (xs : List X) → IsApart (λ (n : ℕ). n) (map key xs) → IsApart key xs
apart_mapped key xs apart k = subst (λ n. n ≤ 1) (count_mapped key k xs) (apart k)

mapped_apart : {X : Type 0} (key : X → ℕ) (xs : List X) → IsApart key xs → IsApart (λ (n : ℕ). n) (map key xs)
mapped_apart key xs apart k = subst (λ n. n ≤ 1) (sym (count_mapped key k xs)) (apart k)

-- the value of a field that is there
value_is : (o : Option ℕ) (n d : ℕ) → IsSome o → IfSome o (λ k. k ≡ n) → unwrap_or o d ≡ n
value_is None n d some is = cc
value_is (Some k) n d some is = is

module _ (trees : Trees) (found : List RawHolder) (all : AreHoldersIn trees found) where
  abbrev rows : List Row
  rows = trees holder_typing.table.tree

  -- what holds of the fields of all rows holds of all that were found, and the other way round
  to_found : (P : HolderFields → Type 0) → AllByRecursion (λ r. P (fields_of r)) rows → AllByRecursion (λ h. P (fields_of_raw h)) found
  to_found P each = all_from_map P fields_of_raw found (all-permutation P (map fields_of rows) (map fields_of_raw found) all (all-map P fields_of rows each))

  to_rows : (P : HolderFields → Type 0) → AllByRecursion (λ h. P (fields_of_raw h)) found → AllByRecursion (λ r. P (fields_of r)) rows
  to_rows P each =
      all_from_map P fields_of rows
      (all-permutation P (map fields_of_raw found) (map fields_of rows) (IsPermutation-sym (map fields_of rows) (map fields_of_raw found) all) (all-map P fields_of_raw found each))

  -- each number is there
  there : AllByRecursion (λ r. IsSome (fields_of r).holder) rows
  there = to_rows (λ f. IsSome f.holder) (each found)
    where
      each : (found : List RawHolder) → AllByRecursion (λ h. IsSome (fields_of_raw h).holder) found
      each [] = tt
      each (h ∷ found) = (refl, each found)

  -- what is made of the fields is made of the typed rows, where it is so row by row
  made_same : {X : Type 0} (make : HolderFields → X) (of : HolderRow → X) → AllByRecursion (λ r. make (fields_of r) ≡ of (row_of holder_typing r)) rows
      → IsPermutation (map of (typed_rows holder_typing trees)) (map (λ h. make (fields_of_raw h)) found)
  made_same make of each =
      subst₂ IsPermutation
      (map-map make fields_of rows ∙ map_same (λ r. make (fields_of r)) (λ r. of (row_of holder_typing r)) rows each ∙ sym (map-map of (row_of holder_typing) rows))
      (map-map make fields_of_raw found) (IsPermutation-map make (map fields_of rows) (map fields_of_raw found) all)

  number_at : (r : Row) → IsSome (fields_of r).holder → unwrap_or (fields_of r).holder 0 ≡ (row_of holder_typing r).holder
  number_at r some = value_is (fields_of r).holder (row_of holder_typing r).holder 0 some (fields_tell r).1.holder

  pub same_numbers : IsPermutation (map holder_no (typed_rows holder_typing trees)) (map (λ (h : RawHolder). h.holder) found)
  same_numbers =
      made_same (λ f. unwrap_or f.holder 0) holder_no
      (all_weaker (λ r. IsSome (fields_of r).holder) (λ r. unwrap_or (fields_of r).holder 0 ≡ (row_of holder_typing r).holder) number_at rows there)

  pub same_grns : AllByRecursion HasGrns found → IsPermutation (map grn_pair (typed_rows holder_typing trees)) (map raw_grn_pair found)
  same_grns has =
      made_same (λ f. (unwrap_or f.holder 0, unwrap_or f.grn_count 0)) grn_pair
      (all_both (λ r. IsSome (fields_of r).holder) (λ r. IsSome (fields_of r).grn_count)
      (λ r. (unwrap_or (fields_of r).holder 0, unwrap_or (fields_of r).grn_count 0) ≡ grn_pair (row_of holder_typing r))
      (λ r some counted i. (number_at r some i, value_is (fields_of r).grn_count (row_of holder_typing r).grn_count 0 counted (fields_tell r).1.grn_count i))
      rows there (to_rows (λ f. IsSome f.grn_count) has))

  pub same_mrns : AllByRecursion HasMrns found → IsPermutation (map mrn_pair (typed_rows holder_typing trees)) (map raw_mrn_pair found)
  same_mrns has =
      made_same (λ f. (unwrap_or f.holder 0, unwrap_or f.mrn_count 0)) mrn_pair
      (all_both (λ r. IsSome (fields_of r).holder) (λ r. IsSome (fields_of r).mrn_count)
      (λ r. (unwrap_or (fields_of r).holder 0, unwrap_or (fields_of r).mrn_count 0) ≡ mrn_pair (row_of holder_typing r))
      (λ r some counted i. (number_at r some i, value_is (fields_of r).mrn_count (row_of holder_typing r).mrn_count 0 counted (fields_tell r).1.mrn_count i))
      rows there (to_rows (λ f. IsSome f.mrn_count) has))

  pub kinds_there : AllByRecursion HasNumber rows
  kinds_there = all_weaker (λ r. IsSome (fields_of r).holder) HasNumber (λ r some. ((fields_tell r).0.holder.0 some).0) rows there

  pub numbers_there : AllByRecursion (λ (row : HolderRow). IsHolderNumber row.holder) (typed_rows holder_typing trees)
  numbers_there =
      all-map (λ (row : HolderRow). IsHolderNumber row.holder) (row_of holder_typing) rows
      (all_weaker (λ r. IsSome (fields_of r).holder) (λ r. IsHolderNumber (row_of holder_typing r).holder) (λ r some. ((fields_tell r).0.holder.0 some).1) rows there)

  pub numbers_apart : NumbersRise found → IsApart holder_no (typed_rows holder_typing trees)
  numbers_apart ascend =
      apart_mapped holder_no (typed_rows holder_typing trees)
      (apart_permuted (λ (n : ℕ). n) (map (λ (h : RawHolder). h.holder) found) (map holder_no (typed_rows holder_typing trees))
      (IsPermutation-sym (map holder_no (typed_rows holder_typing trees)) (map (λ (h : RawHolder). h.holder) found) same_numbers)
      (mapped_apart (λ (h : RawHolder). h.holder) found (rises_apart (λ (h : RawHolder). h.holder) 0 found (rises 0 found ascend (from_zero found)))))

  -- a fact of the rows that their fields tell
  told : (P : HolderFields → Type 0) (Q : Row → Type 0) → ((r : Row) → P (fields_of r) ↔ Q r) → AllByRecursion Q rows ↔ AllByRecursion (λ h. P (fields_of_raw h)) found
  told P Q tells = (
    λ each. to_found P (all_weaker Q (λ r. P (fields_of r)) (λ r q. (tells r).1 q) rows each),
    λ each. all_weaker (λ r. P (fields_of r)) Q (λ r p. (tells r).0 p) rows (to_rows P each),
  )

pub found_tell : FoundHoldersTell
found_tell l trees found all ascend =
    let s2 = tell_s2 l trees in
    record {
      kinds = kinds_there trees found all;
      numbers = numbers_there trees found all;
      apart = numbers_apart trees found all ascend;
      same = same_numbers trees found all;
      identity = (
        λ keeps. to_found trees found all (λ f. IsSome f.eori × IsSome f.last_at) (s2.0 keeps),
        λ each. s2.1 (to_rows trees found all (λ f. IsSome f.eori × IsSome f.last_at) each),
      );
      grn_kinds = told trees found all (λ f. IsSome f.grn_count) (λ r. HasGrnCount r × ((row_of holder_typing r).grn_count < 2 ^ 32)) (λ r. (fields_tell r).0.grn_count);
      mrn_kinds = told trees found all (λ f. IsSome f.mrn_count) (λ r. HasMrnCount r × ((row_of holder_typing r).mrn_count < 2 ^ 32)) (λ r. (fields_tell r).0.mrn_count);
      grn_counts = same_grns trees found all;
      mrn_counts = same_mrns trees found all;
    }
