-- By what was handed on of a holder each of the holder's guarantees is covered exactly where it is in the file, and each
-- amount that is kept is right exactly where it is there.
use Rattle.std.proofs.Common.{◌≡◌, ◌∙◌, ℕ, ◌+◌, ◌<◌, ◌≤◌, List, Some, map, sum_by, sym, ap, subst, arith, IsPermutation}
use Rattle.std.specs.Prelude.{◌↔◌, ◌==◌, ◌&&◌, Bool, IsTrue, filter, nat_le, nat_lt}
use Rattle.std.specs.List.{AllByRecursion}
use Rattle.std.proofs.lemmas.List.Sorted.{IsPermutation-map, IsPermutation-sym}
use Rattle.sqlite_trees.specs.Tree.{Trees}
use Rattle.sqlite_trees.proofs.ListLemmas.{IsPermutation-filter, all-filter, all-map, all-permutation, all_both, all_from_map, filter-map}
use Rattle.td_guarantee.specs.declared.guarantee.Guarantee.{Guarantee}
use Rattle.td_table_model.specs.Gathering.{guarantees_by, in_order, movements_by, owner, part, place}
use Rattle.td_table_model.specs.Looking.{cents_of, counting_rows, lines_in_use}
use Rattle.td_table_model.specs.Tables.{Keyed, Kept, Tables, without_amount}
use Rattle.td_table_model.proofs.Counting.{filter_both}
use Rattle.td_table_model.proofs.Grouped.{of_key_has}
use Rattle.td_table_model.proofs.Orders.{in_order_permutes}
use Rattle.td_table_model.proofs.Rebuilt.{all_in_order}
use Rattle.td_table_model.proofs.Ruled.{are_mine}
use Rattle.td_base.specs.References.{greatest_grn_serial}
use Rattle.td_store_rows.proofs.Turned.{plain_rows}
use Rattle.td_store_audit_rows.specs.InPlace.{IsGuaranteeInPlace}
use Rattle.td_store_rows.specs.Ranges.{rows_below, rows_between}
use Rattle.td_store_rows.proofs.RowRanges.{all_below, mine_rise, within_apart, within_is}
use Rattle.td_store_audit.proofs.RowRanges.{none_left}
use Rattle.td_schema.specs.declared.layout.Layout.{Layout}
use Rattle.td_store_rows.specs.GuaranteeTable.{guarantee_row_of}
use Rattle.td_store_rows.specs.KeptTable.{AreKeptBySerial, kept_row_of}
use Rattle.td_store_rows.specs.Columns.{kept_typing}
use Rattle.td_store_rows.specs.Places.{is_within}
use Rattle.td_store_rows.specs.StoreReads.{KeepsUse}
use Rattle.sqlite.specs.State.{State}
use Rattle.td_store_rows.specs.declared.guarantees.stored.StoredGuarantee.{StoredGuarantee}
use Rattle.td_store_rows.specs.declared.guarantees.stored.KeptGuarantee.{KeptGuarantee}
use Rattle.td_store_rows.specs.MovementTable.{serial_of_stored}
use Rattle.td_store_rows.specs.declared.movements.stored.MovementSerial.{MovementSerial}
use Rattle.td_store_rows.specs.StoreTables.{tables_in}
use Rattle.td_store_audit.specs.Totals.{AreTotals, sum_on}
use Rattle.td_store_audit.proofs.Counted.{of_holder}
use Rattle.td_store_audit.specs.Tallies.{IsCoveredBy, IsHandedOn, IsKeptBy, is_counting_row}
use Rattle.td_store_audit.specs.InFile.{AreTypedApart, IsRowCovered, IsRowKept, IsSoWhere}
use Rattle.td_store_audit.specs.declared.tallies.HolderTotals.{HolderTotals}

module _ (layout : Layout) (trees : Trees) (h : HolderTotals) (is : IsHandedOn layout trees h) where
  abbrev H : ℕ
  H = h.movements.raw.holder

  abbrev t : Tables
  t = tables_in layout trees

  abbrev serials : List MovementSerial
  serials = h.movements.serials.items

  -- what the holder's lines on a guarantee add up to
  abbrev pub sums : ℕ → ℕ
  sums n = sum_on n serials (part H t.lines)

  -- the serials are those of the rows that count
  those : IsPermutation (map place (counting_rows H t)) (map serial_of_stored serials)
  those =
      subst (IsPermutation (map place (counting_rows H t))) (sym is.counting)
      (IsPermutation-map place (counting_rows H t) (filter is_counting_row (movements_by H t))
      (subst (λ rows. IsPermutation rows (filter is_counting_row (movements_by H t))) (sym (filter_both is_counting_row (λ m. owner m == H) t.movements))
      (IsPermutation-filter is_counting_row (part H t.movements) (movements_by H t) (in_order_permutes place (part H t.movements) is.apart))))

  -- so the lines on a guarantee add up to what is in use on it
  in_use : (n : ℕ) → sums n ≡ sum_by cents_of (lines_in_use H n t)
  in_use n = of_holder H n t serials h.movements.order those

  abbrev Is : Keyed Guarantee → Type 0
  Is g = sums g.serial ≤ g.row.reference

  row_covered : (g : Keyed Guarantee) → owner g ≡ H → Is g → IsRowCovered layout trees g
  row_covered g own low = omega (arith, in_use g.serial, ap (λ k. sum_by cents_of (lines_in_use k g.serial t)) own, low)

  row_is : (g : Keyed Guarantee) → owner g ≡ H → IsRowCovered layout trees g → Is g
  row_is g own low = omega (arith, in_use g.serial, ap (λ k. sum_by cents_of (lines_in_use k g.serial t)) own, low)

  pub rows_tell : (rows : List StoredGuarantee) (mine : List (Keyed Guarantee)) → AllByRecursion (λ g. owner g ≡ H) mine → map guarantee_row_of rows ≡ mine
      → AllByRecursion (IsCoveredBy sums) rows ↔ AllByRecursion (IsRowCovered layout trees) mine
  rows_tell rows mine own found = (
    λ all. all_both (λ g. owner g ≡ H) Is (IsRowCovered layout trees) row_covered mine own (subst (AllByRecursion Is) found (all-map Is guarantee_row_of rows all)),
    λ all. all_from_map Is guarantee_row_of rows
        (subst (AllByRecursion Is) (sym found) (all_both (λ g. owner g ≡ H) (IsRowCovered layout trees) Is row_is mine own all)),
  )

  abbrev Keeps : Keyed Kept → Type 0
  Keeps k = k.row.used ≡ sums k.serial

  row_kept : (k : Keyed Kept) → owner k ≡ H → Keeps k → IsRowKept layout trees k
  row_kept k own used = used ∙ in_use k.serial ∙ ap (λ h. sum_by cents_of (lines_in_use h k.serial t)) (sym own)

  row_keeps : (k : Keyed Kept) → owner k ≡ H → IsRowKept layout trees k → Keeps k
  row_keeps k own used = used ∙ ap (λ h. sum_by cents_of (lines_in_use h k.serial t)) own ∙ sym (in_use k.serial)

  -- and the amounts that are kept are those sums exactly where they are in the file
  pub amounts_tell : (rows : List KeptGuarantee) (mine : List (Keyed Kept)) → AllByRecursion (λ k. owner k ≡ H) mine → map kept_row_of rows ≡ mine
      → AllByRecursion (IsKeptBy sums) rows ↔ AllByRecursion (IsRowKept layout trees) mine
  amounts_tell rows mine own found = (
    λ all. all_both (λ k. owner k ≡ H) Keeps (IsRowKept layout trees) row_kept mine own (subst (AllByRecursion Keeps) found (all-map Keeps kept_row_of rows all)),
    λ all. all_from_map Keeps kept_row_of rows
        (subst (AllByRecursion Keeps) (sym found) (all_both (λ k. owner k ≡ H) (IsRowKept layout trees) Keeps row_keeps mine own all)),
  )

  -- The holder's guarantees have serials up to the count, and so have the rows with the amounts in use.
  module _ (count : ℕ) (counted : h.movements.raw.grn_count ≡ Some count) where
    low : AllByRecursion (λ g. place g < count + 1) (guarantees_by H t)
    low =
        none_left (IsGuaranteeInPlace is.placed.0) greatest_grn_serial (guarantees_by H t) (mine_rise H t.guarantees (is.guarantees.apart H)) count
        (rw counted at is.placed.1.1)

    pub all_of_them : rows_below (count + 1) (guarantees_by H t) ≡ guarantees_by H t
    all_of_them = all_below (count + 1) (guarantees_by H t) low

    low_kept : AllByRecursion (λ k. place k < count + 1) (in_order place (part H t.kept))
    low_kept =
        all_in_order place (λ k. place k < count + 1) (part H t.kept)
        (all_from_map (λ (g : Keyed Guarantee). place g < count + 1) without_amount (part H t.kept)
        (subst (AllByRecursion (λ g. place g < count + 1))
        (ap (part H) (plain_rows layout trees) ∙ filter-map (λ g. owner g == H) without_amount t.kept)
        (all-permutation (λ g. place g < count + 1) (guarantees_by H t) (part H t.guarantees)
        (IsPermutation-sym (part H t.guarantees) (guarantees_by H t) (in_order_permutes place (part H t.guarantees) (is.guarantees.apart H))) low)))

    pub all_kept : rows_below (count + 1) (in_order place (part H t.kept)) ≡ in_order place (part H t.kept)
    all_kept = all_below (count + 1) (in_order place (part H t.kept)) low_kept

  pub own_guarantees : AllByRecursion (λ g. owner g ≡ H) (guarantees_by H t)
  own_guarantees = are_mine H t.guarantees

  pub own_kept : AllByRecursion (λ k. owner k ≡ H) (in_order place (part H t.kept))
  own_kept = all_in_order place (λ k. owner k ≡ H) (part H t.kept) (of_key_has owner H t.kept)

  -- what is told of the guarantees of a range
  module _ (first next : ℕ) where
    pub range_covered : (rows : List StoredGuarantee) → map guarantee_row_of rows ≡ rows_between first next (guarantees_by H t) → (b : Bool)
        → ((sums : ℕ → ℕ) → AreTotals sums h.totals → IsTrue b ↔ AllByRecursion (IsCoveredBy sums) rows)
        → IsTrue b ↔ AllByRecursion (IsRowCovered layout trees) (rows_between first next (guarantees_by H t))
    range_covered rows found b told =
        let mine = rows_between first next (guarantees_by H t) in
        let tell = rows_tell rows mine (all-filter (λ g. owner g ≡ H) (λ g. nat_le first (place g) && nat_lt (place g) next) (guarantees_by H t) own_guarantees) found in
        let by_sums = told sums is.totals in
        (λ yes. tell.0 (by_sums.0 yes), λ all. by_sums.1 (tell.1 all))

    pub range_kept : (rows : List KeptGuarantee) → map kept_row_of rows ≡ rows_between first next (in_order place (part H t.kept)) → (b : Bool)
        → ((sums : ℕ → ℕ) → AreTotals sums h.totals → IsTrue b ↔ AllByRecursion (IsKeptBy sums) rows)
        → IsTrue b ↔ AllByRecursion (IsRowKept layout trees) (rows_between first next (in_order place (part H t.kept)))
    range_kept rows found b told =
        let mine = rows_between first next (in_order place (part H t.kept)) in
        let tell = amounts_tell rows mine (all-filter (λ k. owner k ≡ H) (λ k. nat_le first (place k) && nat_lt (place k) next) (in_order place (part H t.kept)) own_kept) found in
        let by_sums = told sums is.totals in
        (λ yes. tell.0 (by_sums.0 yes), λ all. by_sums.1 (tell.1 all))

-- the rows with the amounts in use that a statement shows of a range are those of the range
abbrev pub AreKeptOfRange : State → ℕ → ℕ → ℕ → List (Keyed Kept) → Type 0
AreKeptOfRange a H first next rows =
    IsSoWhere KeepsUse (λ layout. AreTypedApart (kept_typing layout))
    (λ layout trees. rows ≡ rows_between first next (in_order place (part H (tables_in layout trees).kept))) a

pub kept_of_range : (a : State) (H first next : ℕ) (found : List KeptGuarantee) → AreKeptBySerial (is_within H first next) a found
    → AreKeptOfRange a H first next (map kept_row_of found)
kept_of_range a H first next found order layout keeps has apart =
    let rows = (tables_in layout a.now.trees).kept in
    order layout keeps has apart.typed (within_apart H rows (apart.apart H) first next) ∙ within_is H rows (apart.apart H) first next
