-- Rows that are in their places, range by range, and what stands behind a serial.
use Rattle.std.proofs.Common.{◌≡◌, ◌∙◌, ℕ, zero, suc, ◌+◌, ◌-◌, ◌<◌, ◌≤◌, List, [], ◌∷◌, ◌++◌, length, nat_le, nat_lt, None, Some, refl, sym, ap, subst, arith}
use Rattle.std.specs.Prelude.{◌==◌, ◌&&◌, filter}
use Rattle.std.specs.List.{AllByRecursion}
use Rattle.std.proofs.lemmas.List.{length-append}
use Rattle.std.proofs.lemmas.List.Sorted.{IsPermutation-sym, length_permutation}
use Rattle.sqlite_trees.proofs.ListLemmas.{all-append, all-filter, all-permutation, all_weaker}
use Rattle.keyed_rows.specs.Rows.{Rises}
use Rattle.td_table_model.specs.Gathering.{IsApart, IsNumbered, in_order, owner, part, place}
use Rattle.td_table_model.specs.Tables.{Keyed}
use Rattle.td_table_model.proofs.Counting.{filter_both}
use Rattle.td_table_model.proofs.Rebuilt.{all_in_order, numbered_within}
use Rattle.td_table_model.proofs.Orders.{in_order_permutes}
use Rattle.td_store_rows.specs.Places.{by_place, is_after}
use Rattle.td_store_audit_rows.specs.InPlace.{AreNext}
use Rattle.typed_sql.specs.Typed.{ComesFirst}
use Rattle.td_store_rows.specs.Ranges.{rows_below, rows_between}
use Rattle.td_store_rows.proofs.RowRanges.{none_below, joined, numbered_joined, numbered_parts, below_numbered, all_below, none_behind, nothing_behind}

-- rows that are in their places, and those that come next
pub next_joined : {R : Type 0} (IsPlaced : Keyed R → Type 0) (greatest before last : ℕ) (xs ys : List (Keyed R)) → AreNext IsPlaced greatest 0 before xs
    → AreNext IsPlaced greatest before last ys → AreNext IsPlaced greatest 0 last (xs ++ ys)
next_joined IsPlaced greatest before last xs ys first second = record {
  serials = numbered_joined 0 xs ys first.serials (subst (λ k. IsNumbered place k ys) first.count second.serials);
  count = omega (arith, first.count, second.count, length-append xs ys);
  most = second.most;
  each = all-append IsPlaced xs ys first.each second.each;
}

-- Rows that are in their places up to a serial, range by range.
module _ {R : Type 0} (IsPlaced : Keyed R → Type 0) (greatest : ℕ) (rows : List (Keyed R)) (rise : Rises place 0 rows) where
  abbrev Are : ℕ → ℕ → List (Keyed R) → Type 0
  Are = AreNext IsPlaced greatest

  -- none is below the first serial
  pub no_range : Are 0 0 (rows_below 0 rows)
  no_range = subst (Are 0 0) (sym (none_below 0 0 rows rise (omega arith))) (record { serials = tt; count = refl; most = omega arith; each = tt })

  -- of rows that are in their places up to a serial those below one after it are, and those of a range are those that come next
  module _ (count : ℕ) (all : Are 0 count rows) where
    pub upto : (end : ℕ) → end ≤ count + 1 → Are 0 (end - 1) (rows_below end rows)
    upto zero within = subst (Are 0 0) refl no_range
    upto (suc last) within =
        let a = rows_below (suc last) rows in
        let b = rows_between (suc last) (count + 1) rows in
        let low = all_weaker (λ r. (0 < place r) × (place r ≤ 0 + length rows)) (λ r. place r < count + 1) (λ r is. omega (arith, is.1, all.count)) rows (numbered_within place 0 rows all.serials) in
        let parts : rows ≡ a ++ b = sym (all_below (count + 1) rows low) ∙ joined (suc last) (count + 1) 0 rows rise within in
        let size : length a ≡ last = subst (λ m. length (rows_below m rows) ≡ last) (omega arith) (below_numbered 0 last rows all.serials (omega (arith, within, all.count))) in
        record {
          serials = (numbered_parts 0 a b (subst (IsNumbered place 0) parts all.serials)).0;
          count = omega (arith, size);
          most = omega (arith, within, all.most);
          each = all-filter IsPlaced (λ r. nat_lt (place r) (suc last)) rows all.each;
        }

    pub own_range : (first end : ℕ) → first < end → end ≤ count + 1 → Are (first - 1) (end - 1) (rows_between first end rows)
    own_range first end less within =
        let a = rows_below first rows in
        let b = rows_between first end rows in
        let before = upto first (omega (arith, less, within)) in
        let after = upto end within in
        let parts = joined first end 0 rows rise (omega (arith, less)) in
        let size = ap length parts ∙ length-append a b in
        record {
          serials = subst (λ k. IsNumbered place k b) (sym before.count) ((numbered_parts 0 a b (subst (IsNumbered place 0) parts after.serials)).1);
          count = omega (arith, before.count, after.count, size);
          most = after.most;
          each = all-filter IsPlaced (λ r. nat_le first (place r) && nat_lt (place r) end) rows all.each;
        }

    pub none_left : AllByRecursion (λ r. place r < count + 1) rows
    none_left = all_weaker (λ r. (0 < place r) × (place r ≤ 0 + length rows)) (λ r. place r < count + 1) (λ r is. omega (arith, is.1, all.count)) rows (numbered_within place 0 rows all.serials)

-- What stands behind a serial, or that nothing does.
module _ {R : Type 0} (H n : ℕ) (rows : List (Keyed R)) where
  behind_is : filter (is_after H n) rows ≡ filter (λ r. nat_lt n (place r)) (part H rows)
  behind_is = filter_both (λ r. nat_lt n (place r)) (λ r. owner r == H) rows

  -- all are up to it where nothing does
  pub none_is_behind : ComesFirst (is_after H n) by_place rows None → AllByRecursion (λ r. place r < n + 1) (in_order place (part H rows))
  none_is_behind none = all_in_order place (λ r. place r < n + 1) (part H rows) (none_behind n (part H rows) (sym behind_is ∙ none))

  -- and not all where something does
  pub some_is_behind : (x : Keyed R) → IsApart place (part H rows) → ComesFirst (is_after H n) by_place rows (Some x)
      → AllByRecursion (λ r. place r < n + 1) (in_order place (part H rows)) → ⊥
  some_is_behind x apart found low =
      let own = all-permutation (λ r. place r < n + 1) (in_order place (part H rows)) (part H rows)
      (IsPermutation-sym (part H rows) (in_order place (part H rows)) (in_order_permutes place (part H rows) apart)) low in
      let none : filter (is_after H n) rows ≡ [] = behind_is ∙ nothing_behind n (part H rows) own in
      omega (arith, ap length none, length_permutation (filter (is_after H n) rows) (x ∷ found.0) found.1)
