-- What was fetched first of the holders above a number.
use Rattle.std.proofs.Common.{◌≡◌, ◌∙◌, ℕ, suc, ◌+◌, ◌<◌, ◌≤◌, List, [], ◌∷◌, length, map, nat_cmp, Option, Some, None, refl, sym, subst, ap, arith, IsPermutation}
use Rattle.std.specs.Prelude.{filter, slice_index_or}
use Rattle.std.specs.List.{AllByRecursion}
use Rattle.std.specs.List.Sorted.{IsSorted}
use Rattle.std.specs.declared.cmp.Ordering.{Ordering}
use Rattle.std.proofs.lemmas.Bool.Decides.{nat_tests}
use Rattle.std.proofs.lemmas.List.Sorted.{length_permutation}
use Rattle.sqlite_value.specs.Order.{Row, column}
use Rattle.sqlite_trees.proofs.ListLemmas.{all-filter, all-permutation, all_weaker, filter_same}
use Rattle.sqlite.specs.State.{State}
use Rattle.sqlite_typed.proofs.TestLemmas.{last_key, last_term}
use Rattle.typed_sql.proofs.Columns.{number_above}
use Rattle.typed_sql.proofs.Ordered.{numbers_compared, sorted_alike}
use Rattle.typed_sql.specs.Reading.{row_order, shown_by}
use Rattle.typed_sql.specs.Values.{number_in, number_value}
use Rattle.typed_sql.specs.Visited.{FetchesFirst}
use Rattle.typed_sql.specs.Writing.{passes}
use Rattle.td_schema.specs.Layouts.{schema_of}
use Rattle.td_store_rows.specs.Columns.{holder_typing}
use Rattle.td_store_audit_rows.specs.Holders.{fields_from, fields_of_raw}
use Rattle.td_store_audit_rows.specs.NextHolder.{HasLeastAbove, IsNextHolder, is_above, number_in_row}
use Rattle.td_store_audit_rows.specs.Untyped.{HasNumber}
use Rattle.td_store_audit_rows.specs.declared.holders.RawHolder.{RawHolder}
use Rattle.td_store_audit_rows.specs.declared.texts.TheConstants.{HOLDERS_ABOVE}
use Rattle.td_store_audit_rows.proofs.Meanings.{above_tests, by_rowid, holder_terms, holders_above_mean}

-- the number that a column holds
numbered : (r : Row) → HasNumber r → column r 0 ≡ number_value (number_in_row r)
numbered r is = is.1 ∙ ap number_value (sym (ap number_in is.1))

-- rows that are none
nothing : (rows : List Row) → length rows ≤ 0 → rows ≡ []
nothing [] none = refl
nothing (r ∷ rows) none = absurd (omega (arith, none))

-- the first of rows whose numbers don't fall has the least
least_first : (r : Row) (others : List Row)
    → ((k : ℕ) (d : Row) → k + 1 < length (r ∷ others) → number_in_row (slice_index_or (r ∷ others) k d) ≤ number_in_row (slice_index_or (r ∷ others) (k + 1) d))
    → AllByRecursion (λ other. number_in_row r ≤ number_in_row other) others
least_first r [] each = tt
least_first r (s ∷ others) each =
    let later = least_first s others (λ k d within. let next : suc k + 1 ≡ suc (k + 1) = omega arith in rw next at (each (suc k) d (omega (arith, within)))) in
    let here : number_in_row r ≤ number_in_row s = each 0 r (omega arith) in
    (here, all_weaker (λ other. number_in_row s ≤ number_in_row other) (λ other. number_in_row r ≤ number_in_row other) (λ other above. omega (arith, here, above)) others later)

module _ (number : ℕ) where
  abbrev values : Row
  values = number_value number ∷ []

  abbrev order : Row → Row → Ordering
  order = row_order by_rowid values

  -- a row passes where its number is above
  passes_above : (r : Row) → HasNumber r → passes values above_tests r ≡ is_above number r
  passes_above r is = last_term (number_above (column r 0) (number_in_row r) number (numbered r is))

  compared : (a b : Row) → HasNumber a → HasNumber b → order a b ≡ nat_cmp (number_in_row a) (number_in_row b)
  compared a b is other = last_key (numbers_compared (column a 0) (column b 0) (number_in_row a) (number_in_row b) (numbered a is) (numbered b other))

  -- none is found where none passes
  none_above : (found : List Row) → [] ≡ map (shown_by holder_terms values) found → found ≡ []
  none_above [] is = refl
  none_above (r ∷ found) is = cc

  module _ (rows : List Row) (numbers : AllByRecursion HasNumber rows) where
    those_above : filter (passes values above_tests) rows ≡ filter (is_above number) rows
    those_above = filter_same (passes values above_tests) (is_above number) rows
        (all_weaker HasNumber (λ r. passes values above_tests r ≡ is_above number r) passes_above rows numbers)

    -- the first that is found has the least number
    taken : (found : List Row) (r : Row) (rest : List Row) (raw : RawHolder) → IsPermutation (filter (passes values above_tests) rows) found
        → IsSorted order found → (r ∷ rest) ≡ map (shown_by holder_terms values) found → fields_of_raw raw ≡ fields_from r → HasLeastAbove number rows raw
    taken [] r rest raw all sorted shown fields = absurd cc
    taken (f ∷ others) r rest raw all sorted shown fields =
        let each : AllByRecursion HasNumber (f ∷ others) =
        all-permutation HasNumber (filter (passes values above_tests) rows) (f ∷ others) all (all-filter HasNumber (passes values above_tests) rows numbers) in
        let rising : IsSorted (λ a b. nat_cmp (number_in_row a) (number_in_row b)) (f ∷ others) =
        sorted_alike HasNumber order (λ a b. nat_cmp (number_in_row a) (number_in_row b)) compared (f ∷ others) each sorted in
        let first : r ≡ shown_by holder_terms values f = cc in
        record {
          row = f;
          others = others;
          above = subst (λ those. IsPermutation those (f ∷ others)) those_above all;
          least = least_first f others (λ k d within. let order_of = rising k d (omega arith) within in grind (arith, nat_tests, order_of));
          fields = sym (fields ∙ ap fields_from first);
        }

-- so it comes next
pub next_fetched : (number : ℕ) (old : State) (found : Option RawHolder) → FetchesFirst fields_of_raw fields_from HOLDERS_ABOVE.now (number_value number ∷ []) old found
    → IsNextHolder number old found
next_fetched number old None did l has numbers =
    let rows = old.now.trees holder_typing.table.tree in
    let a = did (schema_of l) 1 above_tests holder_terms by_rowid has (holders_above_mean l) in
    let none : a.found ≡ [] = none_above number a.found a.shown in
    sym (those_above number rows numbers)
    ∙ nothing (filter (passes (number_value number ∷ []) above_tests) rows) (omega (arith, length_permutation _ _ a.all, ap length none))
next_fetched number old (Some raw) did l has numbers =
    let rows = old.now.trees holder_typing.table.tree in
    let whole = did.1 (schema_of l) 1 above_tests holder_terms by_rowid has (holders_above_mean l) in
    let a = whole.1 in
    taken number rows numbers a.found did.0 whole.0 raw a.all a.sorted a.shown did.2
