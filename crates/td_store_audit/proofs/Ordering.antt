-- A holder's rows in the order of a statement.
use Rattle.std.proofs.Common.{Bool, true, ◌∙◌, List, [], ◌∷◌, ap, nat_cmp, ℕ, ◌+◌, ◌≡◌, ◌≤◌, arith}
use Rattle.std.specs.Prelude.{◌==◌, nat_lt, slice_index_or}
use Rattle.std.specs.Cmp.Lexicographic.{slice_cmp}
use Rattle.std.specs.List.Sorted.{IsSorted}
use Rattle.sqlite_trees.specs.Tree.{IsAscending}
use Rattle.sqlite_trees.proofs.ListLemmas.{ascending_weaker}
use Rattle.sqlite_typed.proofs.TestLemmas.{last_key, last_term, then_key, then_term}
use Rattle.sqlite_value.specs.Order.{Row, column}
use Rattle.typed_sql.proofs.Columns.{number_above, number_is}
use Rattle.typed_sql.proofs.Ordered.{Passes, both_pass, numbers_compared, numbers_tie, texts_compared}
use Rattle.typed_sql.specs.Reading.{row_order}
use Rattle.typed_sql.specs.Typed.{IsTypedRow, row_of}
use Rattle.typed_sql.specs.Values.{number_value}
use Rattle.typed_sql.specs.Writing.{passes}
use Rattle.td_schema.specs.declared.layout.Layout.{Layout}
use Rattle.td_store_rows.specs.Columns.{code_typing, line_typing}
use Rattle.td_store_rows.specs.Places.{is_after, is_within}
use Rattle.td_store_rows.proofs.MovementMeanings.{after_tests}
use Rattle.td_store_rows.proofs.RangeTests.{within_passes, within_tests}
use Rattle.td_table_model.specs.Gathering.{no_of, place}
use Rattle.td_table_model.specs.Tables.{Keyed, LineCells}
use Rattle.td_store_audit.specs.Found.{code_order, line_order}
use Rattle.td_store_audit.specs.InPlace.{IsByNumber, IsBySerial}
use Rattle.td_store_audit.proofs.Meanings.{by_three}
use Rattle.td_store_audit.proofs.Runs.{ascends, first_low, second_low}

-- a row of codes passes where it is of the holder, with a serial in the range; with a serial behind that one
pub code_within_pass : (H first end : ℕ) (r : Row) → IsTypedRow code_typing r
    → passes (number_value H ∷ number_value first ∷ number_value end ∷ []) within_tests r ≡ is_within H first end (row_of code_typing r)
code_within_pass H first end r is = within_passes (row_of code_typing r) r (ap (λ l. column l 0) is) (ap (λ l. column l 1) is) H first end

pub code_behind_pass : (H n : ℕ) (r : Row) → IsTypedRow code_typing r
    → passes (number_value H ∷ number_value n ∷ []) after_tests r ≡ is_after H n (row_of code_typing r)
code_behind_pass H n r is =
    let m = row_of code_typing r in
    then_term (number_is (column r 1) m.holder H (ap (λ l. column l 0) is)) (last_term (number_above (column r 2) m.serial n (ap (λ l. column l 1) is)))

-- codes of one holder are compared by their serials, and then as texts
pub codes_compared : (H : ℕ) (p : Keyed (List ℕ) → Bool) → ((m : Keyed (List ℕ)) → p m ≡ true → (m.holder == H) ≡ true)
    → (values a b : Row) → Passes code_typing p a → Passes code_typing p b
    → row_order by_three values a b ≡ code_order (row_of code_typing a) (row_of code_typing b)
codes_compared H p own values a b is other =
    let x = row_of code_typing a in
    let y = row_of code_typing b in
    then_key (numbers_compared (column a 1) (column b 1) x.holder y.holder (ap (λ l. column l 0) is.0) (ap (λ l. column l 0) other.0) ∙ numbers_tie x.holder y.holder H (own x is.1) (own y other.1))
    (then_key (numbers_compared (column a 2) (column b 2) x.serial y.serial (ap (λ l. column l 1) is.0) (ap (λ l. column l 1) other.0))
    (last_key (texts_compared (column a 3) (column b 3) x.row y.row (ap (λ l. column l 2) is.0) (ap (λ l. column l 2) other.0))))

-- so their serials don't fall
pub codes_by_serial : (rows : List (Keyed (List ℕ))) → IsSorted code_order rows → IsBySerial rows
codes_by_serial rows sorted =
    ascends (λ a b. place a ≤ place b) (λ a b c low high. omega (arith, low, high)) rows
    (λ k d within. let a = slice_index_or rows k d in let b = slice_index_or rows (k + 1) d in
    first_low (place a) (place b) (slice_cmp nat_cmp b.row a.row) (sorted k d (omega arith) within))

-- a row of lines passes where it is of the holder, with a serial in the range; with a serial behind that one
pub within_pass : (layout : Layout) (H first end : ℕ) (r : Row) → IsTypedRow (line_typing layout) r
    → passes (number_value H ∷ number_value first ∷ number_value end ∷ []) within_tests r ≡ is_within H first end (row_of (line_typing layout) r)
within_pass layout H first end r is =
    within_passes (row_of (line_typing layout) r) r (ap (λ l. column l 0) is) (ap (λ l. column l 1) is) H first end

pub behind_pass : (layout : Layout) (H n : ℕ) (r : Row) → IsTypedRow (line_typing layout) r
    → passes (number_value H ∷ number_value n ∷ []) after_tests r ≡ is_after H n (row_of (line_typing layout) r)
behind_pass layout H n r is =
    let m = row_of (line_typing layout) r in
    then_term (number_is (column r 1) m.holder H (ap (λ l. column l 0) is)) (last_term (number_above (column r 2) m.serial n (ap (λ l. column l 1) is)))

-- and then it is of the holder
pub is_behind : {R : Type 0} (H n : ℕ) (m : Keyed R) → is_after H n m ≡ true → (m.holder == H) ≡ true
is_behind H n m is = (both_pass (m.holder == H) (nat_lt n m.serial) is).0

-- lines of one holder are compared by their serials, and then by their numbers
pub lines_compared : (layout : Layout) (H : ℕ) (p : Keyed LineCells → Bool) → ((m : Keyed LineCells) → p m ≡ true → (m.holder == H) ≡ true)
    → (values a b : Row) → Passes (line_typing layout) p a → Passes (line_typing layout) p b
    → row_order by_three values a b ≡ line_order (row_of (line_typing layout) a) (row_of (line_typing layout) b)
lines_compared layout H p own values a b is other =
    let x = row_of (line_typing layout) a in
    let y = row_of (line_typing layout) b in
    then_key (numbers_compared (column a 1) (column b 1) x.holder y.holder (ap (λ l. column l 0) is.0) (ap (λ l. column l 0) other.0) ∙ numbers_tie x.holder y.holder H (own x is.1) (own y other.1))
    (then_key (numbers_compared (column a 2) (column b 2) x.serial y.serial (ap (λ l. column l 1) is.0) (ap (λ l. column l 1) other.0))
    (last_key (numbers_compared (column a 3) (column b 3) (no_of x) (no_of y) (ap (λ l. column l 2) is.0) (ap (λ l. column l 2) other.0))))

-- a line stands before another: its serial is lower, or they have one and its number isn't higher
abbrev Precedes : Keyed LineCells → Keyed LineCells → Type 0
Precedes a b = (place a ≤ place b) × (place a ≡ place b → no_of a ≤ no_of b)

lines_precede : (rows : List (Keyed LineCells)) → IsSorted line_order rows → IsAscending Precedes rows
lines_precede rows sorted =
    ascends Precedes
    (λ a b c low high. (
      omega (arith, low.0, high.0),
      λ same.
          let first : place a ≡ place b = omega (arith, low.0, high.0, same) in
          let second : place b ≡ place c = omega (arith, low.0, high.0, same) in
          omega (arith, low.1 first, high.1 second),
    )) rows
    (λ k d within. let a = slice_index_or rows k d in let b = slice_index_or rows (k + 1) d in
    let after = sorted k d (omega arith) within in
    (first_low (place a) (place b) (nat_cmp (no_of b) (no_of a)) after, λ same. second_low (place a) (place b) (no_of a) (no_of b) after same))

-- so their serials don't fall, nor the numbers of one serial
pub lines_by_serial : (rows : List (Keyed LineCells)) → IsSorted line_order rows → IsBySerial rows
lines_by_serial rows sorted = ascending_weaker Precedes (λ a b. place a ≤ place b) (λ a b is. is.0) rows (lines_precede rows sorted)

pub lines_by_number : (rows : List (Keyed LineCells)) → IsSorted line_order rows → IsByNumber rows
lines_by_number rows sorted =
    ascending_weaker Precedes (λ a b. place a ≡ place b → no_of a ≤ no_of b) (λ a b is. is.1) rows (lines_precede rows sorted)
