-- What the statements that show guarantees without the amounts in use found.
use Rattle.std.proofs.Common.{List, [], ap, false, map, ℕ, ◌∷◌, ◌≡◌, nat_cmp, Bool}
use Rattle.std.specs.Prelude.{◌==◌, filter}
use Rattle.sqlite.specs.State.{State}
use Rattle.sqlite_sql.specs.Ops.{binary}
use Rattle.sqlite_sql.specs.declared.ops.BinaryOp.TheVariants.{Compare}
use Rattle.sqlite_sql.specs.declared.ops.CompareOp.TheVariants.{Eq}
use Rattle.sqlite_typed.proofs.TestLemmas.{last_term, then_term, truth_or}
use Rattle.sqlite_value.specs.Order.{Row, column}
use Rattle.sqlite_value.specs.declared.keys.Collation.TheVariants.{Binary}
use Rattle.td_guarantee.specs.declared.guarantee.Guarantee.{Guarantee}
use Rattle.td_store_rows.proofs.GuaranteeMeanings.{after_tests, serial_tests, by_serial}
use Rattle.td_store_rows.proofs.RangeTests.{is_owned, within_passes, within_tests}
use Rattle.td_store_rows.specs.Columns.{guarantee_typing}
use Rattle.td_store_rows.specs.GuaranteeTable.{has_serial, AreBySerial, AreGuarantees, guarantee_row_of}
use Rattle.td_store_rows.specs.Places.{by_place, is_after, is_within}
use Rattle.td_store_rows.specs.StoreReads.{IsOfVersion}
use Rattle.td_schema.specs.Layouts.{schema_of}
use Rattle.td_schema.specs.declared.layout.Layout.{Layout}
use Rattle.typed_sql.proofs.Columns.{number_above, number_is}
use Rattle.typed_sql.specs.Typed.{IsTypedRow, row_of, AreInOrder, typed_rows}
use Rattle.typed_sql.specs.Values.{number_value}
use Rattle.typed_sql.specs.Writing.{passes}
use Rattle.typed_sql.proofs.Ordered.{Passes, by_both, by_second}
use Rattle.typed_sql.specs.Reading.{row_order}
use Rattle.td_table_model.proofs.Orders.{sorted_is_order}
use Rattle.td_table_model.specs.Gathering.{owner, place}
use Rattle.td_store_rows.specs.declared.guarantees.stored.StoredGuarantee.{StoredGuarantee}
use Rattle.td_table_model.specs.Tables.{Keyed}

module _ (layout : Layout) (r : Row) (is : IsTypedRow (guarantee_typing layout) r) where
  abbrev g : Keyed Guarantee
  g = row_of (guarantee_typing layout) r

  holder_is : (H : ℕ) → truth_or false (binary (Compare Eq Binary) (column r 1) (number_value H)) ≡ (g.holder == H)
  holder_is H = number_is (column r 1) g.holder H (ap (λ l. column l 0) is)

  serial_is : (n : ℕ) → truth_or false (binary (Compare Eq Binary) (column r 2) (number_value n)) ≡ (g.serial == n)
  serial_is n = number_is (column r 2) g.serial n (ap (λ l. column l 1) is)

  pub serial_passes : (H n : ℕ) → passes (number_value H ∷ number_value n ∷ []) serial_tests r ≡ has_serial H n g
  serial_passes H n = then_term (holder_is H) (last_term (serial_is n))

  pub range_passes : (H first end : ℕ) → passes (number_value H ∷ number_value first ∷ number_value end ∷ []) within_tests r ≡ is_within H first end g
  range_passes H first end = within_passes g r (ap (λ l. column l 0) is) (ap (λ l. column l 1) is) H first end

  pub after_passes : (H n : ℕ) → passes (number_value H ∷ number_value n ∷ []) after_tests r ≡ is_after H n g
  after_passes H n = then_term (holder_is H) (last_term (number_above (column r 2) g.serial n (ap (λ l. column l 1) is)))

-- guarantees of one holder are compared by their serials
pub compared : (l : Layout) (H first end : ℕ) (values a b : Row) → Passes (guarantee_typing l) (is_within H first end) a
    → Passes (guarantee_typing l) (is_within H first end) b
    → row_order by_serial values a b
    ≡ nat_cmp (place (row_of (guarantee_typing l) a)) (place (row_of (guarantee_typing l) b))
compared l H first end values =
    by_second (guarantee_typing l) (is_within H first end) (λ g. g.holder) H (λ r is. ap (λ l. column l 0) is) (is_owned H first end)
    values place (λ r is. ap (λ l. column l 1) is)

-- and those of several by holder and then by serial
pub placed : (l : Layout) (p : Keyed Guarantee → Bool) (values : Row) (a b : Row) → Passes (guarantee_typing l) p a → Passes (guarantee_typing l) p b
    → row_order by_serial values a b ≡ by_place (row_of (guarantee_typing l) a) (row_of (guarantee_typing l) b)
placed l = by_both (guarantee_typing l) owner place (λ r is. ap (λ l. column l 0) is) (λ r is. ap (λ l. column l 1) is)

-- so those that were fetched are they by their serials
pub by_serials : (version : ℕ) (p : Keyed Guarantee → Bool) (old : State) (found : List StoredGuarantee) → AreGuarantees version p old found
    → ((l : Layout) → IsOfVersion version l
    → AreInOrder (guarantee_typing l) (schema_of l) (λ a b. nat_cmp (place a) (place b)) old (map guarantee_row_of found))
    → AreBySerial version p old found
by_serials version p old found those sorted layout is has typed apart =
    sorted_is_order place (map guarantee_row_of found) (filter p (typed_rows (guarantee_typing layout) old.now.trees))
    (those layout is has typed) (sorted layout is has typed) apart
