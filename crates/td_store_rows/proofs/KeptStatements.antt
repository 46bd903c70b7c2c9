-- What the statements on guarantees with the amounts in use did and found.
use Rattle.std.proofs.Common.{List, [], ap, arith, false, map, refl, subst, sym, true, ℕ, zero, suc, ◌+◌, ◌-◌, ◌<◌, ◌≤◌, ◌^◌, ◌∙◌, ◌∷◌, ◌≡◌, nat_cmp, Bool, cond}
use Rattle.std.proofs.lemmas.Bool.{le-ltb}
use Rattle.std.proofs.lemmas.Bool.Decides.{nat_tests}
use Rattle.std.specs.Prelude.{if◌then◌else◌, ◌==◌, filter, pos, negsuc, ◌-ℤ◌}
use Rattle.sqlite.specs.State.{State}
use Rattle.sqlite_rules.specs.Cast.{cast_all}
use Rattle.sqlite_sql.specs.Ops.{binary, fits_i64}
use Rattle.sqlite_sql.specs.Term.{eval_all}
use Rattle.sqlite_sql.specs.declared.ops.ArithOp.TheVariants.{Add, Sub}
use Rattle.sqlite_sql.specs.declared.ops.BinaryOp.TheVariants.{Arith, Coalesce, Compare}
use Rattle.sqlite_sql.specs.declared.ops.CompareOp.TheVariants.{Eq}
use Rattle.sqlite_trees.specs.Tree.{rowid}
use Rattle.sqlite_typed.proofs.TestLemmas.{difference_fits, last_term, sum_fits, then_term, then_value, truth_or}
use Rattle.sqlite_value.specs.Order.{Row, column}
use Rattle.sqlite_value.specs.declared.keys.Collation.TheVariants.{Binary}
use Rattle.sqlite_value.specs.declared.value.Value.TheVariants.{Int, Text}
use Rattle.td_model.specs.declared.change.NewTerms.{NewTerms}
use Rattle.td_schema.specs.Tables.{guarantees2}
use Rattle.td_schema.specs.Layouts.{schema_of}
use Rattle.td_schema.specs.declared.layout.Layout.{Layout}
use Rattle.td_store_rows.proofs.GuaranteeCells.{bare_kept, columns_at, given_else, kept_back, kept_stored, stored_at}
use Rattle.td_store_rows.proofs.GuaranteeMeanings.{above_tests, add_means, after_tests, amount_columns, by_serial, grn_tests, insert_means, new_row, serial_tests, set_columns, set_means, take_means}
use Rattle.td_store_rows.specs.Columns.{guarantees_table, kept_cells, kept_columns, kept_typing}
use Rattle.td_store_rows.specs.GuaranteeTable.{has_serial}
use Rattle.td_store_rows.specs.KeptTable.{AreKept, AreKeptBySerial, HasInUse, HasRoom, TurnsKept, TurnsWhere, has_kept_grn, kept_row_of, terms_values, with_less, with_more, with_new_kept_terms}
use Rattle.td_store_rows.specs.Places.{by_place, is_above, is_after, is_within}
use Rattle.td_store_rows.proofs.RangeTests.{is_owned, within_passes, within_tests}
use Rattle.td_store_rows.specs.StoreReads.{KeepsUse}
use Rattle.td_store_rows.specs.declared.guarantees.stored.KeptGuarantee.{KeptGuarantee}
use Rattle.td_store_rows.specs.declared.guarantees.texts.TheConstants.{ADD_USED, INSERT, SET_TERMS, TAKE_USED}
use Rattle.td_table_model.proofs.Orders.{sorted_is_order}
use Rattle.td_table_model.specs.Gathering.{owner, place}
use Rattle.td_table_model.specs.Tables.{Keyed, Kept}
use Rattle.typed_sql.proofs.Columns.{given_or, number_above, number_is, text_is}
use Rattle.typed_sql.proofs.Ordered.{Passes, by_both, by_second}
use Rattle.typed_sql.proofs.TypedRows.{inserted_typed, updated_typed}
use Rattle.typed_sql.proofs.TypedWhere.{updated_where}
use Rattle.typed_sql.specs.Reading.{row_order}
use Rattle.typed_sql.specs.Typed.{AreInOrder, IsTypedRow, row_of, typed_rows}
use Rattle.typed_sql.specs.Values.{number_or_null, number_value}
use Rattle.typed_sql.specs.Writing.{Inserts, IsInserted, Updates, columns_set, passes}

-- a new row
pub inserted : (k : Keyed Kept) → bare_kept k ≡ k → (values : Row) → values ≡ kept_cells k → (old new : State)
    → Inserts INSERT.now values old new → TurnsKept (λ rows. k ∷ rows) old new
inserted k plain values is old new h l keeps has typed =
    let did : Inserts INSERT.now (kept_cells k) old new = subst (λ v. Inserts INSERT.now v old new) is h in
    let done = did (schema_of l) (guarantees_table l) new_row has (insert_means l keeps) in
    inserted_typed (kept_typing l) (schema_of l) (eval_all new_row (kept_cells k ∷ []))
    (kept_cells k) k old.now new.now (λ id. refl) (kept_back k ∙ plain)
    (subst (λ c. IsInserted (schema_of l) (guarantees_table l)
    (eval_all new_row (kept_cells k ∷ [])) c old.now new.now) (stored_at l keeps k) done) typed

-- a difference of numbers that is none below 0, and what is an integer of SQL
less : (a c : ℕ) → c ≤ a → pos a -ℤ pos c ≡ pos (a - c)
less a zero low = ap pos (omega arith)
less a (suc c) low = ap (λ b. cond b (negsuc (suc c - suc a)) (pos (a - suc c))) (le-ltb a (suc c) low)

fits : (a : ℕ) → a < 2 ^ 63 → fits_i64 (pos a) ≡ true
fits a low = grind (arith, nat_tests, low)

-- whatever layout: the tests are of the columns alone
module _ (layout : Layout) (r : Row) (is : IsTypedRow (kept_typing layout) r) where
  abbrev k : Keyed Kept
  k = row_of (kept_typing layout) r

  holder_is : (H : ℕ) → truth_or false (binary (Compare Eq Binary) (column r 1) (number_value H)) ≡ (k.holder == H)
  holder_is H = number_is (column r 1) k.holder H (ap (λ l. column l 0) is)

  serial_is : (n : ℕ) → truth_or false (binary (Compare Eq Binary) (column r 2) (number_value n)) ≡ (k.serial == n)
  serial_is n = number_is (column r 2) k.serial n (ap (λ l. column l 1) is)

  pub grn_passes : (H n : ℕ) (grn : List ℕ) (more : Row)
      → passes (number_value H ∷ number_value n ∷ Text grn ∷ more) grn_tests r ≡ has_kept_grn H n grn k
  grn_passes H n grn more =
      then_term (holder_is H)
      (then_term (serial_is n) (last_term (text_is (column r 3) k.row.guarantee.grn grn (ap (λ l. column l 2) is))))

  pub serial_passes : (H n : ℕ) (more : Row) → passes (number_value H ∷ number_value n ∷ more) serial_tests r ≡ has_serial H n k
  serial_passes H n more = then_term (holder_is H) (last_term (serial_is n))

  pub range_passes : (H first end : ℕ) → passes (number_value H ∷ number_value first ∷ number_value end ∷ []) within_tests r ≡ is_within H first end k
  range_passes H first end = within_passes k r (ap (λ l. column l 0) is) (ap (λ l. column l 1) is) H first end

  pub after_passes : (H n : ℕ) → passes (number_value H ∷ number_value n ∷ []) after_tests r ≡ is_after H n k
  after_passes H n = then_term (holder_is H) (last_term (number_above (column r 2) k.serial n (ap (λ l. column l 1) is)))

  pub above_passes : (H : ℕ) → passes (number_value H ∷ []) above_tests r ≡ is_above H k
  above_passes H = last_term (number_above (column r 1) k.holder H (ap (λ l. column l 0) is))

  pub terms_set : KeepsUse layout → (H n : ℕ) (terms : NewTerms)
      → kept_columns (rowid r ∷ columns_set (guarantees_table layout) set_columns (terms_values H n terms) r)
      ≡ kept_cells (with_new_kept_terms terms k)
  terms_set keeps H n terms =
      let row : eval_all set_columns (terms_values H n terms ∷ r ∷ []) ≡ kept_cells (with_new_kept_terms terms k) =
      then_value (ap (λ l. column l 0) is)
      (then_value (ap (λ l. column l 1) is)
      (then_value (ap (λ l. column l 2) is)
      (then_value (ap (λ l. binary Coalesce (number_or_null terms.reference) (column l 3)) is
      ∙ given_else terms.reference k.row.guarantee.reference)
      (then_value (ap (λ l. binary Coalesce (number_or_null terms.cover) (column l 4)) is
      ∙ given_else terms.cover k.row.guarantee.cover)
      (then_value (ap (λ l. binary Coalesce (number_or_null terms.ends) (column l 5)) is
      ∙ given_or number_value (λ x. refl) terms.ends k.row.guarantee.ends)
      (then_value (ap (λ l. column l 6) is) refl)))))) in
      subst (λ columns. kept_columns (rowid r ∷ cast_all columns (eval_all set_columns (terms_values H n terms ∷ r ∷ []))) ≡ kept_cells (with_new_kept_terms terms k))
      (sym (columns_at layout keeps)) (ap (cast_all guarantees2.columns) row ∙ kept_stored (with_new_kept_terms terms k))

  pub more_set : KeepsUse layout → (H n cents : ℕ) → HasRoom cents k
      → kept_columns (rowid r ∷ columns_set (guarantees_table layout) (amount_columns Add) (number_value H ∷ number_value n ∷ number_value cents ∷ []) r)
      ≡ kept_cells (with_more cents k)
  more_set keeps H n cents room =
      let row : eval_all (amount_columns Add) ((number_value H ∷ number_value n ∷ number_value cents ∷ []) ∷ r ∷ []) ≡ kept_cells (with_more cents k) =
      then_value (ap (λ l. column l 0) is)
      (then_value (ap (λ l. column l 1) is)
      (then_value (ap (λ l. column l 2) is)
      (then_value (ap (λ l. column l 3) is)
      (then_value (ap (λ l. column l 4) is)
      (then_value (ap (λ l. column l 5) is)
      (then_value (ap (λ l. binary (Arith Add) (column l 6) (number_value cents)) is
      ∙ sum_fits (pos k.row.used) (pos cents) (fits (k.row.used + cents) room)) refl)))))) in
      subst (λ columns. kept_columns (rowid r ∷ cast_all columns (eval_all (amount_columns Add) ((number_value H ∷ number_value n ∷ number_value cents ∷ []) ∷ r ∷ [])))
      ≡ kept_cells (with_more cents k))
      (sym (columns_at layout keeps)) (ap (cast_all guarantees2.columns) row ∙ kept_stored (with_more cents k))

  taken_off : (cents : ℕ) → HasInUse cents k → binary (Arith Sub) (number_value k.row.used) (number_value cents) ≡ number_value (k.row.used - cents)
  taken_off cents has =
      let is_less : pos k.row.used -ℤ pos cents ≡ pos (k.row.used - cents) = less k.row.used cents has.0 in
      let low : k.row.used - cents < 2 ^ 63 = omega (arith, has.1) in
      let fit : fits_i64 (pos k.row.used -ℤ pos cents) ≡ true = ap fits_i64 is_less ∙ fits (k.row.used - cents) low in
      difference_fits (pos k.row.used) (pos cents) fit ∙ ap Int is_less

  pub less_set : KeepsUse layout → (H n cents : ℕ) → HasInUse cents k
      → kept_columns (rowid r ∷ columns_set (guarantees_table layout) (amount_columns Sub) (number_value H ∷ number_value n ∷ number_value cents ∷ []) r)
      ≡ kept_cells (with_less cents k)
  less_set keeps H n cents has =
      let row : eval_all (amount_columns Sub) ((number_value H ∷ number_value n ∷ number_value cents ∷ []) ∷ r ∷ []) ≡ kept_cells (with_less cents k) =
      then_value (ap (λ l. column l 0) is)
      (then_value (ap (λ l. column l 1) is)
      (then_value (ap (λ l. column l 2) is)
      (then_value (ap (λ l. column l 3) is)
      (then_value (ap (λ l. column l 4) is)
      (then_value (ap (λ l. column l 5) is)
      (then_value (ap (λ l. binary (Arith Sub) (column l 6) (number_value cents)) is ∙ taken_off cents has) refl)))))) in
      subst (λ columns. kept_columns (rowid r ∷ cast_all columns (eval_all (amount_columns Sub) ((number_value H ∷ number_value n ∷ number_value cents ∷ []) ∷ r ∷ [])))
      ≡ kept_cells (with_less cents k))
      (sym (columns_at layout keeps)) (ap (cast_all guarantees2.columns) row ∙ kept_stored (with_less cents k))

pub terms_turned : (H n : ℕ) (terms : NewTerms) (values : Row) → values ≡ terms_values H n terms
    → (old new : State) → Updates SET_TERMS.now values old new
    → TurnsKept (map (λ k. if has_kept_grn H n terms.grn k then with_new_kept_terms terms k else k)) old new
terms_turned H n terms values is old new h l keeps has typed =
    let did : Updates SET_TERMS.now (terms_values H n terms) old new =
    subst (λ v. Updates SET_TERMS.now v old new) is h in
    let done = did (schema_of l) (guarantees_table l) grn_tests set_columns has (set_means l keeps) typed.ids in
    updated_typed (kept_typing l) (schema_of l) (passes (terms_values H n terms) grn_tests)
    (columns_set (guarantees_table l) set_columns (terms_values H n terms)) (has_kept_grn H n terms.grn)
    (with_new_kept_terms terms) old.now new.now
    (λ r row_is. grn_passes l r row_is H n terms.grn
    (number_or_null terms.reference ∷ number_or_null terms.cover ∷ number_or_null terms.ends ∷ []))
    (λ r row_is. terms_set l r row_is keeps H n terms)
    (λ r. kept_back (with_new_kept_terms terms (row_of (kept_typing l) r))) done typed

pub added : (H n cents : ℕ) (values : Row) → values ≡ number_value H ∷ number_value n ∷ number_value cents ∷ []
    → (old new : State) → Updates ADD_USED.now values old new → TurnsWhere (has_serial H n) (HasRoom cents) (with_more cents) old new
added H n cents values is old new h l keeps has typed may =
    let given : Row = number_value H ∷ number_value n ∷ number_value cents ∷ [] in
    let did : Updates ADD_USED.now given old new = subst (λ v. Updates ADD_USED.now v old new) is h in
    let done = did (schema_of l) (guarantees_table l) serial_tests (amount_columns Add) has (add_means l keeps) typed.ids in
    updated_where (kept_typing l) (schema_of l) (λ k. has_serial H n k ≡ true → HasRoom cents k) (passes given serial_tests)
    (columns_set (guarantees_table l) (amount_columns Add) given) (has_serial H n) (with_more cents)
    (λ r row_is. serial_passes l r row_is H n (number_value cents ∷ []))
    (λ r row_is own room. more_set l r row_is keeps H n cents (room own))
    (λ r. kept_back (with_more cents (row_of (kept_typing l) r))) old.now new.now done typed may

pub taken : (H n cents : ℕ) (values : Row) → values ≡ number_value H ∷ number_value n ∷ number_value cents ∷ []
    → (old new : State) → Updates TAKE_USED.now values old new → TurnsWhere (has_serial H n) (HasInUse cents) (with_less cents) old new
taken H n cents values is old new h l keeps has typed may =
    let given : Row = number_value H ∷ number_value n ∷ number_value cents ∷ [] in
    let did : Updates TAKE_USED.now given old new = subst (λ v. Updates TAKE_USED.now v old new) is h in
    let done = did (schema_of l) (guarantees_table l) serial_tests (amount_columns Sub) has (take_means l keeps) typed.ids in
    updated_where (kept_typing l) (schema_of l) (λ k. has_serial H n k ≡ true → HasInUse cents k) (passes given serial_tests)
    (columns_set (guarantees_table l) (amount_columns Sub) given) (has_serial H n) (with_less cents)
    (λ r row_is. serial_passes l r row_is H n (number_value cents ∷ []))
    (λ r row_is own there. less_set l r row_is keeps H n cents (there own))
    (λ r. kept_back (with_less cents (row_of (kept_typing l) r))) old.now new.now done typed may

-- guarantees of one holder are compared by their serials
pub compared : (l : Layout) (H first end : ℕ) (values a b : Row) → Passes (kept_typing l) (is_within H first end) a
    → Passes (kept_typing l) (is_within H first end) b
    → row_order by_serial values a b ≡ nat_cmp (place (row_of (kept_typing l) a)) (place (row_of (kept_typing l) b))
compared l H first end values =
    by_second (kept_typing l) (is_within H first end) (λ k. k.holder) H (λ r is. ap (λ l. column l 0) is) (is_owned H first end)
    values place (λ r is. ap (λ l. column l 1) is)

-- and those of several by holder and then by serial
pub placed : (l : Layout) (p : Keyed Kept → Bool) (values : Row) (a b : Row) → Passes (kept_typing l) p a → Passes (kept_typing l) p b
    → row_order by_serial values a b ≡ by_place (row_of (kept_typing l) a) (row_of (kept_typing l) b)
placed l = by_both (kept_typing l) owner place (λ r is. ap (λ l. column l 0) is) (λ r is. ap (λ l. column l 1) is)

-- so those that were fetched are they by their serials
pub by_serials : (p : Keyed Kept → Bool) (old : State) (found : List KeptGuarantee) → AreKept p old found
    → ((l : Layout) → KeepsUse l
    → AreInOrder (kept_typing l) (schema_of l) (λ a b. nat_cmp (place a) (place b)) old (map kept_row_of found))
    → AreKeptBySerial p old found
by_serials p old found those sorted l keeps has typed apart =
    sorted_is_order place (map kept_row_of found) (filter p (typed_rows (kept_typing l) old.now.trees))
    (those l keeps has typed) (sorted l keeps has typed) apart
