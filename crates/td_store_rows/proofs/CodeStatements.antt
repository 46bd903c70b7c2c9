-- What the statements on the table of codes did.
use Rattle.std.proofs.Common.{IsPermutation, List, map, nat_cmp, subst, [], ap, refl, ℕ, ◌∷◌, ◌≡◌}
use Rattle.std.specs.Prelude.{◌==◌, not, pos, filter}
use Rattle.std.specs.Cmp.Lexicographic.{slice_cmp}
use Rattle.std.specs.List.Sorted.{IsSorted}
use Rattle.std.specs.declared.cmp.Ordering.{Ordering}
use Rattle.sqlite_trees.proofs.ListLemmas.{all-permutation}
use Rattle.sqlite_typed.proofs.TestLemmas.{then_value, then_term, last_term}
use Rattle.td_base.specs.Codes.{IsAccessCode}
use Rattle.typed_sql.proofs.Ordered.{Passes, both_pass, by_third, sorted_alike, texts_compared}
use Rattle.typed_sql.specs.Reading.{row_order}
use Rattle.typed_sql.specs.Typed.{AreInOrder, typed_rows, IsTypedRow, row_of}
use Rattle.td_table_model.proofs.Counting.{filter_both}
use Rattle.td_table_model.proofs.Orders.{sorted_is_order}
use Rattle.td_table_model.proofs.Ranks.{ranks_apart, ranks_compare}
use Rattle.td_table_model.specs.Gathering.{code_rank, place}
use Rattle.td_store_rows.proofs.CodeMeanings.{by_code, code_tests, delete_means, insert_means, key_tests, new_row}
use Rattle.td_store_rows.specs.CodeTable.{AreByCode, AreCodes, code_rows_in, code_row_of, TurnsCodes, is_code_of_guarantee}
use Rattle.td_store_rows.specs.declared.codes.stored.StoredCode.{StoredCode}
use Rattle.td_table_model.specs.Changes.{is_code_of}
use Rattle.td_store_rows.specs.declared.codes.texts.TheConstants.{DELETE, INSERT}
use Rattle.typed_sql.proofs.TypedRows.{deleted_typed, inserted_typed}
use Rattle.typed_sql.proofs.Columns.{text_is, number_is}
use Rattle.typed_sql.specs.Writing.{Deletes, Inserts, IsInserted, passes}
use Rattle.sqlite.specs.State.{State}
use Rattle.typed_sql.proofs.Effects.{cast_int}
use Rattle.sqlite_rules.specs.Cast.{cast_all}
use Rattle.sqlite_sql.specs.Term.{eval_all}
use Rattle.sqlite_value.specs.Order.{Row, column}
use Rattle.td_store_rows.specs.Columns.{code_cells, code_from, code_typing, stored_table}
use Rattle.td_schema.specs.Layouts.{schema_of}
use Rattle.td_schema.specs.declared.layout.Layout.{Layout}
use Rattle.typed_sql.specs.Values.{number_value}
use Rattle.td_table_model.specs.Tables.{Keyed}

back : (l : Keyed (List ℕ)) → code_from (code_cells l) ≡ l
back l = refl

cells_stored : (l : Keyed (List ℕ)) → cast_all stored_table.columns (code_cells l) ≡ code_cells l
cells_stored l = then_value (cast_int (pos l.holder)) (then_value (cast_int (pos l.serial)) refl)

pub inserted : (l : Keyed (List ℕ)) (values : Row) → values ≡ code_cells l → (old new : State)
    → Inserts INSERT.now values old new
    → TurnsCodes (λ rows. l ∷ rows) old new
inserted l values is old new h layout has typed =
    let did : Inserts INSERT.now (code_cells l) old new = subst (λ v. Inserts INSERT.now v old new) is h in
    let done = did (schema_of layout) stored_table new_row has (insert_means layout) in
    inserted_typed code_typing (schema_of layout) (eval_all new_row (code_cells l ∷ [])) (code_cells l) l old.now new.now
    (λ id. refl) (back l)
    (subst (λ c. IsInserted (schema_of layout) stored_table (eval_all new_row (code_cells l ∷ [])) c old.now new.now)
    (cells_stored l) done) typed

code_passes : (c : Keyed (List ℕ)) (r : Row) → IsTypedRow code_typing r
    → passes (code_cells c) code_tests r ≡ is_code_of c.holder c.serial c.row (row_of code_typing r)
code_passes c r is =
    then_term (number_is (column r 1) (row_of code_typing r).holder c.holder (ap (λ l. column l 0) is))
    (then_term (number_is (column r 2) (row_of code_typing r).serial c.serial (ap (λ l. column l 1) is))
    (last_term (text_is (column r 3) (row_of code_typing r).row c.row (ap (λ l. column l 2) is))))

pub deleted : (c : Keyed (List ℕ)) (values : Row) → values ≡ code_cells c → (old new : State)
    → Deletes DELETE.now values old new
    → TurnsCodes (filter (λ r. not (is_code_of c.holder c.serial c.row r))) old new
deleted c values is old new h layout has typed =
    let did : Deletes DELETE.now (code_cells c) old new = subst (λ v. Deletes DELETE.now v old new) is h in
    let done = did (schema_of layout) stored_table code_tests has (delete_means layout) typed.ids in
    deleted_typed code_typing (schema_of layout) (passes (code_cells c) code_tests)
    (is_code_of c.holder c.serial c.row) old.now
    new.now (code_passes c) done typed

-- a row passes where it is of the guarantee
pub key_passes : (H n : ℕ) (r : Row) → IsTypedRow code_typing r
    → passes (number_value H ∷ number_value n ∷ []) key_tests r ≡ is_code_of_guarantee H n (row_of code_typing r)
key_passes H n r is =
    then_term (number_is (column r 1) (row_of code_typing r).holder H (ap (λ l. column l 0) is))
    (last_term (number_is (column r 2) (row_of code_typing r).serial n (ap (λ l. column l 1) is)))

-- the codes of one guarantee are compared as texts
abbrev pub code_cmp : Keyed (List ℕ) → Keyed (List ℕ) → Ordering
code_cmp a b = slice_cmp nat_cmp a.row b.row

pub compared : (H n : ℕ) (a b : Row) → Passes code_typing (is_code_of_guarantee H n) a
    → Passes code_typing (is_code_of_guarantee H n) b
    → row_order by_code (number_value H ∷ number_value n ∷ []) a b
    ≡ code_cmp (row_of code_typing a) (row_of code_typing b)
compared H n =
    by_third code_typing (is_code_of_guarantee H n) (λ c. c.holder) H (λ r is. ap (λ l. column l 0) is)
    (λ c passes. (both_pass (c.holder == H) (c.serial == n) passes).0) (number_value H ∷ number_value n ∷ [])
    (λ c. c.serial) n (λ r is. ap (λ l. column l 1) is)
    (λ c passes. (both_pass (c.holder == H) (c.serial == n) passes).1) code_cmp
    (λ a b is other. texts_compared (column a 3) (column b 3) (row_of code_typing a).row (row_of code_typing b).row
    (ap (λ l. column l 2) is) (ap (λ l. column l 2) other))

-- so those that were fetched are they in ascending order
pub by_codes : (H n : ℕ) (old : State) (found : List StoredCode) → AreCodes (is_code_of_guarantee H n) old found
    → ((l : Layout) → AreInOrder code_typing (schema_of l) code_cmp old (map code_row_of found))
    → AreByCode H n old found
by_codes H n old found those sorted layout has typed form apart =
    let rows : List (Keyed (List ℕ)) = map code_row_of found in
    let same : IsPermutation (code_rows_in H n old.now.trees) rows =
    subst (λ l. IsPermutation l rows)
    (filter_both (λ c. place c == n) (λ c. c.holder == H) (typed_rows code_typing old.now.trees)) (those layout has typed) in
    let ranked : IsSorted (λ a b. nat_cmp (code_rank a) (code_rank b)) rows =
    sorted_alike (λ (c : Keyed (List ℕ)). IsAccessCode c.row) code_cmp (λ a b. nat_cmp (code_rank a) (code_rank b))
    (λ a b is other. ranks_compare a.row b.row is other) rows
    (all-permutation (λ (c : Keyed (List ℕ)). IsAccessCode c.row) (code_rows_in H n old.now.trees) rows same form)
    (sorted layout has typed) in
    sorted_is_order code_rank rows (code_rows_in H n old.now.trees) same ranked
    (ranks_apart (code_rows_in H n old.now.trees) form apart)
