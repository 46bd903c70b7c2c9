-- What the statements on the table of movements mean, in a store's file of each layout.
use Rattle.std.proofs.Common.{refl, true, ◌≡◌}
use Rattle.std.specs.Prelude.{ℕ, List, [], ◌∷◌, codes}
use Rattle.sqlite_schema.specs.declared.schema.Index.{Index}
use Rattle.sqlite_schema.specs.declared.schema.Table.{Table}
use Rattle.sqlite_schema.specs.declared.schema.View.{View}
use Rattle.td_schema.proofs.Wider.{are_still, wider}
use Rattle.td_schema.proofs.Still.{none_act}
use Rattle.td_schema.proofs.InEach.{in_each}
use Rattle.sqlite_tied.specs.Compute.{everything}
use Rattle.sqlite.specs.Listing.{understood}
use Rattle.sqlite_value.specs.declared.keys.Collation.TheVariants.{Binary}
use Rattle.sqlite_value.specs.declared.keys.Key.{Key}
use Rattle.sqlite_value.specs.declared.value.Value.TheVariants.{Null, Text}
use Rattle.sqlite_value.specs.Keys.{ascending}
use Rattle.sqlite_sql.specs.Term.{Term, lit, col, op2}
use Rattle.sqlite_sql.specs.declared.ops.BinaryOp.TheVariants.{Compare, Coalesce, Or}
use Rattle.sqlite_sql.specs.declared.ops.CompareOp.TheVariants.{Eq, Gt}
use Rattle.td_schema.specs.Layouts.{schema_of}
use Rattle.td_schema.specs.declared.layout.Layout.{Layout}
use Rattle.typed_sql.specs.Meanings.{HasTable, MeansInsert, MeansUpdate, MeansSelect}
use Rattle.td_store_rows.specs.Columns.{movements_table}
use Rattle.td_store_rows.proofs.RangeTests.{within_tests}
use Rattle.td_store_rows.specs.declared.movements.texts.TheConstants.{INSERT, SET_STATUS, BY_MRN, BY_LRN, WITHIN, LISTED_WITHIN, NEXT_OF_HOLDER, OF_HOLDERS_ABOVE, DEADLINES, COUNTING_SERIALS}

movements_there : (more : List Table) (indexes : List Index) (views : List View) → are_still more ≡ true → HasTable (wider more indexes views) 3 movements_table
movements_there more indexes views still = record { there = refl; free = none_act (wider more indexes views) still 4 }

-- a column is the value that was given at a place
abbrev pub equals : ℕ → ℕ → Term
equals at given = op2 (Compare Eq Binary) (col 1 at) (col 0 given)

abbrev pub key_tests : List Term
key_tests = equals 1 0 ∷ equals 2 1 ∷ equals 3 2 ∷ []

abbrev pub lrn_tests : List Term
lrn_tests = equals 1 0 ∷ equals 4 1 ∷ []

-- a column is above the value that was given at a place
abbrev pub exceeds : ℕ → ℕ → Term
exceeds at given = op2 (Compare Gt Binary) (col 1 at) (col 0 given)

abbrev pub after_tests : List Term
after_tests = equals 1 0 ∷ exceeds 2 1 ∷ []

abbrev pub above_tests : List Term
above_tests = exceeds 1 0 ∷ []

-- the state has a name
abbrev pub named : List ℕ → Term
named name = op2 (Compare Eq Binary) (col 1 8) (lit (Text name))

abbrev pub counting_tests : List Term
counting_tests =
    equals 1 0
    ∷ op2 Or (op2 Or (named (codes "released")) (named (codes "enquired")))
    (op2 Or (named (codes "arrived")) (op2 Or (named (codes "discrepant")) (named (codes "cleared"))))
    ∷ []

-- the columns of a new row, of a row that is set anew, and of one that is shown
abbrev pub new_row : List Term
new_row =
    lit Null ∷ col 0 0 ∷ col 0 1 ∷ col 0 2 ∷ col 0 3 ∷ col 0 4 ∷ col 0 5 ∷ col 0 6 ∷ col 0 7 ∷ col 0 8 ∷ col 0 9
    ∷ col 0 10 ∷ []

abbrev pub set_columns : List Term
set_columns =
    col 1 1 ∷ col 1 2 ∷ col 1 3 ∷ col 1 4 ∷ col 1 5 ∷ col 1 6 ∷ col 1 7 ∷ col 0 3
    ∷ op2 Coalesce (col 0 4) (col 1 9)
    ∷ op2 Coalesce (col 0 5) (col 1 10) ∷ op2 Coalesce (col 0 6) (col 1 11) ∷ []

abbrev pub all_columns : List Term
all_columns =
    col 1 1 ∷ col 1 2 ∷ col 1 3 ∷ col 1 4 ∷ col 1 5 ∷ col 1 6 ∷ col 1 7 ∷ col 1 8 ∷ col 1 9 ∷ col 1 10 ∷ col 1 11
    ∷ []

abbrev pub by_serial : List (Term × Key)
by_serial = (col 1 1, ascending Binary) ∷ (col 1 2, ascending Binary) ∷ []

abbrev names : List (List ℕ)
names =
    codes "holder" ∷ codes "serial" ∷ codes "mrn" ∷ codes "lrn" ∷ codes "departure" ∷ codes "destination"
    ∷ codes "accepted" ∷ codes "state" ∷ codes "limit_day" ∷ codes "arrival" ∷ codes "actual" ∷ []

insert_means_in : (more : List Table) (indexes : List Index) (views : List View) → are_still more ≡ true → MeansInsert (wider more indexes views) INSERT.now movements_table new_row
unfolding understood everything
insert_means_in more indexes views still = record { place = 3; width = 12; table = movements_there more indexes views still; command = refl; plain = (refl, refl); one = λ values. refl }

pub insert_means : (l : Layout) → MeansInsert (schema_of l) INSERT.now movements_table new_row
insert_means = in_each (λ s. MeansInsert s INSERT.now movements_table new_row) insert_means_in

set_means_in : (more : List Table) (indexes : List Index) (views : List View) → are_still more ≡ true → MeansUpdate (wider more indexes views) SET_STATUS.now movements_table key_tests set_columns
unfolding understood everything
set_means_in more indexes views still = record { place = 3; table = movements_there more indexes views still; command = refl; plain = (refl, refl) }

pub set_means : (l : Layout) → MeansUpdate (schema_of l) SET_STATUS.now movements_table key_tests set_columns
set_means = in_each (λ s. MeansUpdate s SET_STATUS.now movements_table key_tests set_columns) set_means_in

by_mrn_means_in : (more : List Table) (indexes : List Index) (views : List View) → are_still more ≡ true → MeansSelect (wider more indexes views) BY_MRN.now 4 key_tests all_columns []
unfolding understood everything
by_mrn_means_in more indexes views still = record { names = names; command = refl; plain = (refl, refl); unlisted = refl }

pub by_mrn_means : (l : Layout) → MeansSelect (schema_of l) BY_MRN.now 4 key_tests all_columns []
by_mrn_means = in_each (λ s. MeansSelect s BY_MRN.now 4 key_tests all_columns []) by_mrn_means_in

by_lrn_means_in : (more : List Table) (indexes : List Index) (views : List View) → are_still more ≡ true → MeansSelect (wider more indexes views) BY_LRN.now 4 lrn_tests all_columns []
unfolding understood everything
by_lrn_means_in more indexes views still = record { names = names; command = refl; plain = (refl, refl); unlisted = refl }

pub by_lrn_means : (l : Layout) → MeansSelect (schema_of l) BY_LRN.now 4 lrn_tests all_columns []
by_lrn_means = in_each (λ s. MeansSelect s BY_LRN.now 4 lrn_tests all_columns []) by_lrn_means_in

within_means_in : (more : List Table) (indexes : List Index) (views : List View) → are_still more ≡ true → MeansSelect (wider more indexes views) WITHIN.now 4 within_tests all_columns by_serial
unfolding understood everything
within_means_in more indexes views still = record { names = names; command = refl; plain = (refl, refl); unlisted = refl }

pub within_means : (l : Layout) → MeansSelect (schema_of l) WITHIN.now 4 within_tests all_columns by_serial
within_means = in_each (λ s. MeansSelect s WITHIN.now 4 within_tests all_columns by_serial) within_means_in

next_of_holder_means_in : (more : List Table) (indexes : List Index) (views : List View) → are_still more ≡ true → MeansSelect (wider more indexes views) NEXT_OF_HOLDER.now 4 after_tests all_columns by_serial
unfolding understood everything
next_of_holder_means_in more indexes views still = record { names = names; command = refl; plain = (refl, refl); unlisted = refl }

pub next_of_holder_means : (l : Layout) → MeansSelect (schema_of l) NEXT_OF_HOLDER.now 4 after_tests all_columns by_serial
next_of_holder_means = in_each (λ s. MeansSelect s NEXT_OF_HOLDER.now 4 after_tests all_columns by_serial) next_of_holder_means_in

of_holders_above_means_in : (more : List Table) (indexes : List Index) (views : List View) → are_still more ≡ true → MeansSelect (wider more indexes views) OF_HOLDERS_ABOVE.now 4 above_tests all_columns by_serial
unfolding understood everything
of_holders_above_means_in more indexes views still = record { names = names; command = refl; plain = (refl, refl); unlisted = refl }

pub of_holders_above_means : (l : Layout) → MeansSelect (schema_of l) OF_HOLDERS_ABOVE.now 4 above_tests all_columns by_serial
of_holders_above_means = in_each (λ s. MeansSelect s OF_HOLDERS_ABOVE.now 4 above_tests all_columns by_serial) of_holders_above_means_in

-- the columns of deadlines
abbrev pub deadline_columns : List Term
deadline_columns = col 1 1 ∷ col 1 3 ∷ col 1 8 ∷ col 1 9 ∷ col 1 10 ∷ []

abbrev deadline_names : List (List ℕ)
deadline_names = codes "holder" ∷ codes "mrn" ∷ codes "state" ∷ codes "limit_day" ∷ codes "arrival" ∷ []

deadlines_mean_in : (more : List Table) (indexes : List Index) (views : List View) → are_still more ≡ true → MeansSelect (wider more indexes views) DEADLINES.now 4 [] deadline_columns by_serial
unfolding understood everything
deadlines_mean_in more indexes views still = record { names = deadline_names; command = refl; plain = (refl, refl); unlisted = refl }

pub deadlines_mean : (l : Layout) → MeansSelect (schema_of l) DEADLINES.now 4 [] deadline_columns by_serial
deadlines_mean = in_each (λ s. MeansSelect s DEADLINES.now 4 [] deadline_columns by_serial) deadlines_mean_in

-- what a list shows
abbrev pub listed_columns : List Term
listed_columns = col 1 3 ∷ col 1 4 ∷ col 1 8 ∷ []

abbrev listed_names : List (List ℕ)
listed_names = codes "mrn" ∷ codes "lrn" ∷ codes "state" ∷ []

listed_means_in : (more : List Table) (indexes : List Index) (views : List View) → are_still more ≡ true → MeansSelect (wider more indexes views) LISTED_WITHIN.now 4 within_tests listed_columns by_serial
unfolding understood everything
listed_means_in more indexes views still = record { names = listed_names; command = refl; plain = (refl, refl); unlisted = refl }

pub listed_means : (l : Layout) → MeansSelect (schema_of l) LISTED_WITHIN.now 4 within_tests listed_columns by_serial
listed_means = in_each (λ s. MeansSelect s LISTED_WITHIN.now 4 within_tests listed_columns by_serial) listed_means_in

-- the serial alone
abbrev pub serial_column : List Term
serial_column = col 1 2 ∷ []

counting_means_in : (more : List Table) (indexes : List Index) (views : List View) → are_still more ≡ true → MeansSelect (wider more indexes views) COUNTING_SERIALS.now 4 counting_tests serial_column by_serial
unfolding understood everything
counting_means_in more indexes views still = record { names = codes "serial" ∷ []; command = refl; plain = (refl, refl); unlisted = refl }

pub counting_means : (l : Layout) → MeansSelect (schema_of l) COUNTING_SERIALS.now 4 counting_tests serial_column by_serial
counting_means = in_each (λ s. MeansSelect s COUNTING_SERIALS.now 4 counting_tests serial_column by_serial) counting_means_in
