-- What the statements on the table of holders mean, in a store's file of each layout.
use Rattle.std.proofs.Common.{refl, true, ◌≡◌}
use Rattle.std.specs.Prelude.{List, [], ◌∷◌, ℕ, codes}
use Rattle.sqlite_schema.specs.declared.schema.Index.{Index}
use Rattle.sqlite_schema.specs.declared.schema.Table.{Table}
use Rattle.sqlite_schema.specs.declared.schema.View.{View}
use Rattle.td_schema.proofs.Wider.{are_still, wider}
use Rattle.td_schema.proofs.Still.{none_act}
use Rattle.td_schema.proofs.InEach.{in_each}
use Rattle.sqlite_tied.specs.Compute.{everything}
use Rattle.sqlite.specs.Listing.{understood}
use Rattle.sqlite_value.specs.declared.keys.Collation.TheVariants.{Binary}
use Rattle.sqlite_value.specs.declared.value.Value.TheVariants.{Null}
use Rattle.sqlite_sql.specs.Term.{Term, lit, col, op2}
use Rattle.sqlite_sql.specs.declared.ops.BinaryOp.TheVariants.{Compare}
use Rattle.sqlite_sql.specs.declared.ops.CompareOp.TheVariants.{Eq}
use Rattle.td_schema.specs.Layouts.{schema_of}
use Rattle.td_schema.specs.declared.layout.Layout.{Layout}
use Rattle.typed_sql.specs.Meanings.{HasTable, MeansInsert, MeansUpdate, MeansSelect}
use Rattle.td_store_rows.specs.Columns.{holders_table}
use Rattle.td_store_rows.specs.declared.holders.texts.TheConstants.{INSERT, SET, BY_NUMBER}

holders_there : (more : List Table) (indexes : List Index) (views : List View) → are_still more ≡ true → HasTable (wider more indexes views) 1 holders_table
holders_there more indexes views still = record { there = refl; free = none_act (wider more indexes views) still 1 }

-- the number is the value that was given first
abbrev pub number_tests : List Term
number_tests = op2 (Compare Eq Binary) (col 1 0) (col 0 0) ∷ []

-- the columns of a new row, of a row that is set anew, and of one that is shown
abbrev pub new_row : List Term
new_row = col 0 0 ∷ lit Null ∷ col 0 1 ∷ col 0 2 ∷ col 0 3 ∷ col 0 4 ∷ []

abbrev pub set_columns : List Term
set_columns = lit Null ∷ col 0 1 ∷ col 0 2 ∷ col 0 3 ∷ col 0 4 ∷ []

abbrev pub all_columns : List Term
all_columns = col 1 0 ∷ col 1 2 ∷ col 1 3 ∷ col 1 4 ∷ col 1 5 ∷ []

abbrev pub names : List (List ℕ)
names = codes "holder" ∷ codes "eori" ∷ codes "last_at" ∷ codes "grn_count" ∷ codes "mrn_count" ∷ []

insert_means_in : (more : List Table) (indexes : List Index) (views : List View) → are_still more ≡ true → MeansInsert (wider more indexes views) INSERT.now holders_table new_row
unfolding understood everything
insert_means_in more indexes views still = record { place = 1; width = 6; table = holders_there more indexes views still; command = refl; plain = (refl, refl); one = λ values. refl }

pub insert_means : (l : Layout) → MeansInsert (schema_of l) INSERT.now holders_table new_row
insert_means = in_each (λ s. MeansInsert s INSERT.now holders_table new_row) insert_means_in

set_means_in : (more : List Table) (indexes : List Index) (views : List View) → are_still more ≡ true → MeansUpdate (wider more indexes views) SET.now holders_table number_tests set_columns
unfolding understood everything
set_means_in more indexes views still = record { place = 1; table = holders_there more indexes views still; command = refl; plain = (refl, refl) }

pub set_means : (l : Layout) → MeansUpdate (schema_of l) SET.now holders_table number_tests set_columns
set_means = in_each (λ s. MeansUpdate s SET.now holders_table number_tests set_columns) set_means_in

by_number_means_in : (more : List Table) (indexes : List Index) (views : List View) → are_still more ≡ true → MeansSelect (wider more indexes views) BY_NUMBER.now 1 number_tests all_columns []
unfolding understood everything
by_number_means_in more indexes views still = record { names = names; command = refl; plain = (refl, refl); unlisted = refl }

pub by_number_means : (l : Layout) → MeansSelect (schema_of l) BY_NUMBER.now 1 number_tests all_columns []
by_number_means = in_each (λ s. MeansSelect s BY_NUMBER.now 1 number_tests all_columns []) by_number_means_in
