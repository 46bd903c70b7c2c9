-- What the statements on the table of codes mean, in a store's file of each layout.
use Rattle.std.proofs.Common.{refl, true, ◌≡◌}
use Rattle.std.specs.Prelude.{ℕ, List, [], ◌∷◌, codes}
use Rattle.sqlite_schema.specs.declared.schema.Index.{Index}
use Rattle.sqlite_schema.specs.declared.schema.Table.{Table}
use Rattle.sqlite_schema.specs.declared.schema.View.{View}
use Rattle.td_schema.proofs.Wider.{are_still, wider}
use Rattle.td_schema.proofs.Still.{none_act}
use Rattle.td_schema.proofs.InEach.{in_each}
use Rattle.sqlite_tied.specs.Compute.{everything}
use Rattle.sqlite.specs.Listing.{understood}
use Rattle.sqlite_value.specs.declared.keys.Collation.TheVariants.{Binary}
use Rattle.sqlite_value.specs.declared.keys.Key.{Key}
use Rattle.sqlite_value.specs.declared.value.Value.TheVariants.{Null}
use Rattle.sqlite_value.specs.Keys.{ascending}
use Rattle.sqlite_sql.specs.Term.{Term, lit, col, op2}
use Rattle.sqlite_sql.specs.declared.ops.BinaryOp.TheVariants.{Compare}
use Rattle.sqlite_sql.specs.declared.ops.CompareOp.TheVariants.{Eq}
use Rattle.td_schema.specs.Layouts.{schema_of}
use Rattle.td_schema.specs.declared.layout.Layout.{Layout}
use Rattle.typed_sql.specs.Meanings.{HasTable, MeansInsert, MeansDelete, MeansSelect}
use Rattle.td_store_rows.specs.Columns.{stored_table}
use Rattle.td_store_rows.specs.declared.codes.texts.TheConstants.{INSERT, DELETE, OF_GUARANTEE}

codes_there : (more : List Table) (indexes : List Index) (views : List View) → are_still more ≡ true → HasTable (wider more indexes views) 2 stored_table
codes_there more indexes views still = record { there = refl; free = none_act (wider more indexes views) still 2 }

-- the holder and the serial are those that were given
abbrev pub key_tests : List Term
key_tests = op2 (Compare Eq Binary) (col 1 1) (col 0 0) ∷ op2 (Compare Eq Binary) (col 1 2) (col 0 1) ∷ []

-- the columns of a new row, and of one that is shown
abbrev pub new_row : List Term
new_row = lit Null ∷ col 0 0 ∷ col 0 1 ∷ col 0 2 ∷ []

abbrev pub all_columns : List Term
all_columns = col 1 1 ∷ col 1 2 ∷ col 1 3 ∷ []

abbrev pub by_code : List (Term × Key)
by_code = (col 1 1, ascending Binary) ∷ (col 1 2, ascending Binary) ∷ (col 1 3, ascending Binary) ∷ []

abbrev names : List (List ℕ)
names = codes "holder" ∷ codes "serial" ∷ codes "code" ∷ []

insert_means_in : (more : List Table) (indexes : List Index) (views : List View) → are_still more ≡ true → MeansInsert (wider more indexes views) INSERT.now stored_table new_row
unfolding understood everything
insert_means_in more indexes views still = record { place = 2; width = 4; table = codes_there more indexes views still; command = refl; plain = (refl, refl); one = λ values. refl }

pub insert_means : (l : Layout) → MeansInsert (schema_of l) INSERT.now stored_table new_row
insert_means = in_each (λ s. MeansInsert s INSERT.now stored_table new_row) insert_means_in

-- and the code
abbrev pub code_tests : List Term
code_tests = op2 (Compare Eq Binary) (col 1 1) (col 0 0) ∷ op2 (Compare Eq Binary) (col 1 2) (col 0 1)
    ∷ op2 (Compare Eq Binary) (col 1 3) (col 0 2) ∷ []

delete_means_in : (more : List Table) (indexes : List Index) (views : List View) → are_still more ≡ true → MeansDelete (wider more indexes views) DELETE.now stored_table code_tests
unfolding understood everything
delete_means_in more indexes views still = record { place = 2; table = codes_there more indexes views still; command = refl; plain = (refl, refl) }

pub delete_means : (l : Layout) → MeansDelete (schema_of l) DELETE.now stored_table code_tests
delete_means = in_each (λ s. MeansDelete s DELETE.now stored_table code_tests) delete_means_in

of_guarantee_means_in : (more : List Table) (indexes : List Index) (views : List View) → are_still more ≡ true → MeansSelect (wider more indexes views) OF_GUARANTEE.now 2 key_tests all_columns by_code
unfolding understood everything
of_guarantee_means_in more indexes views still = record { names = names; command = refl; plain = (refl, refl); unlisted = refl }

pub of_guarantee_means : (l : Layout) → MeansSelect (schema_of l) OF_GUARANTEE.now 2 key_tests all_columns by_code
of_guarantee_means = in_each (λ s. MeansSelect s OF_GUARANTEE.now 2 key_tests all_columns by_code) of_guarantee_means_in
