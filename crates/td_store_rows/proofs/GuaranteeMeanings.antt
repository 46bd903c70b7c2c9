-- What the statements on the table of guarantees mean, in a store's file of each layout that has their table.
use Rattle.std.proofs.Common.{arith, refl, subst, true, false, Bool, ◌≡◌}
use Rattle.std.specs.Prelude.{ℕ, List, [], ◌∷◌, ◌++◌, codes}
use Rattle.sqlite_schema.specs.declared.schema.Index.{Index}
use Rattle.sqlite_schema.specs.declared.schema.Schema.{Schema}
use Rattle.sqlite_schema.specs.declared.schema.Table.{Table}
use Rattle.sqlite_schema.specs.declared.schema.View.{View}
use Rattle.sqlite_tied.specs.Compute.{everything}
use Rattle.sqlite.specs.Listing.{understood}
use Rattle.sqlite_value.specs.declared.keys.Collation.TheVariants.{Binary}
use Rattle.sqlite_value.specs.declared.keys.Key.{Key}
use Rattle.sqlite_value.specs.declared.value.Value.TheVariants.{Null}
use Rattle.sqlite_value.specs.Keys.{ascending}
use Rattle.sqlite_sql.specs.Term.{Term, lit, col, op2}
use Rattle.sqlite_sql.specs.declared.ops.ArithOp.{ArithOp}
use Rattle.sqlite_sql.specs.declared.ops.ArithOp.TheVariants.{Add, Sub}
use Rattle.sqlite_sql.specs.declared.ops.BinaryOp.TheVariants.{Arith, Compare, Coalesce}
use Rattle.sqlite_sql.specs.declared.ops.CompareOp.TheVariants.{Eq, Gt}
use Rattle.td_schema.proofs.Still.{none_act}
use Rattle.td_schema.proofs.Wider.{are_still, behind}
use Rattle.td_schema.specs.Layouts.{base_schema, guarantees_tree, schema_of, version_of}
use Rattle.td_schema.specs.Tables.{guarantees, guarantees2, lines}
use Rattle.td_schema.specs.declared.layout.Layout.{Layout}
use Rattle.td_schema.specs.declared.layout.Layout.TheVariants.{Made1, Made2, Grown2, Made3, Grown3From2, Grown3From1}
use Rattle.typed_sql.specs.Meanings.{HasTable, MeansDelete, MeansInsert, MeansUpdate, MeansSelect}
use Rattle.td_store_rows.specs.Columns.{guarantees_table}
use Rattle.td_store_rows.specs.GuaranteeTexts.{next_of_holder_text, within_text}
use Rattle.td_store_rows.specs.KeptTable.{first_guarantees}
use Rattle.td_store_rows.proofs.RangeTests.{within_tests}
use Rattle.td_store_rows.specs.StoreReads.{IsOfVersion, KeepsUse}
use Rattle.td_store_rows.specs.declared.guarantees.texts.TheConstants.{INSERT, SET_TERMS, ADD_USED, TAKE_USED, BY_GRN, BY_SERIAL, KEPT_WITHIN, NEXT_KEPT_OF_HOLDER, KEPT_OF_HOLDERS_ABOVE, KEPT_ALL, EMPTY_FIRST}

-- the tables up to that of guarantees, its place among them, and its tree: in a file that was made with it, and in one that
-- was made at the first version
abbrev up_to : Bool → List Table
up_to true = base_schema.tables ++ record guarantees2 { tree = 8 } ∷ []
up_to false = base_schema.tables ++ record guarantees { tree = 8 } ∷ record lines { tree = 11 } ∷ record guarantees2 { tree = 14 } ∷ []

abbrev place : Bool → ℕ
place true = 4
place false = 6

abbrev tree : Bool → ℕ
tree true = 8
tree false = 14

abbrev table : Bool → Table
table made = record guarantees2 { tree = tree made }

-- such a file, whatever tables stand behind
abbrev with_it : Bool → List Table → List Index → List View → Schema
with_it made = behind (up_to made)

-- what holds of both holds of each layout's that keeps amounts
in_kept : (P : Schema → Table → Type 0)
    → ((made : Bool) (more : List Table) (indexes : List Index) (views : List View) → are_still more ≡ true → P (with_it made more indexes views) (table made))
    → (l : Layout) → KeepsUse l → P (schema_of l) (guarantees_table l)
in_kept P holds Made1 keeps = absurd (omega (arith, keeps))
in_kept P holds Made2 keeps = holds true _ _ _ refl
in_kept P holds Grown2 keeps = holds false [] _ _ refl
in_kept P holds Made3 keeps = holds true _ _ _ refl
in_kept P holds Grown3From2 keeps = holds true _ _ _ refl
in_kept P holds Grown3From1 keeps = holds false _ _ _ refl

kept_there : (made : Bool) (more : List Table) (indexes : List Index) (views : List View) → are_still more ≡ true
    → HasTable (with_it made more indexes views) (place made) (table made)
kept_there true more indexes views still = record { there = refl; free = none_act (with_it true more indexes views) still 8 }
kept_there false more indexes views still = record { there = refl; free = none_act (with_it false more indexes views) still 14 }

-- a column is the value that was given at a place
abbrev pub equals : ℕ → ℕ → Term
equals at given = op2 (Compare Eq Binary) (col 1 at) (col 0 given)

abbrev pub grn_tests : List Term
grn_tests = equals 1 0 ∷ equals 2 1 ∷ equals 3 2 ∷ []

abbrev pub serial_tests : List Term
serial_tests = equals 1 0 ∷ equals 2 1 ∷ []

-- a column is above the value that was given at a place
abbrev pub exceeds : ℕ → ℕ → Term
exceeds at given = op2 (Compare Gt Binary) (col 1 at) (col 0 given)

abbrev pub after_tests : List Term
after_tests = equals 1 0 ∷ exceeds 2 1 ∷ []

abbrev pub above_tests : List Term
above_tests = exceeds 1 0 ∷ []

-- the columns of a new row, of a row that is set anew, and of one that is shown: with the amount in use, and without
abbrev pub new_row : List Term
new_row = lit Null ∷ col 0 0 ∷ col 0 1 ∷ col 0 2 ∷ col 0 3 ∷ col 0 4 ∷ col 0 5 ∷ col 0 6 ∷ []

abbrev pub set_columns : List Term
set_columns =
    col 1 1 ∷ col 1 2 ∷ col 1 3 ∷ op2 Coalesce (col 0 3) (col 1 4) ∷ op2 Coalesce (col 0 4) (col 1 5)
    ∷ op2 Coalesce (col 0 5) (col 1 6) ∷ col 1 7 ∷ []

abbrev pub amount_columns : ArithOp → List Term
amount_columns op = col 1 1 ∷ col 1 2 ∷ col 1 3 ∷ col 1 4 ∷ col 1 5 ∷ col 1 6 ∷ op2 (Arith op) (col 1 7) (col 0 2) ∷ []

abbrev pub all_columns : List Term
all_columns = col 1 1 ∷ col 1 2 ∷ col 1 3 ∷ col 1 4 ∷ col 1 5 ∷ col 1 6 ∷ col 1 7 ∷ []

abbrev pub six_columns : List Term
six_columns = col 1 1 ∷ col 1 2 ∷ col 1 3 ∷ col 1 4 ∷ col 1 5 ∷ col 1 6 ∷ []

abbrev pub by_serial : List (Term × Key)
by_serial = (col 1 1, ascending Binary) ∷ (col 1 2, ascending Binary) ∷ []

abbrev six : List (List ℕ)
six =
    codes "holder" ∷ codes "serial" ∷ codes "grn" ∷ codes "reference" ∷ codes "cover" ∷ codes "ends" ∷ []

abbrev seven : List (List ℕ)
seven =
    codes "holder" ∷ codes "serial" ∷ codes "grn" ∷ codes "reference" ∷ codes "cover" ∷ codes "ends" ∷ codes "used" ∷ []

insert_means_in : (made : Bool) (more : List Table) (indexes : List Index) (views : List View) → are_still more ≡ true
    → MeansInsert (with_it made more indexes views) INSERT.now (table made) new_row
unfolding understood everything
insert_means_in true more indexes views still = record { place = 4; width = 8; table = kept_there true more indexes views still; command = refl; plain = (refl, refl); one = λ values. refl }
insert_means_in false more indexes views still = record { place = 6; width = 8; table = kept_there false more indexes views still; command = refl; plain = (refl, refl); one = λ values. refl }

pub insert_means : (l : Layout) → KeepsUse l → MeansInsert (schema_of l) INSERT.now (guarantees_table l) new_row
insert_means = in_kept (λ s t. MeansInsert s INSERT.now t new_row) insert_means_in

set_means_in : (made : Bool) (more : List Table) (indexes : List Index) (views : List View) → are_still more ≡ true
    → MeansUpdate (with_it made more indexes views) SET_TERMS.now (table made) grn_tests set_columns
unfolding understood everything
set_means_in true more indexes views still = record { place = 4; table = kept_there true more indexes views still; command = refl; plain = (refl, refl) }
set_means_in false more indexes views still = record { place = 6; table = kept_there false more indexes views still; command = refl; plain = (refl, refl) }

pub set_means : (l : Layout) → KeepsUse l → MeansUpdate (schema_of l) SET_TERMS.now (guarantees_table l) grn_tests set_columns
set_means = in_kept (λ s t. MeansUpdate s SET_TERMS.now t grn_tests set_columns) set_means_in

add_means_in : (made : Bool) (more : List Table) (indexes : List Index) (views : List View) → are_still more ≡ true
    → MeansUpdate (with_it made more indexes views) ADD_USED.now (table made) serial_tests (amount_columns Add)
unfolding understood everything
add_means_in true more indexes views still = record { place = 4; table = kept_there true more indexes views still; command = refl; plain = (refl, refl) }
add_means_in false more indexes views still = record { place = 6; table = kept_there false more indexes views still; command = refl; plain = (refl, refl) }

pub add_means : (l : Layout) → KeepsUse l → MeansUpdate (schema_of l) ADD_USED.now (guarantees_table l) serial_tests (amount_columns Add)
add_means = in_kept (λ s t. MeansUpdate s ADD_USED.now t serial_tests (amount_columns Add)) add_means_in

take_means_in : (made : Bool) (more : List Table) (indexes : List Index) (views : List View) → are_still more ≡ true
    → MeansUpdate (with_it made more indexes views) TAKE_USED.now (table made) serial_tests (amount_columns Sub)
unfolding understood everything
take_means_in true more indexes views still = record { place = 4; table = kept_there true more indexes views still; command = refl; plain = (refl, refl) }
take_means_in false more indexes views still = record { place = 6; table = kept_there false more indexes views still; command = refl; plain = (refl, refl) }

pub take_means : (l : Layout) → KeepsUse l → MeansUpdate (schema_of l) TAKE_USED.now (guarantees_table l) serial_tests (amount_columns Sub)
take_means = in_kept (λ s t. MeansUpdate s TAKE_USED.now t serial_tests (amount_columns Sub)) take_means_in

by_grn_means_in : (made : Bool) (more : List Table) (indexes : List Index) (views : List View) → are_still more ≡ true
    → MeansSelect (with_it made more indexes views) BY_GRN.now (tree made) grn_tests all_columns []
unfolding understood everything
by_grn_means_in true more indexes views still = record { names = seven; command = refl; plain = (refl, refl); unlisted = refl }
by_grn_means_in false more indexes views still = record { names = seven; command = refl; plain = (refl, refl); unlisted = refl }

pub by_grn_means : (l : Layout) → KeepsUse l → MeansSelect (schema_of l) BY_GRN.now (guarantees_tree l) grn_tests all_columns []
by_grn_means = in_kept (λ s t. MeansSelect s BY_GRN.now t.tree grn_tests all_columns []) by_grn_means_in

by_serial_means_in : (made : Bool) (more : List Table) (indexes : List Index) (views : List View) → are_still more ≡ true
    → MeansSelect (with_it made more indexes views) BY_SERIAL.now (tree made) serial_tests six_columns []
unfolding understood everything
by_serial_means_in true more indexes views still = record { names = six; command = refl; plain = (refl, refl); unlisted = refl }
by_serial_means_in false more indexes views still = record { names = six; command = refl; plain = (refl, refl); unlisted = refl }

pub by_serial_means : (l : Layout) → KeepsUse l → MeansSelect (schema_of l) BY_SERIAL.now (guarantees_tree l) serial_tests six_columns []
by_serial_means = in_kept (λ s t. MeansSelect s BY_SERIAL.now t.tree serial_tests six_columns []) by_serial_means_in

kept_within_means_in : (made : Bool) (more : List Table) (indexes : List Index) (views : List View) → are_still more ≡ true
    → MeansSelect (with_it made more indexes views) KEPT_WITHIN.now (tree made) within_tests all_columns by_serial
unfolding understood everything
kept_within_means_in true more indexes views still = record { names = seven; command = refl; plain = (refl, refl); unlisted = refl }
kept_within_means_in false more indexes views still = record { names = seven; command = refl; plain = (refl, refl); unlisted = refl }

pub kept_within_means : (l : Layout) → KeepsUse l → MeansSelect (schema_of l) KEPT_WITHIN.now (guarantees_tree l) within_tests all_columns by_serial
kept_within_means = in_kept (λ s t. MeansSelect s KEPT_WITHIN.now t.tree within_tests all_columns by_serial) kept_within_means_in

next_kept_of_holder_means_in : (made : Bool) (more : List Table) (indexes : List Index) (views : List View) → are_still more ≡ true
    → MeansSelect (with_it made more indexes views) NEXT_KEPT_OF_HOLDER.now (tree made) after_tests all_columns by_serial
unfolding understood everything
next_kept_of_holder_means_in true more indexes views still = record { names = seven; command = refl; plain = (refl, refl); unlisted = refl }
next_kept_of_holder_means_in false more indexes views still = record { names = seven; command = refl; plain = (refl, refl); unlisted = refl }

pub next_kept_of_holder_means : (l : Layout) → KeepsUse l → MeansSelect (schema_of l) NEXT_KEPT_OF_HOLDER.now (guarantees_tree l) after_tests all_columns by_serial
next_kept_of_holder_means = in_kept (λ s t. MeansSelect s NEXT_KEPT_OF_HOLDER.now t.tree after_tests all_columns by_serial) next_kept_of_holder_means_in

kept_of_holders_above_means_in : (made : Bool) (more : List Table) (indexes : List Index) (views : List View) → are_still more ≡ true
    → MeansSelect (with_it made more indexes views) KEPT_OF_HOLDERS_ABOVE.now (tree made) above_tests all_columns by_serial
unfolding understood everything
kept_of_holders_above_means_in true more indexes views still = record { names = seven; command = refl; plain = (refl, refl); unlisted = refl }
kept_of_holders_above_means_in false more indexes views still = record { names = seven; command = refl; plain = (refl, refl); unlisted = refl }

pub kept_of_holders_above_means : (l : Layout) → KeepsUse l → MeansSelect (schema_of l) KEPT_OF_HOLDERS_ABOVE.now (guarantees_tree l) above_tests all_columns by_serial
kept_of_holders_above_means = in_kept (λ s t. MeansSelect s KEPT_OF_HOLDERS_ABOVE.now t.tree above_tests all_columns by_serial) kept_of_holders_above_means_in

kept_all_means_in : (made : Bool) (more : List Table) (indexes : List Index) (views : List View) → are_still more ≡ true
    → MeansSelect (with_it made more indexes views) KEPT_ALL.now (tree made) [] all_columns by_serial
unfolding understood everything
kept_all_means_in true more indexes views still = record { names = seven; command = refl; plain = (refl, refl); unlisted = refl }
kept_all_means_in false more indexes views still = record { names = seven; command = refl; plain = (refl, refl); unlisted = refl }

pub kept_all_means : (l : Layout) → KeepsUse l → MeansSelect (schema_of l) KEPT_ALL.now (guarantees_tree l) [] all_columns by_serial
kept_all_means = in_kept (λ s t. MeansSelect s KEPT_ALL.now t.tree [] all_columns by_serial) kept_all_means_in

within_at : (l : Layout) → MeansSelect (schema_of l) (within_text (version_of l)) (guarantees_tree l) within_tests six_columns by_serial
unfolding understood everything
within_at Made1 = record { names = six; command = refl; plain = (refl, refl); unlisted = refl }
within_at Made2 = record { names = six; command = refl; plain = (refl, refl); unlisted = refl }
within_at Grown2 = record { names = six; command = refl; plain = (refl, refl); unlisted = refl }
within_at Made3 = record { names = six; command = refl; plain = (refl, refl); unlisted = refl }
within_at Grown3From2 = record { names = six; command = refl; plain = (refl, refl); unlisted = refl }
within_at Grown3From1 = record { names = six; command = refl; plain = (refl, refl); unlisted = refl }

pub within_means : (version : ℕ) (l : Layout) → IsOfVersion version l
    → MeansSelect (schema_of l) (within_text version) (guarantees_tree l) within_tests six_columns by_serial
within_means version l is =
    subst (λ v. MeansSelect (schema_of l) (within_text v) (guarantees_tree l) within_tests six_columns by_serial) is (within_at l)

next_of_holder_at : (l : Layout) → MeansSelect (schema_of l) (next_of_holder_text (version_of l)) (guarantees_tree l) after_tests six_columns by_serial
unfolding understood everything
next_of_holder_at Made1 = record { names = six; command = refl; plain = (refl, refl); unlisted = refl }
next_of_holder_at Made2 = record { names = six; command = refl; plain = (refl, refl); unlisted = refl }
next_of_holder_at Grown2 = record { names = six; command = refl; plain = (refl, refl); unlisted = refl }
next_of_holder_at Made3 = record { names = six; command = refl; plain = (refl, refl); unlisted = refl }
next_of_holder_at Grown3From2 = record { names = six; command = refl; plain = (refl, refl); unlisted = refl }
next_of_holder_at Grown3From1 = record { names = six; command = refl; plain = (refl, refl); unlisted = refl }

pub next_of_holder_means : (version : ℕ) (l : Layout) → IsOfVersion version l
    → MeansSelect (schema_of l) (next_of_holder_text version) (guarantees_tree l) after_tests six_columns by_serial
next_of_holder_means version l is =
    subst (λ v. MeansSelect (schema_of l) (next_of_holder_text v) (guarantees_tree l) after_tests six_columns by_serial) is (next_of_holder_at l)

pub empty_means : MeansDelete (schema_of Grown2) EMPTY_FIRST.now first_guarantees []
unfolding understood everything
empty_means = record { place = 4; table = record { there = refl; free = none_act (schema_of Grown2) refl 8 }; command = refl; plain = (refl, refl) }
