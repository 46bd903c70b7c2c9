-- What the statements on the table of holders did to its typed rows, and what they showed.
use Rattle.std.proofs.Common.{◌≡◌, ℕ, pos, Bool, true, false, [], ◌∷◌, map, refl, subst, ap, ap₂, ◌∙◌, arith}
use Rattle.std.specs.Prelude.{◌==◌, ◌&&◌, if◌then◌else◌}
use Rattle.std.proofs.lemmas.Bool.Decides.{nat_tests}
use Rattle.sqlite_value.specs.declared.value.Value.TheVariants.{Int, Null, Text}
use Rattle.sqlite_value.specs.Order.{Row, column}
use Rattle.sqlite_trees.specs.Tree.{rowid}
use Rattle.sqlite_sql.specs.Term.{eval_all}
use Rattle.sqlite.specs.State.{State}
use Rattle.td_model.specs.declared.holder_row.HolderRow.{HolderRow}
use Rattle.td_table_model.specs.Changes.{with_row}
use Rattle.td_schema.specs.Layouts.{schema_of}
use Rattle.typed_sql.specs.Typed.{HasNow, IsTypedRow, row_of, typed_rows}
use Rattle.typed_sql.specs.Values.{number_value}
use Rattle.typed_sql.specs.Writing.{Inserts, Updates, columns_put, columns_set, passes}
use Rattle.typed_sql.proofs.Columns.{cast_null, number_is}
use Rattle.typed_sql.proofs.Effects.{cast_int}
use Rattle.typed_sql.proofs.TypedRows.{inserted_typed_under, updated_typed}
use Rattle.td_store_rows.specs.declared.holders.texts.TheConstants.{INSERT, SET}
use Rattle.td_store_rows.specs.Columns.{holder_columns, holder_cells, holder_typing, holders_table}
use Rattle.td_store_rows.specs.HolderTable.{TurnsHolders}
use Rattle.td_store_rows.proofs.HolderMeanings.{new_row, set_columns, number_tests, insert_means, set_means}

-- the columns that are stored: the number is kept in the rowid
abbrev stored : HolderRow → Row
stored row = Null ∷ Text row.eori ∷ number_value row.last_at ∷ number_value row.grn_count ∷ number_value row.mrn_count ∷ []

put_columns : (row : HolderRow) → columns_put holders_table new_row (holder_cells row) ≡ stored row
put_columns row =
    ap₂ ◌∷◌ cast_null (ap (λ l. Text row.eori ∷ l) (ap₂ ◌∷◌ (cast_int (pos row.last_at)) (ap₂ ◌∷◌ (cast_int (pos row.grn_count)) (ap₂ ◌∷◌ (cast_int (pos row.mrn_count)) refl))))

pub inserted : (row : HolderRow) (old new : State) → Inserts INSERT.now (holder_cells row) old new → TurnsHolders (λ rows. row ∷ rows) old new
inserted row old new did layout has typed =
    let h = did (schema_of layout) holders_table new_row has (insert_means layout) in
    let id : h.id ≡ pos row.holder = h.given (pos row.holder) refl in
    inserted_typed_under holder_typing (schema_of layout) (eval_all new_row (holder_cells row ∷ [])) (columns_put holders_table new_row (holder_cells row)) row old.now new.now h
    (ap (λ l. holder_columns (Int h.id ∷ l)) (put_columns row) ∙ ap (λ n. holder_columns (Int n ∷ stored row)) id) refl typed

-- the row under the number that it has
abbrev anew : HolderRow → HolderRow → HolderRow
anew row h = record row { holder = h.holder }

-- one test is all tests
and_true : (b : Bool) → (b && true) ≡ b
and_true true = refl
and_true false = refl

-- a row passes where it has the number
pub passes_number : (H : ℕ) (rest r : Row) → IsTypedRow holder_typing r → passes (number_value H ∷ rest) number_tests r ≡ ((row_of holder_typing r).holder == H)
passes_number H rest r is =
    ap (λ b. b && true) (number_is (column r 0) (row_of holder_typing r).holder H (ap (λ l. column l 0) is)) ∙ and_true ((row_of holder_typing r).holder == H)

-- the row that is set is the one that was given
set_is : (row x : HolderRow) → (if x.holder == row.holder then anew row x else x) ≡ with_row row x
set_is row x = by_test (x.holder == row.holder) refl
  where
    by_test : (b : Bool) → (x.holder == row.holder) ≡ b → (if b then anew row x else x) ≡ (if b then row else x)
    by_test true same = ap (λ n. record row { holder = n }) (grind (arith, nat_tests, same))
    by_test false other = refl

pub set_anew : (row : HolderRow) (old new : State) → Updates SET.now (holder_cells row) old new → TurnsHolders (map (with_row row)) old new
set_anew row old new did layout has typed =
    subst (λ rows. HasNow holder_typing (schema_of layout) rows old.now new.now) (λ i. map (λ x. set_is row x i) (typed_rows holder_typing old.now.trees))
    (updated_typed holder_typing (schema_of layout) (passes (holder_cells row) number_tests) (columns_set holders_table set_columns (holder_cells row)) (λ h. h.holder == row.holder) (anew row) old.now new.now
    (λ r is. passes_number row.holder (Text row.eori ∷ number_value row.last_at ∷ number_value row.grn_count ∷ number_value row.mrn_count ∷ []) r is)
    (λ r is. ap (λ l. holder_columns (rowid r ∷ l)) (put_columns row) ∙ ap (λ v. v ∷ Text row.eori ∷ number_value row.last_at ∷ number_value row.grn_count ∷ number_value row.mrn_count ∷ []) (ap (λ l. column l 0) is))
    (λ r. refl)
    (did (schema_of layout) holders_table number_tests set_columns has (set_means layout) typed.ids) typed)
