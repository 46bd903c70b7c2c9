-- What the statements on the table of lines did.
use Rattle.sqlite.specs.State.{State}
use Rattle.std.proofs.Common.{subst, IsPermutation, List, [], ap, map, nat_cmp, refl, ℕ, ◌∷◌, ◌≡◌, ◌∙◌}
use Rattle.std.specs.Prelude.{pos, ◌==◌}
use Rattle.sqlite_typed.proofs.TestLemmas.{last_term, then_term, then_value}
use Rattle.typed_sql.proofs.Effects.{cast_int}
use Rattle.td_store_rows.proofs.LineMeanings.{by_number, guarantee_tests, insert_means, key_tests, new_row}
use Rattle.sqlite_rules.specs.Cast.{cast_all}
use Rattle.sqlite_sql.specs.Term.{eval_all}
use Rattle.sqlite_value.specs.Order.{Row, column}
use Rattle.typed_sql.specs.Reading.{row_order}
use Rattle.td_store_rows.specs.declared.lines.stored.StoredLine.{StoredLine}
use Rattle.td_store_rows.specs.Columns.{line_cells, line_from, line_typing, lines_table}
use Rattle.td_store_rows.specs.LineTable.{AreByNumber, AreLines, TurnsLines, is_line_of, is_line_on, line_rows_in, line_row_of}
use Rattle.td_store_rows.specs.declared.lines.texts.TheConstants.{INSERT}
use Rattle.td_schema.specs.Layouts.{HasMoreLines, schema_of}
use Rattle.td_schema.specs.declared.layout.Layout.{Layout}
use Rattle.td_schema.specs.declared.layout.Layout.TheVariants.{Made1, Made2, Grown2, Made3, Grown3From2, Grown3From1}
use Rattle.typed_sql.proofs.Columns.{number_is}
use Rattle.typed_sql.proofs.Ordered.{Passes, both_pass, by_third, numbers_compared}
use Rattle.td_table_model.proofs.Counting.{filter_both}
use Rattle.td_table_model.proofs.Orders.{sorted_is_order}
use Rattle.td_table_model.specs.Gathering.{no_of, place}
use Rattle.typed_sql.proofs.TypedRows.{inserted_typed}
use Rattle.typed_sql.specs.Typed.{AreInOrder, IsTypedRow, row_of, typed_rows}
use Rattle.typed_sql.specs.Values.{number_value}
use Rattle.typed_sql.specs.Writing.{Inserts, IsInserted, passes}
use Rattle.td_table_model.specs.Tables.{Keyed, LineCells}

back : (l : Keyed LineCells) → line_from (line_cells l) ≡ l
back l = refl

-- the columns are those of the first table of lines, whatever the layout
columns_are : (l : Layout) → (lines_table l).columns ≡ (lines_table Made1).columns
columns_are Made1 = refl
columns_are Made2 = refl
columns_are Grown2 = refl
columns_are Made3 = refl
columns_are Grown3From2 = refl
columns_are Grown3From1 = refl

cells_stored : (l : Layout) (line : Keyed LineCells) → cast_all (lines_table l).columns (line_cells line) ≡ line_cells line
cells_stored l line =
    ap (λ columns. cast_all columns (line_cells line)) (columns_are l)
    ∙ then_value (cast_int (pos line.holder))
    (then_value (cast_int (pos line.serial)) (then_value (cast_int (pos line.row.no))
    (then_value (cast_int (pos line.row.guarantee)) (then_value (cast_int (pos line.row.cents)) refl))))

pub inserted : (line : Keyed LineCells) (values : Row) → values ≡ line_cells line → (old new : State)
    → Inserts INSERT.now values old new
    → TurnsLines (λ rows. line ∷ rows) old new
inserted line values is old new h l more has typed =
    let did : Inserts INSERT.now (line_cells line) old new = subst (λ v. Inserts INSERT.now v old new) is h in
    let done = did (schema_of l) (lines_table l) new_row has (insert_means l more) in
    inserted_typed (line_typing l) (schema_of l) (eval_all new_row (line_cells line ∷ [])) (line_cells line) line old.now new.now
    (λ id. refl) (back line)
    (subst (λ c. IsInserted (schema_of l) (lines_table l) (eval_all new_row (line_cells line ∷ [])) c old.now new.now)
    (cells_stored l line) done) typed

-- a row passes where it is of the movement
pub key_passes : (l : Layout) (H n : ℕ) (r : Row) → IsTypedRow (line_typing l) r
    → passes (number_value H ∷ number_value n ∷ []) key_tests r ≡ is_line_of H n (row_of (line_typing l) r)
key_passes l H n r is =
    then_term (number_is (column r 1) (row_of (line_typing l) r).holder H (ap (λ c. column c 0) is))
    (last_term (number_is (column r 2) (row_of (line_typing l) r).serial n (ap (λ c. column c 1) is)))

-- a row passes where it is on the guarantee
pub guarantee_passes : (l : Layout) (H n : ℕ) (r : Row) → IsTypedRow (line_typing l) r
    → passes (number_value H ∷ number_value n ∷ []) guarantee_tests r ≡ is_line_on H n (row_of (line_typing l) r)
guarantee_passes l H n r is =
    then_term (number_is (column r 1) (row_of (line_typing l) r).holder H (ap (λ c. column c 0) is))
    (last_term (number_is (column r 4) (row_of (line_typing l) r).row.guarantee n (ap (λ c. column c 3) is)))

-- the lines of one movement are compared by their numbers
pub compared : (l : Layout) (H n : ℕ) (a b : Row) → Passes (line_typing l) (is_line_of H n) a → Passes (line_typing l) (is_line_of H n) b
    → row_order by_number (number_value H ∷ number_value n ∷ []) a b
    ≡ nat_cmp (no_of (row_of (line_typing l) a)) (no_of (row_of (line_typing l) b))
compared l H n =
    by_third (line_typing l) (is_line_of H n) (λ line. line.holder) H (λ r is. ap (λ c. column c 0) is)
    (λ line passes. (both_pass (line.holder == H) (line.serial == n) passes).0) (number_value H ∷ number_value n ∷ [])
    (λ line. line.serial) n (λ r is. ap (λ c. column c 1) is)
    (λ line passes. (both_pass (line.holder == H) (line.serial == n) passes).1) (λ x y. nat_cmp (no_of x) (no_of y))
    (λ a b is other. numbers_compared (column a 3) (column b 3) (no_of (row_of (line_typing l) a))
    (no_of (row_of (line_typing l) b)) (ap (λ c. column c 2) is) (ap (λ c. column c 2) other))

-- so those that were fetched are they by their numbers
pub by_numbers : (H n : ℕ) (old : State) (found : List StoredLine) → AreLines (is_line_of H n) old found
    → ((l : Layout) → HasMoreLines l → AreInOrder (line_typing l) (schema_of l) (λ a b. nat_cmp (no_of a) (no_of b)) old (map line_row_of found))
    → AreByNumber H n old found
by_numbers H n old found those sorted l more has typed apart =
    sorted_is_order no_of (map line_row_of found) (line_rows_in l H n old.now.trees)
    (subst (λ rows. IsPermutation rows (map line_row_of found))
    (filter_both (λ line. place line == n) (λ line. line.holder == H) (typed_rows (line_typing l) old.now.trees)) (those l more has typed))
    (sorted l more has typed) apart
