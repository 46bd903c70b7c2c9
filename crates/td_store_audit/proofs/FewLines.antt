-- The CHECK of a line's number below version 3 read backward: it is from 1 to 9, so that a movement has at most nine
-- lines.
use Rattle.std.proofs.Common.{◌≡◌, ◌∙◌, ℕ, Bool, true, false, true≢false, List, [], ◌∷◌, refl, sym, ap, arith}
use Rattle.std.specs.Prelude.{◌==◌, int_le, not, pos, ◌&&◌}
use Rattle.std.specs.List.{AllByRecursion}
use Rattle.std.proofs.lemmas.Int.{ints}
use Rattle.sqlite_value.specs.declared.keys.Collation.TheVariants.{Binary}
use Rattle.sqlite_value.specs.declared.value.Value.TheVariants.{Int}
use Rattle.sqlite_value.specs.Order.{Row, column}
use Rattle.sqlite_schema.specs.declared.schema.Constraint.TheVariants.{Check}
use Rattle.sqlite_schema.specs.declared.schema.Schema.{Schema}
use Rattle.sqlite_schema.specs.declared.schema.Table.{Table}
use Rattle.sqlite_schema.specs.Rules.{Obeys, passes, passes_checks}
use Rattle.sqlite_sql.specs.declared.ops.BinaryOp.TheVariants.{And, Compare}
use Rattle.sqlite_sql.specs.declared.ops.CompareOp.TheVariants.{Ge, Le}
use Rattle.sqlite_sql.specs.Ops.{binary, is_false}
use Rattle.sqlite_sql.specs.Term.{Term, eval}
use Rattle.sqlite_trees.specs.Tree.{Trees}
use Rattle.sqlite_trees.proofs.ListLemmas.{all-filter, all-map, all_both, all_weaker}
use Rattle.sqlite_typed.proofs.TestLemmas.{at_and, at_ints, truth_or}
use Rattle.td_schema.specs.Layouts.{HasFewLines, lines_tree, schema_of}
use Rattle.td_schema.specs.Tables.{between, lines}
use Rattle.td_schema.specs.declared.layout.Layout.{Layout}
use Rattle.td_schema.specs.declared.layout.Layout.TheVariants.{Made1, Made2, Grown2, Made3, Grown3From2, Grown3From1}
use Rattle.td_table_model.specs.Gathering.{no_of, of_key, owner, part, place}
use Rattle.td_table_model.specs.Tables.{Keyed, LineCells}
use Rattle.typed_sql.specs.Typed.{IsTypedRow, row_of, typed_rows}
use Rattle.typed_sql.specs.Values.{number_value}
use Rattle.td_store_rows.specs.Columns.{line_typing}
use Rattle.td_store_rows.specs.StoreTables.{tables_in}
use Rattle.td_store_audit_rows.specs.Ids.{HaveAllIds}
use Rattle.td_store_audit_rows.specs.Untyped.{AllRows}
use Rattle.td_store_audit.specs.Keeping.{HaveNineLines, IsOneOfNine}
use Rattle.td_store_audit.proofs.FewKeys.{not_more}
use Rattle.td_store_audit.proofs.Ruled.{both}
use Rattle.td_store_audit.proofs.Tables.{lines_kept}

-- the CHECK of the number holds of the row
abbrev IsChecked : Row → Type 0
IsChecked row =
    truth_or true (binary And (binary (Compare Ge Binary) (column row 3) (Int (pos 1))) (binary (Compare Le Binary) (column row 3) (Int (pos 9)))) ≡ true

first_check : (row : Row) → passes_checks lines row ≡ true → IsChecked row
first_check row is =
    twice (truth_or true (eval (between 3 1 9) ([] ∷ row ∷ []))) (both (free (between 3 1 9)) (free (between 5 1 1000000000000) && true) is).0
  where
    free : Term → Bool
    free t = not (is_false (eval t ([] ∷ row ∷ [])))

    twice : (b : Bool) → not (not b) ≡ true → b ≡ true
    twice true is = refl
    twice false is = absurd (true≢false (sym is))

module _ (s : Schema) (trees : Trees) (tree : ℕ) where
  abbrev t : Table
  t = record lines { tree = tree }

  rows_checked : AllByRecursion (λ row. passes Check s trees t row ≡ true) (trees tree) → AllByRecursion IsChecked (trees tree)
  rows_checked each = all_weaker (λ row. passes Check s trees t row ≡ true) IsChecked (λ row is. first_check row is) (trees tree) each

-- so it does in a file below version 3
all_checked : (l : Layout) (trees : Trees) → Obeys (schema_of l) trees → HasFewLines l → AllByRecursion IsChecked (trees (lines_tree l))
all_checked Made1 trees obeys few = rows_checked (schema_of Made1) trees (lines_tree Made1) (obeys.rules Check).1.1.1.1.1.0
all_checked Made2 trees obeys few = rows_checked (schema_of Made2) trees (lines_tree Made2) (obeys.rules Check).1.1.1.1.1.0
all_checked Grown2 trees obeys few = rows_checked (schema_of Grown2) trees (lines_tree Grown2) (obeys.rules Check).1.1.1.1.1.0
all_checked Made3 trees obeys few = absurd (omega (arith, few))
all_checked Grown3From2 trees obeys few = absurd (omega (arith, few))
all_checked Grown3From1 trees obeys few = absurd (omega (arith, few))

-- a typed row of which it holds has a number from 1 to 9
one_of_nine : (layout : Layout) (r : Row) → IsTypedRow (line_typing layout) r → IsChecked r → IsOneOfNine (row_of (line_typing layout) r)
one_of_nine layout r is checked =
    let n = no_of (row_of (line_typing layout) r) in
    let number : column r 3 ≡ number_value n = ap (λ l. column l 2) is in
    let low = binary (Compare Ge Binary) (column r 3) (Int (pos 1)) in
    let high = binary (Compare Le Binary) (column r 3) (Int (pos 9)) in
    let tests = at_and true low high (ap (λ v. truth_or true (binary (Compare Ge Binary) v (Int (pos 1)))) number ∙ at_ints true Ge (pos n) (pos 1))
    (ap (λ v. truth_or true (binary (Compare Le Binary) v (Int (pos 9)))) number ∙ at_ints true Le (pos n) (pos 9)) in
    let two = both (int_le (pos 1) (pos n)) (int_le (pos n) (pos 9)) (sym tests ∙ checked) in
    (grind (arith, ints, two.0), grind (arith, ints, two.1))

-- so have all lines; and no two of a movement have one number
pub nine_lines : (layout : Layout) (trees : Trees) → Obeys (schema_of layout) trees → HaveAllIds layout trees → HasFewLines layout
    → AllRows (line_typing layout) (IsTypedRow (line_typing layout)) trees → HaveNineLines (tables_in layout trees)
nine_lines layout trees obeys ids few typed = record {
  numbers = numbers;
  movements = λ H n.
      not_more no_of 9 (of_key place n (part H rows)) ((lines_kept layout trees obeys ids typed).apart H n)
      (all-filter IsOneOfNine (λ l. place l == n) (part H rows) (all-filter IsOneOfNine (λ l. owner l == H) rows numbers));
}
  where
    rows : List (Keyed LineCells)
    rows = typed_rows (line_typing layout) trees

    numbers : AllByRecursion IsOneOfNine rows
    numbers =
        all-map IsOneOfNine (row_of (line_typing layout)) (trees (lines_tree layout))
        (all_both (IsTypedRow (line_typing layout)) IsChecked (λ r. IsOneOfNine (row_of (line_typing layout) r)) (one_of_nine layout)
        (trees (lines_tree layout)) typed (all_checked layout trees obeys few))
