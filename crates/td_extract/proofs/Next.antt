-- The holder whose number comes next above a number, as the content has it.
use Rattle.std.proofs.Common.{◌≡◌, ◌∙◌, ◌<◌, ◌≤◌, ℕ, true, false, List, [], ◌∷◌, map, Some, None, sym, ap, subst, arith}
use Rattle.std.specs.Prelude.{◌==◌, IfSome, filter}
use Rattle.std.specs.List.{AllByRecursion}
use Rattle.std.proofs.lemmas.Bool.Decides.{nat_tests}
use Rattle.std.proofs.lemmas.List.Sorted.{IsPermutation-sym}
use Rattle.sqlite_value.specs.Order.{Row, column}
use Rattle.sqlite_trees.specs.Tree.{Trees}
use Rattle.sqlite_trees.proofs.ListLemmas.{all-map, all-permutation, all_from_map, all_weaker}
use Rattle.sqlite.specs.State.{State}
use Rattle.sqlite.proofs.Callers.{one_permutation}
use Rattle.td_model.specs.declared.holder_row.HolderRow.{HolderRow}
use Rattle.td_model.specs.Account.{Account, HolderRows, holder_key}
use Rattle.td_model.specs.Content.{Content, account_in}
use Rattle.td_table_model.specs.Tables.{AreTablesOf, Tables}
use Rattle.td_table_model.proofs.Looked.{account_is, find_first, first}
use Rattle.typed_sql.specs.Typed.{AreTyped, IsTypedRow, row_of, typed_rows}
use Rattle.td_store_rows.specs.Columns.{holder_typing}
use Rattle.td_store_rows.specs.HolderTable.{IsTheHolder}
use Rattle.td_store_rows.specs.StoreReads.{OnlyReadNewest}
use Rattle.td_store_rows.specs.StoreTables.{HoldsContent, tables_in}
use Rattle.td_store_audit_rows.specs.Holders.{HolderFields}
use Rattle.td_store_audit_rows.specs.NextHolder.{HasLeastAbove, IsNextHolder, is_above, number_in_row}
use Rattle.td_store_audit_rows.specs.Untyped.{HasNumber}
use Rattle.td_store_audit_rows.specs.declared.holders.RawHolder.{RawHolder}
use Rattle.td_store_audit_rows.proofs.Identities.{fields_tell}
use Rattle.td_extract.specs.Extracted.{IsNextOf}
use Rattle.td_extract.proofs.Copied.{held_after}
use Rattle.td_extract.proofs.Lists.{all_where, none_pass}

abbrev rows_in : Trees → List Row
rows_in trees = trees holder_typing.table.tree

-- a typed row of a holder has a number
numbers_there : (trees : Trees) → AreTyped holder_typing trees → AllByRecursion HasNumber (rows_in trees)
numbers_there trees typed =
    all_weaker (IsTypedRow holder_typing) HasNumber (λ r is. ((row_of holder_typing r).holder, ap (λ l. column l 0) is)) (rows_in trees) typed.cells

-- the others above the number are above this one
module _ (trees : Trees) (number : ℕ) (raw : RawHolder) (next : HasLeastAbove number (rows_in trees) raw) where
  own : raw.holder ≡ number_in_row next.row
  own = subst (λ (f : HolderFields). IfSome f.holder (λ n. n ≡ number_in_row next.row)) next.fields (fields_tell next.row).1.holder

  least : AllByRecursion (λ (h : HolderRow). number < h.holder → raw.holder ≤ h.holder) (typed_rows holder_typing trees)
  least =
      all-map (λ (h : HolderRow). number < h.holder → raw.holder ≤ h.holder) (row_of holder_typing) (rows_in trees)
      (all_weaker (λ r. is_above number r ≡ true → raw.holder ≤ number_in_row r) (λ r. number < number_in_row r → raw.holder ≤ number_in_row r)
      (λ r is above. is (grind (arith, nat_tests, above))) (rows_in trees)
      (all_where (λ r. raw.holder ≤ number_in_row r) (is_above number) (rows_in trees)
      (all-permutation (λ r. raw.holder ≤ number_in_row r) (next.row ∷ next.others) (filter (is_above number) (rows_in trees)) (IsPermutation-sym _ _ next.above)
      (omega (arith, own), all_weaker (λ r. number_in_row next.row ≤ number_in_row r) (λ r. raw.holder ≤ number_in_row r) (λ r low. omega (arith, own, low)) next.others next.least))))

-- what holds of the rows of all holders holds of the content's
of_content : (P : HolderRow → Type 0) (t : Tables) (c : Content) → AreTablesOf t c → AllByRecursion P t.holders → AllByRecursion (λ (h : HolderRows). P h.row) c.holders
of_content P t c are all =
    all_from_map P (λ (h : HolderRows). h.row) c.holders (all-permutation P t.holders (map (λ (h : HolderRows). h.row) c.holders) (IsPermutation-sym _ _ are.holders) all)

module _ (a : State) (number last : ℕ) where
  -- no holder is above the number
  pub none_next : IsNextHolder number a None → IsNextOf number last a None
  none_next next c holds =
      let trees : Trees = a.now.trees in
      let none : filter (is_above number) (rows_in trees) ≡ [] = next holds.trees.layout holds.schema (numbers_there trees holds.trees.typed.holders) in
      of_content (λ (h : HolderRow). number < h.holder → last < h.holder) (tables_in holds.trees.layout trees) c holds.trees.tables
      (all-map (λ (h : HolderRow). number < h.holder → last < h.holder) (row_of holder_typing) (rows_in trees)
      (all_weaker (λ r. is_above number r ≡ false) (λ r. number < number_in_row r → last < number_in_row r) (λ r not above. let low : number_in_row r ≤ number = grind (arith, nat_tests, not) in omega (arith, low, above)) (rows_in trees)
      (none_pass (is_above number) (rows_in trees) none)))

  module _ (raw : RawHolder) (next : IsNextHolder number a (Some raw)) where
    behind : (c : Content) → HoldsContent c a → AllByRecursion (λ h. number < holder_key h → raw.holder ≤ holder_key h) c.holders
    behind c holds =
        let trees : Trees = a.now.trees in
        of_content (λ (h : HolderRow). number < h.holder → raw.holder ≤ h.holder) (tables_in holds.trees.layout trees) c holds.trees.tables
        (least trees number raw (next holds.trees.layout holds.schema (numbers_there trees holds.trees.typed.holders)))

    -- the first above it is behind the last
    pub none_left : last < raw.holder → IsNextOf number last a None
    none_left far c holds =
        all_weaker (λ h. number < holder_key h → raw.holder ≤ holder_key h) (λ h. number < holder_key h → last < holder_key h) (λ h low above. omega (arith, low above, far))
        c.holders (behind c holds)

    -- or its row is the one that is found
    pub found_next : (b : State) (row : HolderRow) → OnlyReadNewest a b → IsTheHolder raw.holder b (Some row) → row.holder ≡ raw.holder → IsNextOf number last a (Some row)
    found_next b row read is same c holds =
        let held : HoldsContent c b = held_after c a b read holds in
        let t : Tables = tables_in held.trees.layout b.now.trees in
        let alone : filter (λ (h : HolderRow). h.holder == raw.holder) t.holders ≡ row ∷ [] =
        one_permutation row (filter (λ (h : HolderRow). h.holder == raw.holder) t.holders)
        (IsPermutation-sym _ _ (is held.trees.layout held.schema held.trees.typed.holders)) in
        let kept : (account_in raw.holder c).holder ≡ Some row =
        ap (λ (x : Account). x.holder) (account_is t c held.trees.sound held.trees.tables raw.holder)
        ∙ find_first (λ (h : HolderRow). h.holder == raw.holder) t.holders ∙ ap first alone in (
          subst (λ n. (account_in n c).holder ≡ Some row) (sym same) kept,
          subst (λ n. AllByRecursion (λ h. number < holder_key h → n ≤ holder_key h) c.holders) (sym same) (behind c holds),
        )
