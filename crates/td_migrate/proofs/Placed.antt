-- Of a holder whose number comes next, in a file whose rows keep the rules: which rows are this holder's, and which are others'.
use Rattle.std.proofs.Common.{◌≡◌, ◌∙◌, ◌+◌, ◌^◌, ◌<◌, ◌≤◌, ℕ, true, false, List, [], ◌∷◌, length, Option, Some, None, IsSome, ap, sym, subst, arith}
use Rattle.std.specs.Prelude.{◌==◌, IfSome, filter, unwrap_or}
use Rattle.std.specs.List.{AllByRecursion}
use Rattle.std.proofs.lemmas.Bool.Decides.{nat_tests}
use Rattle.std.proofs.lemmas.List.Sorted.{IsPermutation-sym}
use Rattle.sqlite_value.specs.Order.{Row, column}
use Rattle.sqlite_trees.specs.Tree.{Trees}
use Rattle.sqlite_trees.proofs.ListLemmas.{all-filter, all-map, all-permutation, all_both, all_from_map, all_weaker}
use Rattle.keyed_rows.specs.Rows.{row_at}
use Rattle.keyed_rows.proofs.Putting.{All-row_at, row_at_has}
use Rattle.td_base.specs.Codes.{IsHolderNumber}
use Rattle.td_model.specs.declared.holder_row.HolderRow.{HolderRow}
use Rattle.td_movement.specs.declared.movement.Movement.{Movement}
use Rattle.td_table_model.specs.Gathering.{IsApart, IsNumbered, holder_no, in_order, movements_by, owner, part, place}
use Rattle.td_table_model.specs.Rules.{HasGuarantees, HasLines, HasMovements, KeepsRules}
use Rattle.td_table_model.specs.Stored.{AreOfHolders}
use Rattle.td_table_model.specs.Tables.{Keyed, LineCells, Tables}
use Rattle.td_table_model.proofs.Orders.{in_order_permutes}
use Rattle.td_table_model.proofs.Rebuilt.{numbered_within}
use Rattle.typed_sql.specs.Typed.{AreTyped, IsTypedRow, row_of, typed_rows}
use Rattle.td_schema.specs.declared.layout.Layout.{Layout}
use Rattle.td_store_rows.specs.Columns.{guarantee_typing, holder_typing, line_typing}
use Rattle.td_store_rows.specs.StoreTables.{tables_in}
use Rattle.td_store_audit_rows.specs.Holders.{HolderFields, fields_of}
use Rattle.td_store_audit_rows.specs.NextHolder.{HasLeastAbove, is_above, number_in_row}
use Rattle.td_store_audit_rows.specs.Untyped.{HasNumber}
use Rattle.td_store_audit_rows.specs.declared.holders.RawHolder.{RawHolder}
use Rattle.td_store_audit_rows.proofs.Identities.{fields_tell}
use Rattle.td_migrate.proofs.Passing.{all_where, none_pass, value_is}
use Rattle.td_migrate.specs.Put.{KeepTheRules}
use Rattle.td_migrate.proofs.Split.{IsPlacedBy}

abbrev pub rows_in : Trees → List Row
rows_in trees = trees holder_typing.table.tree

-- a typed row of a holder has a number
pub numbers_there : (trees : Trees) → AreTyped holder_typing trees → AllByRecursion HasNumber (rows_in trees)
numbers_there trees typed =
    all_weaker (IsTypedRow holder_typing) HasNumber (λ r is. ((row_of holder_typing r).holder, ap (λ l. column l 0) is)) (rows_in trees) typed.cells

-- rows of holders that are there have what each holder's number has
module _ {R : Type 0} (P : ℕ → Type 0) (holders : List HolderRow) (all : AllByRecursion (λ (h : HolderRow). P h.holder) holders) where
  of_holder : (r : Keyed R) → IsSome (row_at holder_no (owner r) holders) → P (owner r)
  of_holder r some =
      by_row (row_at holder_no (owner r) holders) some (row_at_has holder_no (owner r) holders) (All-row_at holder_no (λ (h : HolderRow). P h.holder) (owner r) holders all)
    where
      by_row : (o : Option HolderRow) → IsSome o → IfSome o (λ h. holder_no h ≡ owner r) → IfSome o (λ (h : HolderRow). P h.holder) → P (owner r)
      by_row None some has is = absurd (let e = some in cc)
      by_row (Some h) some has is = subst P has is

  pub of_owned : (rows : List (Keyed R)) → AreOfHolders holders rows → AllByRecursion (λ r. P (owner r)) rows
  of_owned rows owned = all_weaker (λ r. IsSome (row_at holder_no (owner r) holders)) (λ r. P (owner r)) of_holder rows owned

-- each is of a holder with a number from 1 on
pub owners_above : {R : Type 0} (holders : List HolderRow) → AllByRecursion (λ (h : HolderRow). IsHolderNumber h.holder) holders → (rows : List (Keyed R))
    → AreOfHolders holders rows → AllByRecursion (λ r. 1 ≤ owner r) rows
owners_above holders numbers rows owned =
    of_owned (λ n. 1 ≤ n) holders (all_weaker (λ (h : HolderRow). IsHolderNumber h.holder) (λ (h : HolderRow). 1 ≤ h.holder) (λ h is. is.0) holders numbers) rows owned

-- where no holder's number is above one, each is of a holder up to it
pub owners_upto : {R : Type 0} (trees : Trees) (number : ℕ) → filter (is_above number) (rows_in trees) ≡ [] → (rows : List (Keyed R))
    → AreOfHolders (typed_rows holder_typing trees) rows → AllByRecursion (λ r. owner r ≤ number) rows
owners_upto trees number none rows owned =
    of_owned (λ n. n ≤ number) (typed_rows holder_typing trees)
    (all-map (λ (h : HolderRow). h.holder ≤ number) (row_of holder_typing) (rows_in trees)
    (all_weaker (λ r. is_above number r ≡ false) (λ r. number_in_row r ≤ number) (λ r not. grind (arith, nat_tests, not)) (rows_in trees) (none_pass (is_above number) (rows_in trees) none)))
    rows owned

module _ (trees : Trees) (number : ℕ) (raw : RawHolder) (next : HasLeastAbove number (rows_in trees) raw) where
  -- the holder's own row
  abbrev pub row : HolderRow
  row = row_of holder_typing next.row

  pub own : raw.holder ≡ row.holder
  own = subst (λ (f : HolderFields). IfSome f.holder (λ n. n ≡ row.holder)) next.fields (fields_tell next.row).1.holder

  -- its row is typed, so that its counts are those that were read
  typed_row : AreTyped holder_typing trees → IsTypedRow holder_typing next.row
  typed_row typed =
      (all-permutation (IsTypedRow holder_typing) (filter (is_above number) (rows_in trees)) (next.row ∷ next.others) next.above
      (all-filter (IsTypedRow holder_typing) (is_above number) (rows_in trees) typed.cells)).0

  pub grns_are : AreTyped holder_typing trees → row.grn_count < 2 ^ 32 → unwrap_or raw.grn_count 0 ≡ row.grn_count
  grns_are typed low =
      let tell = fields_tell next.row in
      subst (λ (f : HolderFields). unwrap_or f.grn_count 0 ≡ row.grn_count) next.fields
      (value_is (fields_of next.row).grn_count row.grn_count 0 (tell.0.grn_count.1 ((row.grn_count, ap (λ l. column l 3) (typed_row typed)), low)) tell.1.grn_count)

  pub mrns_are : AreTyped holder_typing trees → row.mrn_count < 2 ^ 32 → unwrap_or raw.mrn_count 0 ≡ row.mrn_count
  mrns_are typed low =
      let tell = fields_tell next.row in
      subst (λ (f : HolderFields). unwrap_or f.mrn_count 0 ≡ row.mrn_count) next.fields
      (value_is (fields_of next.row).mrn_count row.mrn_count 0 (tell.0.mrn_count.1 ((row.mrn_count, ap (λ l. column l 4) (typed_row typed)), low)) tell.1.mrn_count)

  -- what holds of all holders holds of this one
  pub of_all : (P : HolderRow → Type 0) → AllByRecursion P (typed_rows holder_typing trees) → P row
  of_all P all =
      (all-permutation (λ r. P (row_of holder_typing r)) (filter (is_above number) (rows_in trees)) (next.row ∷ next.others) next.above
      (all-filter (λ r. P (row_of holder_typing r)) (is_above number) (rows_in trees) (all_from_map P (row_of holder_typing) (rows_in trees) all))).0

  -- the others above that number are above this one's
  least : AllByRecursion (λ (h : HolderRow). number < h.holder → raw.holder ≤ h.holder) (typed_rows holder_typing trees)
  least =
      all-map (λ (h : HolderRow). number < h.holder → raw.holder ≤ h.holder) (row_of holder_typing) (rows_in trees)
      (all_weaker (λ r. is_above number r ≡ true → raw.holder ≤ number_in_row r) (λ r. number < number_in_row r → raw.holder ≤ number_in_row r)
      (λ r is above. is (grind (arith, nat_tests, above))) (rows_in trees)
      (all_where (λ r. raw.holder ≤ number_in_row r) (is_above number) (rows_in trees)
      (all-permutation (λ r. raw.holder ≤ number_in_row r) (next.row ∷ next.others) (filter (is_above number) (rows_in trees)) (IsPermutation-sym _ _ next.above)
      (omega (arith, own), all_weaker (λ r. number_in_row next.row ≤ number_in_row r) (λ r. raw.holder ≤ number_in_row r) (λ r low. omega (arith, own, low)) next.others next.least))))

  -- so rows are placed, if this holder's are up to a serial
  pub placed_by : {R : Type 0} (end : ℕ) (rows : List (Keyed R)) → AreOfHolders (typed_rows holder_typing trees) rows
      → AllByRecursion (λ r. place r < end) (part row.holder rows) → AllByRecursion (IsPlacedBy number raw.holder end) rows
  placed_by end rows owned low =
      all_both (λ r. number < owner r → raw.holder ≤ owner r) (λ r. (owner r == row.holder) ≡ true → place r < end) (IsPlacedBy number raw.holder end)
      (λ r first second. (first, λ is. second (let same : owner r ≡ row.holder = is ∙ own in grind (arith, nat_tests, same)))) rows
      (of_owned (λ n. number < n → raw.holder ≤ n) (typed_rows holder_typing trees) least rows owned)
      (all_where (λ r. place r < end) (λ r. owner r == row.holder) rows low)

-- numbered rows are up to their count, in any order
numbered_low : {R : Type 0} (rows : List (Keyed R)) (count : ℕ) → IsApart place rows → IsNumbered place 0 (in_order place rows)
    → count ≡ length (in_order place rows) → AllByRecursion (λ r. place r < count + 1) rows
numbered_low rows count apart numbers is =
    all-permutation (λ r. place r < count + 1) (in_order place rows) rows (IsPermutation-sym rows (in_order place rows) (in_order_permutes place rows apart))
    (all_weaker (λ r. (0 < place r) × (place r ≤ 0 + length (in_order place rows))) (λ r. place r < count + 1) (λ r within. omega (arith, within.1, is))
    (in_order place rows) (numbered_within place 0 (in_order place rows) numbers))

-- a holder's guarantees, and the lines of the holder's movements
pub guarantees_low : (t : Tables) (row : HolderRow) → IsApart place (part row.holder t.guarantees) → HasGuarantees t row
    → AllByRecursion (λ g. place g < row.grn_count + 1) (part row.holder t.guarantees)
guarantees_low t row apart has = numbered_low (part row.holder t.guarantees) row.grn_count apart has.serials has.count

pub lines_low : (t : Tables) (row : HolderRow) → HasMovements t row → HasLines t row → AllByRecursion (λ l. place l < row.mrn_count + 1) (part row.holder t.lines)
lines_low t row movements lines =
    all_weaker (λ l. IsSome (row_at place (place l) (movements_by row.holder t))) (λ l. place l < row.mrn_count + 1) low (part row.holder t.lines) lines.belong
  where
    low : (l : Keyed LineCells) → IsSome (row_at place (place l) (movements_by row.holder t)) → place l < row.mrn_count + 1
    low l some =
        by_row (row_at place (place l) (movements_by row.holder t)) some (row_at_has place (place l) (movements_by row.holder t))
        (All-row_at place (λ m. (0 < place m) × (place m ≤ 0 + length (movements_by row.holder t))) (place l) (movements_by row.holder t)
        (numbered_within place 0 (movements_by row.holder t) movements.serials))
      where
        by_row : (o : Option (Keyed Movement)) → IsSome o → IfSome o (λ m. place m ≡ place l)
            → IfSome o (λ m. (0 < place m) × (place m ≤ 0 + length (movements_by row.holder t))) → place l < row.mrn_count + 1
        by_row None some has is = absurd (let e = some in cc)
        by_row (Some m) some has is = omega (arith, has, is.1, movements.count)

-- of the holder whose number comes next the guarantees are up to the count of them, and the lines to that of the movements
module _ (l : Layout) (trees : Trees) (keep : KeepTheRules l trees) (number : ℕ) (raw : RawHolder) (next : HasLeastAbove number (rows_in trees) raw) where
  abbrev t : Tables
  t = tables_in l trees

  rules : KeepsRules t (row trees number raw next)
  rules = of_all trees number raw next (KeepsRules t) keep.rules.holders

  pub guarantees_placed : AllByRecursion (IsPlacedBy number raw.holder (unwrap_or raw.grn_count 0 + 1)) (typed_rows (guarantee_typing l) trees)
  guarantees_placed =
      let count = grns_are trees number raw next keep.typed.holders (omega (arith, rules.guarantees.most)) in
      placed_by trees number raw next (unwrap_or raw.grn_count 0 + 1) t.guarantees keep.rules.stored.guarantees_owned
      (subst (λ n. AllByRecursion (λ g. place g < n + 1) (part (row trees number raw next).holder t.guarantees)) (sym count)
      (guarantees_low t (row trees number raw next) (keep.rules.stored.guarantees (row trees number raw next).holder) rules.guarantees))

  own_lines : AllByRecursion (λ line. place line < unwrap_or raw.mrn_count 0 + 1) (part (row trees number raw next).holder t.lines)
  own_lines =
      let count = mrns_are trees number raw next keep.typed.holders (omega (arith, rules.movements.most)) in
      subst (λ n. AllByRecursion (λ line. place line < n + 1) (part (row trees number raw next).holder t.lines)) (sym count)
      (lines_low t (row trees number raw next) rules.movements rules.lines)

  pub lines_placed : AllByRecursion (IsPlacedBy number raw.holder (unwrap_or raw.mrn_count 0 + 1)) (typed_rows (line_typing l) trees)
  lines_placed = placed_by trees number raw next (unwrap_or raw.mrn_count 0 + 1) t.lines keep.rules.stored.lines_owned own_lines

  pub lines_below : AllByRecursion (λ line. place line < unwrap_or raw.mrn_count 0 + 1) (part raw.holder (typed_rows (line_typing l) trees))
  lines_below = subst (λ H. AllByRecursion (λ line. place line < unwrap_or raw.mrn_count 0 + 1) (part H t.lines)) (sym (own trees number raw next)) own_lines
