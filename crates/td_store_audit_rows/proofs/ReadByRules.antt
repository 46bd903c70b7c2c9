-- The rows of tables that keep a rule are read: their fields are in range.
use Rattle.std.proofs.Common.{◌≡◌, ℕ, ◌+◌, ◌<◌, ◌≤◌, ◌%◌, Bool, true, false, cond, List, [], ◌∷◌, length, map, Option, Some, None, sym, subst, ap, arith}
use Rattle.std.specs.Prelude.{◌==◌, IfSome, IsSome}
use Rattle.std.specs.List.{AllByRecursion}
use Rattle.std.proofs.lemmas.Bool.Decides.{nat_tests}
use Rattle.std.proofs.lemmas.List.Sorted.{IsPermutation-sym}
use Rattle.sqlite_trees.proofs.ListLemmas.{all-permutation, all_both, all_from_map, all_weaker}
use Rattle.sqlite_value.specs.Order.{Row}
use Rattle.keyed_rows.specs.Rows.{row_at}
use Rattle.keyed_rows.proofs.Putting.{All-row_at, row_at_has}
use Rattle.td_base.specs.Codes.{IsAccessCode, IsHolderNumber}
use Rattle.td_base.specs.References.{IsGrn, greatest_grn_serial, greatest_older_mrn_serial}
use Rattle.td_base.proofs.MadeReferences.{made_is_reference, either_read_back}
use Rattle.td_time.specs.Days.{year_of}
use Rattle.td_movement.specs.declared.movement.Movement.{Movement}
use Rattle.td_model.specs.declared.holder_row.HolderRow.{HolderRow}
use Rattle.td_commands.specs.Lines.{IsLineAmount}
use Rattle.td_table_model.specs.Gathering.{IsApart, guarantees_by, holder_no, in_order, lines_by, movements_by, no_of, of_key, owner, part, place}
use Rattle.td_table_model.specs.Rules.{AreLinesInRange, HasCodes, HasGuarantees, HasLines, HasMovements, IsGuaranteeInRange, IsMovementInRange, named_by}
use Rattle.td_table_model.specs.Stored.{AreOfHolders}
use Rattle.td_table_model.specs.Tables.{Keyed, LineCells, Tables}
use Rattle.td_table_model.proofs.Grouped.{of_key_has}
use Rattle.td_table_model.proofs.Orders.{in_order_permutes}
use Rattle.td_table_model.proofs.Rebuilt.{all_in_order, numbered_within}
use Rattle.td_table_model.proofs.Ruled.{are_mine, lines_mine}
use Rattle.typed_sql.specs.Typed.{IsTypedRow, Typing, row_of}
use Rattle.td_store_rows.specs.Columns.{code_typing, guarantee_typing, line_typing, movement_typing}
use Rattle.td_store_rows.specs.StoreTables.{tables_in}
use Rattle.td_store_audit_rows.specs.Fields.{AreCodeFields, AreGuaranteeFields, AreLineFields, AreMovementFields}
use Rattle.td_store_audit_rows.specs.Scans.{IsReadRow}
use Rattle.td_store_audit_rows.specs.Told.{CodesAreRead, GuaranteesAreRead, HaveOwners, LinesAreRead, MovementsAreRead}
use Rattle.td_movement.specs.Lines.{most_lines}

-- what holds of the rows of each key that is there holds of all rows
keys_all : {R : Type 0} (key : R → ℕ) (Q : ℕ → Type 0) (P : R → Type 0) (rows : List R) → ((k : ℕ) → Q k → AllByRecursion P (of_key key k rows))
    → AllByRecursion (λ r. Q (key r)) rows → AllByRecursion P rows
keys_all key Q P [] each there = tt
keys_all {R} key Q P (r ∷ rows) each there = (
  first (key r == key r) (grind (arith, nat_tests)) (each (key r) there.0),
  keys_all key Q P rows (λ k is. behind k (key r == k) (each k is)) there.1,
)
  where
    first : (b : Bool) → b ≡ true → AllByRecursion P (cond b (r ∷ of_key key (key r) rows) (of_key key (key r) rows)) → P r
    first true is all = all.0
    first false is all = cc

    behind : (k : ℕ) (b : Bool) → AllByRecursion P (cond b (r ∷ of_key key k rows) (of_key key k rows)) → AllByRecursion P (of_key key k rows)
    behind k true all = all.1
    behind k false all = all

-- rows that are in order are those that were brought in order
all_brought : {R : Type 0} (key : R → ℕ) (P : R → Type 0) (rows : List R) → IsApart key rows → AllByRecursion P (in_order key rows) → AllByRecursion P rows
all_brought key P rows apart all = all-permutation P (in_order key rows) rows (IsPermutation-sym rows (in_order key rows) (in_order_permutes key rows apart)) all

-- a row that is found has what all have
found_has : {R : Type 0} (key : R → ℕ) (P : R → Type 0) (k : ℕ) (rows : List R) → AllByRecursion P rows → IsSome (row_at key k rows)
    → (r : R) × P r × (key r ≡ k)
found_has {R} key P k rows all some = go (row_at key k rows) some (All-row_at key P k rows all) (row_at_has key k rows)
  where
    go : (o : Option R) → IsSome o → IfSome o P → IfSome o (λ r. key r ≡ k) → (r : R) × P r × (key r ≡ k)
    go None some all has = cc
    go (Some r) some all has = (r, all, has)

module _ (t : Tables) (owners : HaveOwners t) where
  -- a holder that is there, with what is kept of all
  owner_has : (Q : HolderRow → Type 0) → AllByRecursion Q t.holders → (H : ℕ) → IsSome (row_at holder_no H t.holders)
      → (row : HolderRow) × (Q row × IsHolderNumber row.holder) × (row.holder ≡ H)
  owner_has Q all H some =
      found_has holder_no (λ row. Q row × IsHolderNumber row.holder) H t.holders
      (all_both Q (λ (row : HolderRow). IsHolderNumber row.holder) (λ row. Q row × IsHolderNumber row.holder) (λ row q n. (q, n)) t.holders all owners.numbers) some

  -- so what holds of each holder's part of a table holds of all its rows
  parts_all : {X : Type 0} (Q : HolderRow → Type 0) (P : Keyed X → Type 0) (rows : List (Keyed X)) → AllByRecursion Q t.holders
      → ((row : HolderRow) → Q row → IsHolderNumber row.holder → AllByRecursion P (part row.holder rows)) → AreOfHolders t.holders rows
      → AllByRecursion P rows
  parts_all Q P rows all each owned =
      keys_all owner (λ H. IsSome (row_at holder_no H t.holders)) P rows
      (λ H some. let it = owner_has Q all H some in subst (λ k. AllByRecursion P (part k rows)) it.2 (each it.0 it.1.0 it.1.1)) owned

  module _ (row : HolderRow) (number : IsHolderNumber row.holder) where
    abbrev H : ℕ
    H = row.holder

    guarantees_placed : HasGuarantees t row → AllByRecursion (λ g. (owner g ≡ H) × (place g ≤ greatest_grn_serial)) (guarantees_by H t)
    guarantees_placed has =
        all_both (λ g. owner g ≡ H) (λ g. (0 < place g) × (place g ≤ 0 + length (guarantees_by H t))) (λ g. (owner g ≡ H) × (place g ≤ greatest_grn_serial))
        (λ g own within. (own, omega (arith, within.1, has.count, has.most))) (guarantees_by H t) (are_mine H t.guarantees)
        (numbered_within place 0 (guarantees_by H t) has.serials)

    guarantee_fields : IsApart place (part H t.guarantees) → HasGuarantees t row → AllByRecursion AreGuaranteeFields (part H t.guarantees)
    guarantee_fields apart has =
        all_brought place AreGuaranteeFields (part H t.guarantees) apart
        (all_both (IsGuaranteeInRange t.country) (λ g. (owner g ≡ H) × (place g ≤ greatest_grn_serial)) AreGuaranteeFields
        (λ g is low. record {
          key = record { holder = subst IsHolderNumber (sym low.0) number; serial = omega (arith, low.1) };
          grn = subst IsGrn (sym is.grn.2) (made_is_reference 6 is.grn.0 t.country g.holder g.serial owners.country);
          reference = is.reference.1;
          cover = is.cover;
          ends = is.ends;
        }) (guarantees_by H t) has.columns (guarantees_placed has))

    -- the serial of a guarantee that is named
    named_low : HasGuarantees t row → (n : ℕ) → IsSome (row_at place n (guarantees_by H t)) → n ≤ greatest_grn_serial
    named_low has n some =
        let it = found_has place (λ g. (owner g ≡ H) × (place g ≤ greatest_grn_serial)) n (guarantees_by H t) (guarantees_placed has) some in
        omega (arith, it.1.1, it.2)

    code_fields : HasGuarantees t row → HasCodes t row → AllByRecursion AreCodeFields (part H t.codes)
    code_fields has codes =
        all_both (λ (c : Keyed (List ℕ)). IsAccessCode c.row) (λ c. (owner c ≡ H) × (place c ≤ greatest_grn_serial)) AreCodeFields
        (λ c form low. record { key = record { holder = subst IsHolderNumber (sym low.0) number; serial = omega (arith, low.1) }; code = form })
        (part H t.codes) codes.form
        (all_both (λ c. owner c ≡ H) (λ c. IsSome (row_at place (place c) (guarantees_by H t))) (λ c. (owner c ≡ H) × (place c ≤ greatest_grn_serial))
        (λ c own some. (own, named_low has (place c) some)) (part H t.codes) (of_key_has owner H t.codes) codes.name)

    movements_placed : HasMovements t row → AllByRecursion (λ m. (owner m ≡ H) × (place m ≤ greatest_older_mrn_serial)) (movements_by H t)
    movements_placed has =
        all_both (λ m. owner m ≡ H) (λ m. (0 < place m) × (place m ≤ 0 + length (movements_by H t))) (λ m. (owner m ≡ H) × (place m ≤ greatest_older_mrn_serial))
        (λ m own within. (own, omega (arith, within.1, has.count, has.most))) (movements_by H t) (are_mine H t.movements)
        (numbered_within place 0 (movements_by H t) has.serials)

    movement_fields : IsApart place (part H t.movements) → HasMovements t row → AllByRecursion AreMovementFields (part H t.movements)
    movement_fields apart has =
        all_brought place AreMovementFields (part H t.movements) apart
        (all_both (IsMovementInRange t.country) (λ m. (owner m ≡ H) × (place m ≤ greatest_older_mrn_serial)) AreMovementFields
        (λ m is low. record {
          key = record { holder = subst IsHolderNumber (sym low.0) number; serial = omega (arith, low.1) };
          mrn = (either_read_back (year_of m.row.accepted % 100) t.country m.holder m.serial m.row.mrn owners.country (subst IsHolderNumber (sym low.0) number) is.mrn).form;
          lrn = is.lrn;
          departure = is.departure;
          destination = is.destination;
          accepted = is.accepted;
          limit = is.status.limit;
          arrival = is.status.arrival;
          actual = is.status.actual;
        }) (movements_by H t) has.columns (movements_placed has))

    -- the lines of one movement
    lines_on : HasGuarantees t row → (m : Keyed Movement) → owner m ≡ H → place m ≤ greatest_older_mrn_serial → AreLinesInRange t m
        → AllByRecursion AreLineFields (lines_by H (place m) t)
    lines_on has m own low is =
        let rows = lines_by H (place m) t in
        let same : lines_by m.holder m.serial t ≡ rows = ap (λ k. lines_by k (place m) t) own in
        let within : AllByRecursion (λ l. (0 < no_of l) × (no_of l ≤ most_lines)) rows =
        subst (AllByRecursion (λ l. (0 < no_of l) × (no_of l ≤ most_lines))) same
        (all_weaker (λ l. (0 < no_of l) × (no_of l ≤ 0 + length (lines_by m.holder m.serial t))) (λ l. (0 < no_of l) × (no_of l ≤ most_lines))
        (λ l w. (w.0, omega (arith, w.1, is.most))) (lines_by m.holder m.serial t) (numbered_within no_of 0 (lines_by m.holder m.serial t) is.numbers)) in
        let names : AllByRecursion (λ l. named_by l ≤ greatest_grn_serial) rows =
        all_weaker (λ l. IsSome (row_at place (named_by l) (guarantees_by H t))) (λ l. named_by l ≤ greatest_grn_serial) (λ l some. named_low has (named_by l) some) rows
        (subst (λ k. AllByRecursion (λ l. IsSome (row_at place (named_by l) (guarantees_by k t))) (lines_by k (place m) t)) own is.name) in
        let amounts : AllByRecursion (λ (l : Keyed LineCells). IsLineAmount l.row.cents) rows =
        subst (AllByRecursion (λ (l : Keyed LineCells). IsLineAmount l.row.cents)) same is.amounts in
        let keys : AllByRecursion (λ l. (owner l ≡ H) × (place l ≡ place m)) rows =
        all_in_order no_of (λ l. (owner l ≡ H) × (place l ≡ place m)) (of_key place (place m) (part H t.lines)) (lines_mine H (place m) t.lines) in
        all_both (λ l. ((0 < no_of l) × (no_of l ≤ most_lines)) × (named_by l ≤ greatest_grn_serial)) (λ (l : Keyed LineCells). IsLineAmount l.row.cents × ((owner l ≡ H) × (place l ≡ place m))) AreLineFields
        (λ l a b. record {
          key = record { holder = subst IsHolderNumber (sym b.1.0) number; serial = omega (arith, b.1.1, low) };
          no = omega (arith, a.0.1);
          guarantee = omega (arith, a.1);
          cents = omega (arith, b.0.1);
        }) rows
        (all_both (λ l. (0 < no_of l) × (no_of l ≤ most_lines)) (λ l. named_by l ≤ greatest_grn_serial) (λ l. ((0 < no_of l) × (no_of l ≤ most_lines)) × (named_by l ≤ greatest_grn_serial)) (λ l w n. (w, n)) rows within names)
        (all_both (λ (l : Keyed LineCells). IsLineAmount l.row.cents) (λ l. (owner l ≡ H) × (place l ≡ place m))
        (λ (l : Keyed LineCells). IsLineAmount l.row.cents × ((owner l ≡ H) × (place l ≡ place m))) (λ l w k. (w, k)) rows amounts keys)

    line_fields : ((n : ℕ) → IsApart no_of (of_key place n (part H t.lines))) → HasGuarantees t row → HasMovements t row → HasLines t row
        → AllByRecursion AreLineFields (part H t.lines)
    line_fields apart guarantees movements has =
        keys_all place (λ n. IsSome (row_at place n (movements_by H t))) AreLineFields (part H t.lines)
        (λ n some.
        let it = found_has place (λ m. ((owner m ≡ H) × (place m ≤ greatest_older_mrn_serial)) × AreLinesInRange t m) n (movements_by H t)
        (all_both (λ m. (owner m ≡ H) × (place m ≤ greatest_older_mrn_serial)) (AreLinesInRange t) (λ m. ((owner m ≡ H) × (place m ≤ greatest_older_mrn_serial)) × AreLinesInRange t m)
        (λ m low is. (low, is)) (movements_by H t) (movements_placed movements) has.columns) some in
        all_brought no_of AreLineFields (of_key place n (part H t.lines)) (apart n)
        (subst (λ k. AllByRecursion AreLineFields (lines_by H k t)) it.2 (lines_on guarantees it.0 it.1.0.0 it.1.0.1 it.1.1)))
        has.belong

-- typed rows whose typed rows are in range are read
rows_read : {R : Type 0} (ty : Typing R) (AreFields : R → Type 0) (rows : List Row) → AllByRecursion (IsTypedRow ty) rows
    → AllByRecursion AreFields (map (row_of ty) rows) → AllByRecursion (IsReadRow ty AreFields) rows
rows_read ty AreFields rows typed fields =
    all_both (IsTypedRow ty) (λ r. AreFields (row_of ty r)) (IsReadRow ty AreFields) (λ r is in_range. (is, in_range)) rows typed
    (all_from_map AreFields (row_of ty) rows fields)

pub guarantees_read : GuaranteesAreRead
guarantees_read layout trees owners owned apart keeps =
    let t = tables_in layout trees in
    rows_read (guarantee_typing layout) AreGuaranteeFields (trees (guarantee_typing layout).table.tree) keeps.0.1
    (parts_all t owners (HasGuarantees t) AreGuaranteeFields t.guarantees keeps.1 (λ row has number. guarantee_fields t owners row number (apart row.holder) has) owned)

pub codes_read : CodesAreRead
codes_read layout trees owners owned before keeps =
    let t = tables_in layout trees in
    rows_read code_typing AreCodeFields (trees code_typing.table.tree) keeps.0
    (parts_all t owners (λ row. HasGuarantees t row × HasCodes t row) AreCodeFields t.codes
    (all_both (HasGuarantees t) (HasCodes t) (λ row. HasGuarantees t row × HasCodes t row) (λ row a b. (a, b)) t.holders before keeps.1)
    (λ row has number. code_fields t owners row number has.0 has.1) owned)

pub movements_read : MovementsAreRead
movements_read layout trees owners owned apart keeps =
    let t = tables_in layout trees in
    rows_read movement_typing AreMovementFields (trees movement_typing.table.tree) keeps.0.1
    (parts_all t owners (HasMovements t) AreMovementFields t.movements keeps.1 (λ row has number. movement_fields t owners row number (apart row.holder) has) owned)

pub lines_read : LinesAreRead
lines_read layout trees owners owned apart guarantees movements keeps =
    let t = tables_in layout trees in
    rows_read (line_typing layout) AreLineFields (trees (line_typing layout).table.tree) keeps.0
    (parts_all t owners (λ row. (HasGuarantees t row × HasMovements t row) × HasLines t row) AreLineFields t.lines
    (all_both (λ row. HasGuarantees t row × HasMovements t row) (HasLines t) (λ row. (HasGuarantees t row × HasMovements t row) × HasLines t row) (λ row a b. (a, b)) t.holders
    (all_both (HasGuarantees t) (HasMovements t) (λ row. HasGuarantees t row × HasMovements t row) (λ row a b. (a, b)) t.holders guarantees movements) keeps.1)
    (λ row has number. line_fields t owners row number (apart row.holder) has.0.0 has.0.1 has.1) owned)
