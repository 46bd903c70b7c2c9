-- What a store's schema keeps of guarantees, the amounts in use on them, codes, movements and lines.
use Rattle.std.proofs.Common.{◌≡◌, ◌≤◌, ℕ, true, List, [], ◌∷◌, refl, ap, arith, subst, sym}
use Rattle.std.specs.Prelude.{IsSome, ◌&&◌, ◌==◌, bytes_eq}
use Rattle.std.specs.List.{AllByRecursion}
use Rattle.keyed_rows.specs.Rows.{row_at}
use Rattle.sqlite_value.specs.Order.{Row, column}
use Rattle.sqlite_trees.specs.Tree.{Trees}
use Rattle.sqlite_trees.proofs.ListLemmas.{all-map, all_both, all_of, all_weaker}
use Rattle.sqlite_schema.specs.Rules.{Obeys}
use Rattle.sqlite_typed.proofs.TestLemmas.{then_value}
use Rattle.td_guarantee.specs.declared.guarantee.Guarantee.{Guarantee}
use Rattle.td_movement.specs.declared.movement.Movement.{Movement}
use Rattle.td_table_model.specs.Gathering.{holder_no, no_of, owner, place}
use Rattle.td_table_model.specs.Stored.{AreOfHolders}
use Rattle.td_table_model.specs.Tables.{Keyed, Kept}
use Rattle.typed_sql.specs.Typed.{IsTypedRow, Typing, row_of, typed_rows}
use Rattle.typed_sql.specs.Values.{number_in, number_value}
use Rattle.td_schema.specs.Layouts.{guarantees_tree, lines_tree, schema_of}
use Rattle.td_schema.specs.declared.layout.Layout.{Layout}
use Rattle.td_store_rows.specs.Columns.{holder_typing, guarantee_typing, kept_typing, code_typing, movement_typing, line_typing}
use Rattle.td_store_rows.specs.StoreReads.{KeepsUse}
use Rattle.td_store_rows.specs.StoreTables.{tables_in}
use Rattle.td_store_audit_rows.specs.Ids.{HaveAllIds}
use Rattle.td_store_audit_rows.specs.Kept.{AreCodesKept, AreGuaranteesKept, AreLinesKept, AreMovementsKept}
use Rattle.td_store_audit_rows.specs.Untyped.{AllRows}
use Rattle.td_store_audit_rows.specs.Laws.{AreAmountsKept}
use Rattle.td_store_audit.proofs.AmountColumn.{IsAmountRow, amount_up_to, amounts_ruled}
use Rattle.td_store_audit.proofs.HoldersKept.{owned, owned_through}
use Rattle.td_store_audit.proofs.Keyed.{all_three, numbers_equal, of_three, of_two, texts_equal}
use Rattle.td_store_audit.proofs.Ruled.{AreRuled, HasParent, both, ruled}
use Rattle.td_store_audit.proofs.Unique.{HaveSame, one_typed}

module _ (layout : Layout) (trees : Trees) (obeys : Obeys (schema_of layout) trees) (ids : HaveAllIds layout trees) where
  rules : AreRuled layout trees
  rules = ruled layout trees obeys

  -- rows that name a holder in their first column are of holders that are there
  owned_rows : {X : Type 0} (ty : Typing (Keyed X)) → ((r : Row) → IsTypedRow ty r → column r 1 ≡ number_value (owner (row_of ty r)))
      → AllByRecursion (HasParent trees (1 ∷ []) 1 (0 ∷ [])) (trees ty.table.tree) → AllRows ty (IsTypedRow ty) trees
      → AreOfHolders (typed_rows holder_typing trees) (typed_rows ty trees)
  owned_rows ty first named typed =
      all-map (λ k. IsSome (row_at holder_no (owner k) (typed_rows holder_typing trees))) (row_of ty) (trees ty.table.tree)
      (all_both (IsTypedRow ty) (HasParent trees (1 ∷ []) 1 (0 ∷ [])) (λ r. IsSome (row_at holder_no (owner (row_of ty r)) (typed_rows holder_typing trees)))
      (λ r is has. owned layout trees ids.holders r (owner (row_of ty r)) (first r is) has) (trees ty.table.tree) typed named)

  -- rows of one holder's number and one serial have their first two columns the same
  same_keys : {X : Type 0} (ty : Typing (Keyed X)) → ((r : Row) → IsTypedRow ty r → column r 1 ≡ number_value (owner (row_of ty r)))
      → ((r : Row) → IsTypedRow ty r → column r 2 ≡ number_value (place (row_of ty r))) → (H k : ℕ) (a b : Row) → IsTypedRow ty a → IsTypedRow ty b
      → ((owner (row_of ty a) == H) && (place (row_of ty a) == k)) ≡ true → ((owner (row_of ty b) == H) && (place (row_of ty b) == k)) ≡ true
      → HaveSame (1 ∷ 2 ∷ []) a b
  same_keys ty first second H k a b is_a is_b test_a test_b =
      let of_a = both (owner (row_of ty a) == H) (place (row_of ty a) == k) test_a in
      let of_b = both (owner (row_of ty b) == H) (place (row_of ty b) == k) test_b in (
        numbers_equal (column a 1) (column b 1) (owner (row_of ty a)) (owner (row_of ty b)) H (first a is_a) (first b is_b) of_a.0 of_b.0,
        (numbers_equal (column a 2) (column b 2) (place (row_of ty a)) (place (row_of ty b)) k (second a is_a) (second b is_b) of_a.1 of_b.1, tt),
      )

  pub guarantees_kept : AllRows (guarantee_typing layout) (IsTypedRow (guarantee_typing layout)) trees → AreGuaranteesKept (tables_in layout trees)
  guarantees_kept typed = record {
    apart = λ H k. of_two (λ g. place g == k) (λ g. owner g == H) (typed_rows (guarantee_typing layout) trees)
        (one_typed (guarantee_typing layout) trees (1 ∷ 2 ∷ []) ids.guarantees rules.guarantee_keys typed (λ g. (owner g == H) && (place g == k))
        (same_keys (guarantee_typing layout) (λ r is. ap (λ l. column l 0) is) (λ r is. ap (λ l. column l 1) is) H k));
    owned = owned_rows (guarantee_typing layout) (λ r is. ap (λ l. column l 0) is) rules.guarantees_named typed;
    without_codes = all-map (λ (g : Keyed Guarantee). g.row.codes ≡ []) (row_of (guarantee_typing layout)) (trees (guarantees_tree layout))
        (all_of (λ r. (row_of (guarantee_typing layout) r).row.codes ≡ []) (λ r. refl) (trees (guarantees_tree layout)));
  }

  pub amounts_kept : KeepsUse layout → AllRows (guarantee_typing layout) (IsTypedRow (guarantee_typing layout)) trees → AreAmountsKept layout trees
  amounts_kept keep typed =
      let each = all_both (IsTypedRow (guarantee_typing layout)) IsAmountRow IsAmountIn one_amount (trees (guarantees_tree layout)) typed (amounts_ruled layout trees obeys keep) in
      record {
        typed = all_weaker IsAmountIn (IsTypedRow (kept_typing layout)) (λ r is. is.0) (trees (guarantees_tree layout)) each;
        within = all-map IsWithin (row_of (kept_typing layout)) (trees (guarantees_tree layout))
            (all_weaker IsAmountIn (λ r. IsWithin (row_of (kept_typing layout) r)) (λ r is. is.1) (trees (guarantees_tree layout)) each);
      }
    where
      IsWithin : Keyed Kept → Type 0
      IsWithin k = k.row.used ≤ k.row.guarantee.reference

      IsAmountIn : Row → Type 0
      IsAmountIn r = IsTypedRow (kept_typing layout) r × IsWithin (row_of (kept_typing layout) r)

      one_amount : (r : Row) → IsTypedRow (guarantee_typing layout) r → IsAmountRow r → IsAmountIn r
      one_amount r is amount =
          let it = amount_up_to r (row_of (guarantee_typing layout) r).row.reference (ap (λ l. column l 3) is) amount in
          let used : column r 7 ≡ number_value (number_in (column r 7)) = subst (λ v. v ≡ number_value (number_in v)) (sym it.is) refl in (
            then_value (ap (λ l. column l 0) is) (then_value (ap (λ l. column l 1) is) (then_value (ap (λ l. column l 2) is)
                (then_value (ap (λ l. column l 3) is) (then_value (ap (λ l. column l 4) is) (then_value (ap (λ l. column l 5) is) (then_value used refl)))))),
            omega (arith, ap number_in it.is, it.most),
          )

  pub codes_kept : AllRows code_typing (IsTypedRow code_typing) trees → AreCodesKept (tables_in layout trees)
  codes_kept typed = record {
    apart = λ H n k. of_three (λ (c : Keyed (List ℕ)). bytes_eq c.row k) (λ c. place c == n) (λ c. owner c == H) (typed_rows code_typing trees)
        (one_typed code_typing trees (1 ∷ 2 ∷ 3 ∷ []) ids.codes rules.code_keys typed (λ c. (owner c == H) && ((place c == n) && bytes_eq c.row k)) (same H n k));
    owned = owned_rows code_typing (λ r is. ap (λ l. column l 0) is) rules.codes_named typed;
  }
    where
      same : (H n : ℕ) (k : List ℕ) (a b : Row) → IsTypedRow code_typing a → IsTypedRow code_typing b
          → ((owner (row_of code_typing a) == H) && ((place (row_of code_typing a) == n) && bytes_eq (row_of code_typing a).row k)) ≡ true
          → ((owner (row_of code_typing b) == H) && ((place (row_of code_typing b) == n) && bytes_eq (row_of code_typing b).row k)) ≡ true
          → HaveSame (1 ∷ 2 ∷ 3 ∷ []) a b
      same H n k a b is_a is_b test_a test_b =
          let x = row_of code_typing a in
          let y = row_of code_typing b in
          let of_a = all_three (owner x == H) (place x == n) (bytes_eq x.row k) test_a in
          let of_b = all_three (owner y == H) (place y == n) (bytes_eq y.row k) test_b in (
            numbers_equal (column a 1) (column b 1) (owner x) (owner y) H (ap (λ l. column l 0) is_a) (ap (λ l. column l 0) is_b) of_a.first of_b.first,
            (
              numbers_equal (column a 2) (column b 2) (place x) (place y) n (ap (λ l. column l 1) is_a) (ap (λ l. column l 1) is_b) of_a.second of_b.second,
              (texts_equal (column a 3) (column b 3) x.row y.row k (ap (λ l. column l 2) is_a) (ap (λ l. column l 2) is_b) of_a.third of_b.third, tt),
            ),
          )

  pub movements_kept : AllRows movement_typing (IsTypedRow movement_typing) trees → AreMovementsKept (tables_in layout trees)
  movements_kept typed = record {
    apart = λ H k. of_two (λ m. place m == k) (λ m. owner m == H) (typed_rows movement_typing trees)
        (one_typed movement_typing trees (1 ∷ 2 ∷ []) ids.movements rules.movement_keys typed (λ m. (owner m == H) && (place m == k))
        (same_keys movement_typing (λ r is. ap (λ l. column l 0) is) (λ r is. ap (λ l. column l 1) is) H k));
    lrns = λ H k. of_two (λ (m : Keyed Movement). bytes_eq m.row.lrn k) (λ m. owner m == H) (typed_rows movement_typing trees)
        (one_typed movement_typing trees (1 ∷ 4 ∷ []) ids.movements rules.lrn_keys typed (λ m. (owner m == H) && bytes_eq m.row.lrn k) (same H k));
    owned = owned_rows movement_typing (λ r is. ap (λ l. column l 0) is) rules.movements_named typed;
    without_lines = all-map (λ (m : Keyed Movement). m.row.lines ≡ []) (row_of movement_typing) (trees 4)
        (all_of (λ r. (row_of movement_typing r).row.lines ≡ []) (λ r. refl) (trees 4));
  }
    where
      same : (H : ℕ) (k : List ℕ) (a b : Row) → IsTypedRow movement_typing a → IsTypedRow movement_typing b
          → ((owner (row_of movement_typing a) == H) && bytes_eq (row_of movement_typing a).row.lrn k) ≡ true
          → ((owner (row_of movement_typing b) == H) && bytes_eq (row_of movement_typing b).row.lrn k) ≡ true
          → HaveSame (1 ∷ 4 ∷ []) a b
      same H k a b is_a is_b test_a test_b =
          let x = row_of movement_typing a in
          let y = row_of movement_typing b in
          let of_a = both (owner x == H) (bytes_eq x.row.lrn k) test_a in
          let of_b = both (owner y == H) (bytes_eq y.row.lrn k) test_b in (
            numbers_equal (column a 1) (column b 1) (owner x) (owner y) H (ap (λ l. column l 0) is_a) (ap (λ l. column l 0) is_b) of_a.0 of_b.0,
            (texts_equal (column a 4) (column b 4) x.row.lrn y.row.lrn k (ap (λ l. column l 3) is_a) (ap (λ l. column l 3) is_b) of_a.1 of_b.1, tt),
          )

  pub lines_kept : AllRows (line_typing layout) (IsTypedRow (line_typing layout)) trees → AreLinesKept (tables_in layout trees)
  lines_kept typed = record {
    apart = λ H n k. of_three (λ l. no_of l == k) (λ l. place l == n) (λ l. owner l == H) (typed_rows (line_typing layout) trees)
        (one_typed (line_typing layout) trees (1 ∷ 2 ∷ 3 ∷ []) ids.lines rules.line_keys typed (λ l. (owner l == H) && ((place l == n) && (no_of l == k))) (same H n k));
    owned = all-map (λ l. IsSome (row_at holder_no (owner l) (typed_rows holder_typing trees))) (row_of (line_typing layout)) (trees (lines_tree layout))
        (all_both (IsTypedRow (line_typing layout)) (HasParent trees (1 ∷ 2 ∷ []) 4 (1 ∷ 2 ∷ []))
        (λ r. IsSome (row_at holder_no (owner (row_of (line_typing layout) r)) (typed_rows holder_typing trees)))
        (λ r is has. owned_through layout trees ids.holders obeys r (owner (row_of (line_typing layout) r)) (place (row_of (line_typing layout) r))
        (ap (λ l. column l 0) is) (ap (λ l. column l 1) is) has) (trees (lines_tree layout)) typed rules.lines_named);
  }
    where
      same : (H n k : ℕ) (a b : Row) → IsTypedRow (line_typing layout) a → IsTypedRow (line_typing layout) b
          → ((owner (row_of (line_typing layout) a) == H) && ((place (row_of (line_typing layout) a) == n) && (no_of (row_of (line_typing layout) a) == k))) ≡ true
          → ((owner (row_of (line_typing layout) b) == H) && ((place (row_of (line_typing layout) b) == n) && (no_of (row_of (line_typing layout) b) == k))) ≡ true
          → HaveSame (1 ∷ 2 ∷ 3 ∷ []) a b
      same H n k a b is_a is_b test_a test_b =
          let x = row_of (line_typing layout) a in
          let y = row_of (line_typing layout) b in
          let of_a = all_three (owner x == H) (place x == n) (no_of x == k) test_a in
          let of_b = all_three (owner y == H) (place y == n) (no_of y == k) test_b in (
            numbers_equal (column a 1) (column b 1) (owner x) (owner y) H (ap (λ l. column l 0) is_a) (ap (λ l. column l 0) is_b) of_a.first of_b.first,
            (
              numbers_equal (column a 2) (column b 2) (place x) (place y) n (ap (λ l. column l 1) is_a) (ap (λ l. column l 1) is_b) of_a.second of_b.second,
              (numbers_equal (column a 3) (column b 3) (no_of x) (no_of y) k (ap (λ l. column l 2) is_a) (ap (λ l. column l 2) is_b) of_a.third of_b.third, tt),
            ),
          )
