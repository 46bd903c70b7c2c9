-- The holders of a store's file: their numbers are in range, and no two have one; a row that names a holder's number names a holder.
use Rattle.std.proofs.Common.{◌≡◌, ◌∙◌, ℕ, true, [], ◌∷◌, sym, subst, ap, arith}
use Rattle.std.specs.Prelude.{IsSome, filter, pos, ◌==◌}
use Rattle.std.specs.List.{AllByRecursion}
use Rattle.std.proofs.lemmas.Bool.Decides.{nat_tests}
use Rattle.keyed_rows.specs.Rows.{row_at}
use Rattle.sqlite_value.specs.declared.value.Value.TheVariants.{Int}
use Rattle.sqlite_value.specs.Order.{Row, column}
use Rattle.sqlite_trees.specs.Tree.{Trees, has_rowid, rowid}
use Rattle.sqlite_trees.proofs.ListLemmas.{all-map, all_both, all_weaker, filter-map}
use Rattle.sqlite_rules.specs.Edit.{id_in}
use Rattle.sqlite_schema.specs.Rules.{Obeys}
use Rattle.td_model.specs.declared.holder_row.HolderRow.{HolderRow}
use Rattle.td_base.specs.Codes.{IsHolderNumber}
use Rattle.td_table_model.specs.Gathering.{IsApart, holder_no}
use Rattle.typed_sql.specs.Writing.{HaveIds}
use Rattle.typed_sql.specs.Typed.{row_of, typed_rows}
use Rattle.typed_sql.specs.Values.{number_in, number_value}
use Rattle.typed_sql.proofs.Ids.{has_own}
use Rattle.td_schema.specs.Layouts.{schema_of}
use Rattle.td_schema.specs.declared.layout.Layout.{Layout}
use Rattle.td_store_rows.specs.Columns.{holder_typing}
use Rattle.td_store_rows.specs.StoreTables.{tables_in}
use Rattle.td_store_audit_rows.specs.Kept.{AreHoldersKept}
use Rattle.td_store_audit_rows.specs.Untyped.{AllRows, HasNumber}
use Rattle.td_store_audit.proofs.Checked.{IsNumbered, checked}
use Rattle.td_store_audit.proofs.Equal.{number_ties}
use Rattle.td_store_audit.proofs.Parents.{each_found, named_holder, named_movement}
use Rattle.td_store_audit.proofs.Ruled.{AreRuled, HasParent, IsChecked, ruled}
use Rattle.td_store_audit.proofs.Unique.{few, length_mapped}

module _ (layout : Layout) (trees : Trees) (ids : HaveIds (trees 1)) where
  -- what is named by a holder's rowid is there
  found : (H : ℕ) → AllByRecursion (λ p. rowid p ≡ number_value H → IsSome (row_at holder_no H (typed_rows holder_typing trees))) (trees 1)
  found H =
      all_weaker (λ p. (holder_no (row_of holder_typing p) == H) ≡ true → IsSome (row_at holder_no H (typed_rows holder_typing trees)))
      (λ p. rowid p ≡ number_value H → IsSome (row_at holder_no H (typed_rows holder_typing trees)))
      (λ p so is. so (let own : number_in (rowid p) ≡ H = ap number_in is in grind (arith, nat_tests, own))) (trees 1)
      (each_found (λ h. holder_no h == H) (row_of holder_typing) (trees 1))

  pub owned : (row : Row) (H : ℕ) → column row 1 ≡ number_value H → HasParent trees (1 ∷ []) 1 (0 ∷ []) row
      → IsSome (row_at holder_no H (typed_rows holder_typing trees))
  owned row H is has =
      named_holder trees (IsSome (row_at holder_no H (typed_rows holder_typing trees))) H ids (found H) row (number_ties (column row 1) H is) has

  module _ (obeys : Obeys (schema_of layout) trees) where
    rules : AreRuled layout trees
    rules = ruled layout trees obeys

    pub owned_through : (row : Row) (H n : ℕ) → column row 1 ≡ number_value H → column row 2 ≡ number_value n
        → HasParent trees (1 ∷ 2 ∷ []) 4 (1 ∷ 2 ∷ []) row → IsSome (row_at holder_no H (typed_rows holder_typing trees))
    owned_through row H n =
        named_movement trees (IsSome (row_at holder_no H (typed_rows holder_typing trees))) H n ids (found H) rules.movements_named row

    -- each rowid is a holder's number
    numbered : AllByRecursion IsNumbered (trees 1)
    numbered =
        all_both (λ r. rowid r ≡ Int (id_in (rowid r))) IsChecked IsNumbered
        (λ r is passed. checked r (id_in (rowid r)) is passed) (trees 1) ids.ints rules.holders_checked

    apart : IsApart holder_no (typed_rows holder_typing trees)
    apart k =
        let less = few (λ r. number_in (rowid r) == k) (pos k) (trees 1) (all_weaker IsNumbered (λ r. (number_in (rowid r) == k) ≡ true → has_rowid (pos k) r ≡ true) same (trees 1) numbered) in
        let size = length_mapped (row_of holder_typing) (filter (λ r. number_in (rowid r) == k) (trees 1)) in
        rw (filter-map (λ h. holder_no h == k) (row_of holder_typing) (trees 1)) (omega (arith, size, less, ids.apart (pos k)))
      where
        same : (r : Row) → IsNumbered r → (number_in (rowid r) == k) ≡ true → has_rowid (pos k) r ≡ true
        same r is test =
            let own : number_in (rowid r) ≡ is.number = ap number_in is.is in
            let number : is.number ≡ k = grind (arith, nat_tests, own, test) in
            has_own (pos k) r (is.is ∙ ap number_value number)

    pub holders_kept : AllRows holder_typing HasNumber trees × AreHoldersKept (tables_in layout trees)
    holders_kept = (
      all_weaker IsNumbered HasNumber (λ r is. (is.number, is.is)) (trees 1) numbered,
      record {
        numbers = all-map (λ (h : HolderRow). IsHolderNumber h.holder) (row_of holder_typing) (trees 1)
            (all_weaker IsNumbered (λ r. IsHolderNumber (row_of holder_typing r).holder)
            (λ r is. subst IsHolderNumber (sym (ap number_in is.is)) (is.least, is.most)) (trees 1) numbered);
        apart = apart;
      },
    )
