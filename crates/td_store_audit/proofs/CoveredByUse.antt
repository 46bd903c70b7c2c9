-- Where a file keeps amounts in use, S8 is kept with S7: none of them is above its reference amount.
use Rattle.std.proofs.Common.{List, subst, sym}
use Rattle.std.specs.Prelude.{◌≤◌, ◌==◌}
use Rattle.std.specs.List.{AllByRecursion}
use Rattle.sqlite_trees.specs.Tree.{Trees}
use Rattle.sqlite_trees.proofs.ListLemmas.{all-filter, all-map, all_both}
use Rattle.td_table_model.specs.Gathering.{owner, part, place}
use Rattle.td_table_model.specs.Tables.{Keyed, Kept, Tables, without_amount}
use Rattle.td_table_model.proofs.Rebuilt.{all_in_order}
use Rattle.td_schema.specs.declared.layout.Layout.{Layout}
use Rattle.td_store_rows.specs.StoreTables.{tables_in}
use Rattle.td_store_audit_rows.specs.Kept.{AreWithinReference}
use Rattle.td_store_audit_rows.specs.declared.holders.RawHolder.{RawHolder}
use Rattle.td_store_audit.specs.InFile.{IsHolderCoveredInFile, IsHolderKeptInFile, IsRowCovered, IsRowKept}
use Rattle.td_store_audit.proofs.TypedFor.{part_without}

module _ (layout : Layout) (trees : Trees) where
  abbrev t : Tables
  t = tables_in layout trees

  abbrev IsWithin : Keyed Kept → Type 0
  IsWithin k = k.row.used ≤ k.row.guarantee.reference

  covered : (k : Keyed Kept) → IsRowKept layout trees k → IsWithin k → IsRowCovered layout trees (without_amount k)
  covered k used most = subst (λ n. n ≤ k.row.guarantee.reference) used most

  pub covered_by_use : (h : RawHolder) → AreWithinReference t → IsHolderKeptInFile layout trees h → IsHolderCoveredInFile layout trees h
  covered_by_use h within kept =
      let mine : List (Keyed Kept) = part h.holder t.kept in
      let each = all_both (IsRowKept layout trees) IsWithin (λ k. IsRowCovered layout trees (without_amount k)) covered mine kept
      (all-filter IsWithin (λ r. owner r == h.holder) t.kept within) in
      all_in_order place (IsRowCovered layout trees) (part h.holder t.guarantees)
      (subst (AllByRecursion (IsRowCovered layout trees)) (sym (part_without layout trees h.holder))
      (all-map (IsRowCovered layout trees) without_amount mine each))
