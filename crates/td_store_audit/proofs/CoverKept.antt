-- Where the rules before S7 are kept, S8 is kept exactly where the lines on each guarantee add up to its reference amount
-- at most.
use Rattle.std.proofs.Common.{ℕ, List, map, arith}
use Rattle.std.specs.Prelude.{◌↔◌}
use Rattle.std.specs.List.{AllByRecursion}
use Rattle.sqlite_trees.specs.Tree.{Trees}
use Rattle.sqlite_trees.proofs.ListLemmas.{all-map, all_both, all_from_map}
use Rattle.td_movement.specs.declared.movement.Movement.{Movement}
use Rattle.td_model.specs.Sound.{IsCovered}
use Rattle.td_model.specs.declared.holder_row.HolderRow.{HolderRow}
use Rattle.td_table_model.specs.declared.rule.Rule.TheVariants.{S7, S8}
use Rattle.td_table_model.specs.Gathering.{guarantees_by, holder_no, movements_by, with_codes, with_lines}
use Rattle.td_table_model.specs.Rules.{IsHolderCovered}
use Rattle.td_table_model.specs.Tables.{Tables}
use Rattle.td_schema.specs.declared.layout.Layout.{Layout}
use Rattle.td_store_rows.specs.StoreTables.{tables_in}
use Rattle.td_store_audit_rows.specs.Found.{FoundHoldersTell}
use Rattle.td_store_audit_rows.specs.Untyped.{KeepsUntyped}
use Rattle.td_store_audit_rows.specs.declared.holders.RawHolder.{RawHolder}
use Rattle.td_store_audit.specs.Auditable.{IsAuditable, KeepsBefore}
use Rattle.td_store_audit.specs.InFile.{IsHolderCoveredInFile, IsRowCovered}
use Rattle.td_store_audit.proofs.HoldersTold.{holders_tell, of_pairs}
use Rattle.td_store_audit.proofs.UseKept.{IsKnown, IsUse, all_known, all_same}

module _ (law : FoundHoldersTell) (layout : Layout) (trees : Trees) (country : List ℕ) (holders : List RawHolder) (known : IsAuditable layout trees country holders)
    (before : KeepsBefore layout trees S7) where
  abbrev t : Tables
  t = tables_in layout trees

  module _ (row : HolderRow) (is : IsKnown t row) where
    abbrev H : ℕ
    H = row.holder

    abbrev movements : List Movement
    movements = map (with_lines t) (movements_by H t)

    same : AllByRecursion (IsUse t row) (guarantees_by H t)
    same = all_same law layout trees country holders known before row is

    -- so the holder is covered exactly where each row is
    covered : IsHolderCovered t row → AllByRecursion (IsRowCovered layout trees) (guarantees_by H t)
    covered keeps =
        all_both (IsUse t row) (λ g. IsCovered movements (with_codes t g)) (IsRowCovered layout trees) (λ g sum low. omega (arith, sum, low))
        (guarantees_by H t) same (all_from_map (IsCovered movements) (with_codes t) (guarantees_by H t) keeps)

    kept : AllByRecursion (IsRowCovered layout trees) (guarantees_by H t) → IsHolderCovered t row
    kept each =
        all-map (IsCovered movements) (with_codes t) (guarantees_by H t)
        (all_both (IsUse t row) (IsRowCovered layout trees) (λ g. IsCovered movements (with_codes t g)) (λ g sum low. omega (arith, sum, low))
        (guarantees_by H t) same each)

  abbrev AreCovered : ℕ → Type 0
  AreCovered H = AllByRecursion (IsRowCovered layout trees) (guarantees_by H t)

  pub kept_each : KeepsUntyped layout trees S8 ↔ AllByRecursion (IsHolderCoveredInFile layout trees) holders
  kept_each =
      let pairs = of_pairs holder_no (λ (h : RawHolder). h.holder) AreCovered t.holders holders (holders_tell law layout trees country holders known).same in
      let all = all_known law layout trees country holders known before in (
        λ keeps. pairs.0 (all_both (IsKnown t) (IsHolderCovered t) (λ row. AreCovered (holder_no row)) covered t.holders all keeps.1),
        λ each. (tt, all_both (IsKnown t) (λ row. AreCovered (holder_no row)) (IsHolderCovered t) kept t.holders all (pairs.1 each)),
      )
