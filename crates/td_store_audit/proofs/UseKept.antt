-- What is in use on the guarantees of a store's file, where the rules before S7 are kept: what their lines add up to.
use Rattle.std.proofs.Common.{◌≡◌, ◌∙◌, ℕ, List, [], map, sum_by, Some, IsSome, Option, refl, sym, ap, subst, arith}
use Rattle.std.specs.List.{AllByRecursion}
use Rattle.std.specs.Option.{option_map_or}
use Rattle.sqlite_trees.specs.Tree.{Trees}
use Rattle.sqlite_trees.proofs.ListLemmas.{all_both}
use Rattle.keyed_rows.specs.Rows.{row_at}
use Rattle.td_base.specs.Codes.{IsHolderNumber}
use Rattle.td_guarantee.specs.declared.guarantee.Guarantee.{Guarantee}
use Rattle.td_guarantee.specs.Usage.{used_on}
use Rattle.td_model.specs.declared.holder_row.HolderRow.{HolderRow}
use Rattle.td_table_model.specs.declared.rule.Rule.TheVariants.{S1, S3, S5, S6, S7}
use Rattle.td_table_model.specs.Gathering.{guarantees_by, movements_by, owner, place, with_lines}
use Rattle.td_table_model.specs.Looking.{cents_of, lines_in_use}
use Rattle.td_table_model.specs.Rules.{HasGuarantees, HasLines}
use Rattle.td_table_model.specs.Tables.{Keyed, Tables}
use Rattle.td_table_model.proofs.Ruled.{are_mine}
use Rattle.td_schema.specs.declared.layout.Layout.{Layout}
use Rattle.td_store_rows.specs.Columns.{guarantee_typing}
use Rattle.td_store_rows.specs.StoreTables.{tables_in}
use Rattle.td_store_audit_rows.specs.Found.{FoundHoldersTell}
use Rattle.td_store_audit_rows.specs.Untyped.{KeepsUntyped}
use Rattle.td_store_audit_rows.specs.declared.holders.RawHolder.{RawHolder}
use Rattle.td_store_audit.specs.Auditable.{IsAuditable, KeepsBefore}
use Rattle.td_store_audit.specs.InFile.{AreTypedApart}
use Rattle.td_store_audit.proofs.HoldersTold.{holders_tell}
use Rattle.td_store_audit.proofs.InUse.{found_by_own, used_is}

-- what is known of a holder's row
pub record IsKnown (t : Tables) (row : HolderRow) : Type 0 where
  pub number : IsHolderNumber row.holder
  pub guarantees : HasGuarantees t row
  pub lines : HasLines t row

-- the lines on the guarantee in a row add up to what is in use on it by the holder's movements
abbrev pub IsUse : Tables → HolderRow → Keyed Guarantee → Type 0
IsUse t row g = sum_by cents_of (lines_in_use g.holder g.serial t) ≡ used_on g.row.grn (map (with_lines t) (movements_by row.holder t))

-- the guarantees are typed, where the rules before S7 are kept
module _ (layout : Layout) (trees : Trees) (country : List ℕ) (holders : List RawHolder) (known : IsAuditable layout trees country holders) (before : KeepsBefore layout trees S7) where
  guarantees_kept : KeepsUntyped layout trees S3
  guarantees_kept = before S3 (omega arith)

  pub guarantees_typed : AreTypedApart (guarantee_typing layout) trees
  guarantees_typed = record {
    typed = record { ids = known.kept.ids.guarantees; cells = guarantees_kept.0.1 };
    apart = (known.kept.guarantees guarantees_kept.0.1).apart;
  }

module _ (law : FoundHoldersTell) (layout : Layout) (trees : Trees) (country : List ℕ) (holders : List RawHolder) (known : IsAuditable layout trees country holders)
    (before : KeepsBefore layout trees S7) where
  abbrev t : Tables
  t = tables_in layout trees

  pub all_known : AllByRecursion (IsKnown t) t.holders
  all_known =
      all_both (λ row. HasGuarantees t row × HasLines t row) (λ (row : HolderRow). IsHolderNumber row.holder) (IsKnown t)
      (λ row has number. record { number = number; guarantees = has.0; lines = has.1 }) t.holders
      (all_both (HasGuarantees t) (HasLines t) (λ row. HasGuarantees t row × HasLines t row) (λ row a b. (a, b)) t.holders (before S3 (omega arith)).1 (before S6 (omega arith)).1)
      (holders_tell law layout trees country holders known).numbers

  module _ (row : HolderRow) (is : IsKnown t row) where
    abbrev H : ℕ
    H = row.holder

    -- so it is on each of the holder's
    same : (g : Keyed Guarantee) → owner g ≡ H → row_at place (place g) (guarantees_by H t) ≡ Some g → IsUse t row g
    same g own found =
        ap (λ h. sum_by cents_of (lines_in_use h g.serial t)) own
        ∙ used_is t (before S1 (omega arith)).1 row is.number is.guarantees g.serial (subst IsSome (sym found) refl)
        ((known.kept.movements (before S5 (omega arith)).0.1).apart H) ((known.kept.lines (before S6 (omega arith)).0).apart H) is.lines
        ∙ ap (λ (o : Option (Keyed Guarantee)). used_on (option_map_or (λ (r : Keyed Guarantee). r.row.grn) o []) (map (with_lines t) (movements_by H t))) found

    pub all_same : AllByRecursion (IsUse t row) (guarantees_by H t)
    all_same =
        all_both (λ g. owner g ≡ H) (λ g. row_at place (place g) (guarantees_by H t) ≡ Some g) (IsUse t row) same
        (guarantees_by H t) (are_mine H t.guarantees) (found_by_own place 0 (guarantees_by H t) is.guarantees.serials)
