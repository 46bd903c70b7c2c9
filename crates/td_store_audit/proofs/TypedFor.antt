-- Tables whose rows are typed, and of which the database keeps what it does, are typed as the parts of a holder are looked up by.
use Rattle.std.proofs.Common.{◌≡◌, ◌∙◌, ◌≤◌, ℕ, List, length, map, Option, sym, ap, subst, arith}
use Rattle.std.proofs.lemmas.List.{length-map}
use Rattle.std.specs.Prelude.{◌==◌}
use Rattle.sqlite_trees.specs.Tree.{Trees}
use Rattle.sqlite_trees.proofs.ListLemmas.{filter-map, map-map}
use Rattle.td_table_model.specs.declared.rule.Rule.{Rule}
use Rattle.td_table_model.specs.declared.rule.Rule.TheVariants.{S3, S4, S5, S6}
use Rattle.td_table_model.specs.Gathering.{IsApart, of_key, owner, part, place}
use Rattle.td_table_model.specs.Tables.{Keyed, Kept, without_amount}
use Rattle.typed_sql.specs.Typed.{AreTyped, row_of}
use Rattle.td_schema.specs.declared.layout.Layout.{Layout}
use Rattle.td_store_rows.specs.Columns.{code_typing, guarantee_typing, kept_typing, line_typing, movement_typing}
use Rattle.td_store_rows.specs.StoreReads.{KeepsUse}
use Rattle.td_store_rows.specs.StoreTables.{tables_in}
use Rattle.td_store_audit.specs.FirstRule.{IsBefore}
use Rattle.td_store_audit.specs.HolderRules.{IsAskable}
use Rattle.td_store_audit.specs.InFile.{AreTypedApart, HasGuaranteesInPlace}
use Rattle.td_store_audit.specs.InPlace.{AreNumbersApart}
use Rattle.td_store_audit.specs.Tallies.{AreCounting, AreItsTotals, IsHandedOn}
use Rattle.td_store_audit.specs.declared.tallies.HolderTotals.{HolderTotals}
use Rattle.td_store_audit.proofs.FirstRule.{before_on}

-- rows with amounts in use are apart where they are so without them
apart_with : (rows : List (Keyed Kept)) → IsApart place (map without_amount rows) → IsApart place rows
apart_with rows apart k =
    subst (λ n. n ≤ 1) (ap length (filter-map (λ g. place g == k) without_amount rows) ∙ length-map (of_key place k rows) without_amount) (apart k)

-- the rows of a holder's guarantees are those with the amounts in use, without them
pub part_without : (layout : Layout) (trees : Trees) (H : ℕ)
    → part H (tables_in layout trees).guarantees ≡ map without_amount (part H (tables_in layout trees).kept)
part_without layout trees H =
    ap (part H) (sym (map-map without_amount (row_of (kept_typing layout)) (trees (guarantee_typing layout).table.tree)))
    ∙ filter-map (λ g. owner g == H) without_amount (tables_in layout trees).kept

module _ (end : Option Rule) (layout : Layout) (trees : Trees) (is : IsAskable end layout trees) where
  pub guarantees_typed : IsBefore S3 end → AreTypedApart (guarantee_typing layout) trees
  guarantees_typed before = record {
    typed = record { ids = is.kept.ids.guarantees; cells = is.typed S3 before };
    apart = (is.kept.guarantees (is.typed S3 before)).apart;
  }

  -- with the amounts in use, where they are kept
  amounts_typed : IsBefore S3 end → KeepsUse layout → AreTypedApart (kept_typing layout) trees
  amounts_typed before keep = record {
    typed = record { ids = is.kept.ids.guarantees; cells = (is.kept.amounts keep (is.typed S3 before)).typed };
    apart = λ H. apart_with (part H (tables_in layout trees).kept)
        (subst (IsApart place) (part_without layout trees H) ((is.kept.guarantees (is.typed S3 before)).apart H));
  }

  pub codes_typed : IsBefore S4 end → AreTyped code_typing trees
  codes_typed before = record { ids = is.kept.ids.codes; cells = is.typed S4 before }

  pub movements_typed : IsBefore S5 end → AreTypedApart movement_typing trees
  movements_typed before = record {
    typed = record { ids = is.kept.ids.movements; cells = is.typed S5 before };
    apart = (is.kept.movements (is.typed S5 before)).apart;
  }

  pub lines_typed : IsBefore S6 end → AreTyped (line_typing layout) trees
  lines_typed before = record { ids = is.kept.ids.lines; cells = is.typed S6 before }

  pub lines_apart : IsBefore S6 end → (H : ℕ) → AreNumbersApart (part H (tables_in layout trees).lines)
  lines_apart before = (is.kept.lines (is.typed S6 before)).apart

  -- what was handed on of a holder is so
  pub handed_on : (parts : HolderTotals) → (country : List ℕ) → HasGuaranteesInPlace layout country trees parts.movements.raw → IsBefore S6 end → AreCounting layout trees parts.movements → AreItsTotals layout trees parts.movements parts.totals → IsHandedOn layout trees parts
  handed_on parts country placed before counting totals =
      let third = before_on S3 S6 end (omega arith) before in
      record {
        placed = (country, placed);
        guarantees = guarantees_typed third;
        kept = amounts_typed third;
        within = λ keep. (is.kept.amounts keep (is.typed S3 third)).within;
        apart = (movements_typed (before_on S5 S6 end (omega arith) before)).apart parts.movements.raw.holder;
        counting = counting;
        totals = totals;
      }
