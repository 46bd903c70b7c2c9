-- What the holders that were read tell of the rules of their rows.
use Rattle.std.proofs.Common.{ℕ, List, map, IsPermutation}
use Rattle.std.specs.Prelude.{◌↔◌}
use Rattle.std.specs.List.{AllByRecursion}
use Rattle.std.proofs.lemmas.List.Sorted.{IsPermutation-sym}
use Rattle.sqlite_trees.specs.Tree.{Trees}
use Rattle.sqlite_trees.proofs.ListLemmas.{all-map, all-permutation, all_from_map}
use Rattle.td_model.specs.declared.holder_row.HolderRow.{HolderRow}
use Rattle.td_table_model.specs.declared.rule.Rule.TheVariants.{S1}
use Rattle.td_schema.specs.declared.layout.Layout.{Layout}
use Rattle.td_store_rows.specs.StoreTables.{tables_in}
use Rattle.td_store_audit_rows.specs.Found.{FoundHoldersTell, TellOfHolders}
use Rattle.td_store_audit_rows.specs.Untyped.{KeepsUntyped}
use Rattle.td_store_audit_rows.specs.Told.{HaveOwners}
use Rattle.td_store_audit_rows.specs.declared.holders.RawHolder.{RawHolder}
use Rattle.td_store_audit.specs.Auditable.{IsAuditable}

-- what is so of each holder's number, or number and count, is so of those of the rows
pub of_pairs : {K : Type 0} (pair : HolderRow → K) (raw_pair : RawHolder → K) (P : K → Type 0) (rows : List HolderRow) (found : List RawHolder)
    → IsPermutation (map pair rows) (map raw_pair found)
    → AllByRecursion (λ row. P (pair row)) rows ↔ AllByRecursion (λ h. P (raw_pair h)) found
of_pairs pair raw_pair P rows found same = (
  λ all. all_from_map P raw_pair found (all-permutation P (map pair rows) (map raw_pair found) same (all-map P pair rows all)),
  λ all.
      all_from_map P pair rows
      (all-permutation P (map raw_pair found) (map pair rows) (IsPermutation-sym (map pair rows) (map raw_pair found) same) (all-map P raw_pair found all)),
)

module _ (law : FoundHoldersTell) (layout : Layout) (trees : Trees) (country : List ℕ) (holders : List RawHolder) (known : IsAuditable layout trees country holders) where
  pub holders_tell : TellOfHolders layout trees holders
  holders_tell = law layout trees holders known.holders_are known.order

  pub owners : KeepsUntyped layout trees S1 → HaveOwners (tables_in layout trees)
  owners first = record { numbers = holders_tell.numbers; country = first.1 }
