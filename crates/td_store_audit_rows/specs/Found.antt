-- What all holders that were read tell of the table of holders, and of the rules that speak of it.
use Rattle.std.specs.Prelude.{◌↔◌, ℕ, ◌<◌, ◌^◌, List, map, unwrap_or, IsSome}
use Rattle.std.specs.List.{AllByRecursion}
use Rattle.std.specs.List.Sorted.{IsPermutation}
use Rattle.sqlite_trees.specs.Tree.{Trees}
use Rattle.td_model.specs.declared.holder_row.HolderRow.{HolderRow}
use Rattle.td_base.specs.Codes.{IsHolderNumber}
use Rattle.td_table_model.specs.declared.rule.Rule.TheVariants.{S2}
use Rattle.td_table_model.specs.Gathering.{IsApart, holder_no}
use Rattle.typed_sql.specs.Typed.{row_of, typed_rows}
use Rattle.td_schema.specs.declared.layout.Layout.{Layout}
use Rattle.td_store_rows.specs.Columns.{holder_typing}
use Rattle.td_store_audit_rows.specs.Holders.{AreHoldersIn, NumbersRise}
use Rattle.td_store_audit_rows.specs.Untyped.{AllRows, HasGrnCount, HasMrnCount, HasNumber, KeepsUntyped}
use Rattle.td_store_audit_rows.specs.declared.holders.RawHolder.{RawHolder}

-- a holder's number with the count of guarantees, and with that of movements; 0 where there is no count
abbrev pub grn_pair : HolderRow → ℕ × ℕ
grn_pair row = (row.holder, row.grn_count)

abbrev pub mrn_pair : HolderRow → ℕ × ℕ
mrn_pair row = (row.holder, row.mrn_count)

abbrev pub raw_grn_pair : RawHolder → ℕ × ℕ
raw_grn_pair h = (h.holder, unwrap_or h.grn_count 0)

abbrev pub raw_mrn_pair : RawHolder → ℕ × ℕ
raw_mrn_pair h = (h.holder, unwrap_or h.mrn_count 0)

-- the fields that S2 speaks of are there; a count is
abbrev pub HasFieldsOfS2 : RawHolder → Type 0
HasFieldsOfS2 h = IsSome h.eori × IsSome h.last_at

abbrev pub HasGrns : RawHolder → Type 0
HasGrns h = IsSome h.grn_count

abbrev pub HasMrns : RawHolder → Type 0
HasMrns h = IsSome h.mrn_count

-- Each holder's number is a number in range, no two have one, and these are they. S2 is kept exactly where the fields are there,
-- and each count is of its kind, in 32 bits, exactly where it is there; then the counts are those of the rows.
pub record TellOfHolders (l : Layout) (trees : Trees) (found : List RawHolder) : Type 0 where
  pub kinds : AllRows holder_typing HasNumber trees
  pub numbers : AllByRecursion (λ (row : HolderRow). IsHolderNumber row.holder) (typed_rows holder_typing trees)
  pub apart : IsApart holder_no (typed_rows holder_typing trees)
  pub same : IsPermutation (map holder_no (typed_rows holder_typing trees)) (map (λ (h : RawHolder). h.holder) found)
  pub identity : KeepsUntyped l trees S2 ↔ AllByRecursion HasFieldsOfS2 found
  pub grn_kinds : AllRows holder_typing (λ r. HasGrnCount r × ((row_of holder_typing r).grn_count < 2 ^ 32)) trees
      ↔ AllByRecursion HasGrns found
  pub mrn_kinds : AllRows holder_typing (λ r. HasMrnCount r × ((row_of holder_typing r).mrn_count < 2 ^ 32)) trees
      ↔ AllByRecursion HasMrns found
  pub grn_counts : AllByRecursion HasGrns found
      → IsPermutation (map grn_pair (typed_rows holder_typing trees)) (map raw_grn_pair found)
  pub mrn_counts : AllByRecursion HasMrns found
      → IsPermutation (map mrn_pair (typed_rows holder_typing trees)) (map raw_mrn_pair found)

abbrev pub FoundHoldersTell : Type 0
FoundHoldersTell =
    (l : Layout) (trees : Trees) (found : List RawHolder) → AreHoldersIn trees found → NumbersRise found → TellOfHolders l trees found
