-- The holders of a store's file as their rows have them, whatever stands in the columns.
use Rattle.std.specs.Prelude.{ℕ, ◌<◌, List, map, Option, Some}
use Rattle.std.specs.List.Sorted.{IsPermutation}
use Rattle.sqlite_value.specs.Order.{Row, column}
use Rattle.sqlite_trees.specs.Tree.{IsAscending, Trees}
use Rattle.td_schema.specs.Fields.{eori_in, holder_in, moment_in, serial_in}
use Rattle.td_store_rows.specs.Columns.{holder_columns, holder_typing}
use Rattle.td_store_audit_rows.specs.declared.holders.RawHolder.{RawHolder}

-- the fields of a holder's row: none where a column is no such field
pub record HolderFields : Type 0 where
  pub holder : Option ℕ
  pub eori : Option (List ℕ)
  pub last_at : Option ℕ
  pub grn_count : Option ℕ
  pub mrn_count : Option ℕ

-- those that five columns are
abbrev pub fields_from : Row → HolderFields
fields_from cells = record {
  holder = holder_in (column cells 0);
  eori = eori_in (column cells 1);
  last_at = moment_in (column cells 2);
  grn_count = serial_in (column cells 3);
  mrn_count = serial_in (column cells 4);
}

-- those of a row, and of a holder that was read
abbrev pub fields_of : Row → HolderFields
fields_of r = fields_from (holder_columns r)

abbrev pub fields_of_raw : RawHolder → HolderFields
fields_of_raw h = record {
  holder = Some h.holder;
  eori = h.eori;
  last_at = h.last_at;
  grn_count = h.grn_count;
  mrn_count = h.mrn_count;
}

-- these are all holders, each once: the fields of each row
abbrev pub AreHoldersIn : Trees → List RawHolder → Type 0
AreHoldersIn trees found = IsPermutation (map fields_of (trees holder_typing.table.tree)) (map fields_of_raw found)

-- their numbers rise
abbrev pub NumbersRise : List RawHolder → Type 0
NumbersRise found = IsAscending (λ (a b : RawHolder). a.holder < b.holder) found
