-- The holder whose number comes next above a number, whatever stands in the other columns.
use Rattle.std.specs.Prelude.{◌≡◌, ◌≤◌, ℕ, Bool, List, [], ◌∷◌, filter, nat_lt, Option, Some, None}
use Rattle.std.specs.List.{AllByRecursion}
use Rattle.std.specs.List.Sorted.{IsPermutation}
use Rattle.sqlite_value.specs.Order.{Row}
use Rattle.sqlite.specs.State.{State}
use Rattle.typed_sql.specs.Typed.{row_of}
use Rattle.typed_sql.specs.Writing.{HasSchema}
use Rattle.td_schema.specs.Layouts.{schema_of}
use Rattle.td_schema.specs.declared.layout.Layout.{Layout}
use Rattle.td_store_rows.specs.Columns.{holder_typing}
use Rattle.td_store_audit_rows.specs.Holders.{fields_of, fields_of_raw}
use Rattle.td_store_audit_rows.specs.Untyped.{AllRows, HasNumber}
use Rattle.td_store_audit_rows.specs.declared.holders.RawHolder.{RawHolder}

-- a row's number; whether it is above that one
abbrev pub number_in_row : Row → ℕ
number_in_row r = (row_of holder_typing r).holder

abbrev pub is_above : ℕ → Row → Bool
is_above number r = nat_lt number (number_in_row r)

-- of the rows whose numbers are above that one this holder's has the least
pub record HasLeastAbove (number : ℕ) (rows : List Row) (raw : RawHolder) : Type 0 where
  pub row : Row
  pub others : List Row
  pub above : IsPermutation (filter (is_above number) rows) (row ∷ others)
  pub least : AllByRecursion (λ other. number_in_row row ≤ number_in_row other) others
  pub fields : fields_of row ≡ fields_of_raw raw

-- this is that holder; none: no row's number is above that one
abbrev pub ComesNext : ℕ → List Row → Option RawHolder → Type 0
ComesNext number rows None = filter (is_above number) rows ≡ []
ComesNext number rows (Some raw) = HasLeastAbove number rows raw

-- so it is where the file has the tables of a layout, and each holder's number is one
abbrev pub IsNextHolder : ℕ → State → Option RawHolder → Type 0
IsNextHolder number state found =
    (l : Layout) → HasSchema state (schema_of l) → AllRows holder_typing HasNumber state.now.trees
    → ComesNext number (state.now.trees holder_typing.table.tree) found
