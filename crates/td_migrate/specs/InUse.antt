-- The amount in use on a guarantee, in the tables of a store's file below version 3.
use Rattle.std.specs.Prelude.{ℕ, ◌<◌, List, filter}
use Rattle.std.specs.List.{AllByRecursion, sum_by}
use Rattle.sqlite.specs.State.{State}
use Rattle.sqlite_trees.specs.Tree.{Trees}
use Rattle.td_table_model.specs.Gathering.{part, place}
use Rattle.td_table_model.specs.Looking.{cents_of, lines_in_use}
use Rattle.td_table_model.specs.Tables.{version_with_amounts}
use Rattle.td_schema.specs.declared.layout.Layout.{Layout}
use Rattle.typed_sql.specs.Typed.{AreTyped, typed_rows}
use Rattle.td_store_rows.specs.Columns.{movement_typing, line_typing}
use Rattle.td_store_rows.specs.Places.{is_within}
use Rattle.td_store_rows.specs.StoreReads.{IsOfVersion}
use Rattle.td_store_rows.specs.StoreTables.{tables_in}
use Rattle.td_store_rows.specs.declared.movements.stored.MovementSerial.{MovementSerial}
use Rattle.td_store_audit.specs.InFile.{IsSoWhere}
use Rattle.td_store_audit.specs.Totals.{AreTotals, sum_on}
use Rattle.td_store_audit.specs.declared.totals.Totals.{Totals}

-- so many cents are in use on the holder's guarantee n: the lines on it add up to them, of those of the holder's movements that
-- count
abbrev pub in_use : Layout → ℕ → ℕ → Trees → ℕ
in_use l H n trees = sum_by cents_of (lines_in_use H n (tables_in l trees))

-- the rows of lines are typed, and so are those of movements, and the holder's lines are of movements with serials below one
pub record HasLinesBelow (H end : ℕ) (layout : Layout) (trees : Trees) : Type 0 where
  pub movements : AreTyped movement_typing trees
  pub lines : AreTyped (line_typing layout) trees
  pub below : AllByRecursion (λ l. place l < end) (part H (typed_rows (line_typing layout) trees))

-- in a file of version 2 these are what the holder's lines of the movements with serials below one add up to, guarantee for guarantee,
-- of those of the movements with these serials
abbrev pub AreSumsBelow : ℕ → List MovementSerial → ℕ → State → Totals → Type 0
AreSumsBelow H serials end state totals =
    IsSoWhere (IsOfVersion version_with_amounts) (λ layout. AreTyped (line_typing layout))
    (λ layout trees. AreTotals (λ n. sum_on n serials (filter (is_within H 0 end) (typed_rows (line_typing layout) trees))) totals) state

-- where all the holder's lines are of movements with serials below one, these are the amounts in use on the holder's guarantees
abbrev pub AreInUse : ℕ → ℕ → State → Totals → Type 0
AreInUse H end state totals =
    IsSoWhere (IsOfVersion version_with_amounts) (HasLinesBelow H end)
    (λ layout trees. AreTotals (λ n. in_use layout H n trees) totals) state
