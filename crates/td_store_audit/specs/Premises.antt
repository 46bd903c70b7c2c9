-- When a holder's codes, and lines, are in their places by what was read of the holder's row.
use Rattle.std.specs.Prelude.{◌↔◌, ℕ, Bool, IsSome, IsTrue, unwrap_or}
use Rattle.sqlite.specs.State.{State}
use Rattle.sqlite_trees.specs.Tree.{Trees}
use Rattle.typed_sql.specs.Typed.{AreTyped, typed_rows}
use Rattle.td_table_model.specs.Gathering.{part}
use Rattle.td_schema.specs.declared.layout.Layout.{Layout}
use Rattle.td_store_rows.specs.Columns.{code_typing, line_typing}
use Rattle.td_store_rows.specs.StoreReads.{IsAny, IsOfVersion}
use Rattle.td_store_audit_rows.specs.declared.holders.RawHolder.{RawHolder}
use Rattle.td_store_audit.specs.InFile.{IsSoWhere}
use Rattle.td_store_audit.specs.InPlace.{AreAllLinesInPlace, AreCodesInPlace, AreCodesInPlaceWithin, AreLinesInPlaceWithin, AreNumbersApart}
use Rattle.td_store_rows.specs.Ranges.{rows_below}
use Rattle.td_store_audit.specs.Totals.{AreTotals, sum_on}
use Rattle.td_store_audit.specs.declared.tallies.CountingSerials.{CountingSerials}
use Rattle.td_store_audit.specs.declared.totals.Totals.{Totals}

-- The holder's count of guarantees can be read, and the holder's codes are in their places by it.
abbrev pub HasCodesInPlace : Trees → RawHolder → Type 0
HasCodesInPlace trees raw =
    IsSome raw.grn_count × AreCodesInPlace (unwrap_or raw.grn_count 0) (part raw.holder (typed_rows code_typing trees))

-- Both counts can be read, and the holder's lines are in their places by them.
abbrev pub HasLinesInPlace : Layout → Trees → RawHolder → Type 0
HasLinesInPlace layout trees raw =
    (IsSome raw.grn_count × IsSome raw.mrn_count)
    × AreAllLinesInPlace (unwrap_or raw.grn_count 0) (unwrap_or raw.mrn_count 0) (part raw.holder (typed_rows (line_typing layout) trees))

-- Where the rows of codes are typed it is told whether the holder's codes of the guarantees with serials from one on and below another
-- are in their places.
abbrev pub TellsCodesWithin : ℕ → ℕ → ℕ → State → Bool → Type 0
TellsCodesWithin H first end state is =
    IsSoWhere IsAny (λ layout. AreTyped code_typing)
    (λ layout trees. IsTrue is ↔ AreCodesInPlaceWithin first end (part H (typed_rows code_typing trees))) state

-- In a file of a version whose rows of lines are typed it is told whether the holder's lines of the movements with serials from one on
-- and below another are in their places by a count of guarantees, if no two lines of one movement have one number.
abbrev pub TellsWithin : ℕ → ℕ → ℕ → ℕ → ℕ → State → Bool → Type 0
TellsWithin version guarantees H first end state is =
    IsSoWhere (IsOfVersion version) (λ layout. AreTyped (line_typing layout))
    (λ layout trees. AreNumbersApart (part H (typed_rows (line_typing layout) trees))
    → IsTrue is ↔ AreLinesInPlaceWithin guarantees first end (part H (typed_rows (line_typing layout) trees))) state

-- And so these are what the holder's lines of the movements with serials below one add up to, of those of the movements that count.
abbrev pub AreTotalsBelow : ℕ → CountingSerials → ℕ → State → Totals → Type 0
AreTotalsBelow version h end state totals =
    IsSoWhere (IsOfVersion version) (λ layout. AreTyped (line_typing layout))
    (λ layout trees. AreNumbersApart (part h.raw.holder (typed_rows (line_typing layout) trees))
    → AreTotals (λ n. sum_on n h.serials.items (rows_below end (part h.raw.holder (typed_rows (line_typing layout) trees)))) totals) state
