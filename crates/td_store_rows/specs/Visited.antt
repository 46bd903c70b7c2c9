-- What a visitor is shown of the table of movements, and of that of guarantees with the amounts in use: by holder and serial.
use Rattle.std.specs.Prelude.{◌≡◌, Bool}
use Rattle.sqlite.specs.State.{State}
use Rattle.td_schema.specs.Layouts.{schema_of}
use Rattle.td_schema.specs.declared.layout.Layout.{Layout}
use Rattle.typed_sql.specs.Typed.{AreTyped, typed_rows}
use Rattle.typed_sql.specs.Visited.{HasVisitedRows}
use Rattle.typed_sql.specs.Writing.{HasSchema}
use Rattle.td_store_rows.specs.Columns.{kept_typing, movement_typing}
use Rattle.td_store_rows.specs.KeptTable.{kept_row_of}
use Rattle.td_store_rows.specs.MovementTable.{deadlines_of}
use Rattle.td_store_rows.specs.Places.{by_place}
use Rattle.td_store_rows.specs.StoreReads.{KeepsUse}
use Rattle.td_store_rows.specs.declared.guarantees.stored.KeptGuarantee.{KeptGuarantee}
use Rattle.td_store_rows.specs.declared.movements.stored.MovementDeadlines.{MovementDeadlines}

-- the tables are those of one of these layouts
abbrev pub IsOfLayout : (Layout → Type 0) → State → Type 0
IsOfLayout P s = (l : Layout) × P l × (s.now.schema ≡ schema_of l)

-- where the table's rows are typed, a visitor was shown the deadlines of its movements by holder and serial, as far as it was
abbrev pub VisitsDeadlines : {V O : Type 0} → (V → O → MovementDeadlines → V → O → Type 0) → State → Bool → V × O → V × O → Type 0
VisitsDeadlines sees state whole old new =
    (l : Layout) → HasSchema state (schema_of l) → AreTyped movement_typing state.now.trees
    → HasVisitedRows (λ v o m. sees v o (deadlines_of m.holder m.row)) (λ m. m) by_place
    (typed_rows movement_typing state.now.trees) whole old new

-- and in a file that keeps the amounts in use its guarantees
abbrev pub VisitsKept : {V O : Type 0} → (V → O → KeptGuarantee → V → O → Type 0) → State → Bool → V × O → V × O → Type 0
VisitsKept sees state whole old new =
    (l : Layout) → KeepsUse l → HasSchema state (schema_of l) → AreTyped (kept_typing l) state.now.trees
    → HasVisitedRows sees kept_row_of by_place (typed_rows (kept_typing l) state.now.trees) whole old new
