-- What is asked of the holders in a store's file, and what is said anew of one.
use Rattle.std.specs.Prelude.{ℕ, ◌==◌, List, Option}
use Rattle.std.specs.Option.{option_to_list}
use Rattle.sqlite.specs.State.{State}
use Rattle.td_model.specs.declared.holder_row.HolderRow.{HolderRow}
use Rattle.td_schema.specs.Layouts.{schema_of}
use Rattle.td_schema.specs.declared.layout.Layout.{Layout}
use Rattle.typed_sql.specs.Typed.{AreThose, Turns}
use Rattle.td_store_rows.specs.Columns.{holder_typing}

-- the statement turned the holders into what f makes of them
abbrev pub TurnsHolders : (List HolderRow → List HolderRow) → State → State → Type 0
TurnsHolders f old new = (l : Layout) → Turns holder_typing (schema_of l) f old new

-- this is the holder with the number, or there is none
abbrev pub IsTheHolder : ℕ → State → Option HolderRow → Type 0
IsTheHolder H state found =
    (l : Layout) → AreThose holder_typing (schema_of l) (λ h. h.holder == H) state (option_to_list found)
