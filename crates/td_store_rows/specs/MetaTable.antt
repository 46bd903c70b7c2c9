-- What is asked of the office's own row in a store's file, and that it is written.
use Rattle.std.specs.Prelude.{◌≡◌, ℕ, pos, List, map, Option}
use Rattle.std.specs.Option.{option_to_list}
use Rattle.sqlite.specs.State.{State}
use Rattle.sqlite_schema.specs.declared.schema.Schema.{Schema}
use Rattle.td_base.specs.Codes.{country_read}
use Rattle.td_schema.specs.Layouts.{schema_of}
use Rattle.td_schema.specs.declared.layout.Layout.{Layout}
use Rattle.typed_sql.specs.Typed.{AreTyped, Turns, typed_rows}
use Rattle.typed_sql.specs.Writing.{HasSchema}
use Rattle.td_store_rows.specs.Columns.{MetaIsFirst, MetaRow, meta_typing}
use Rattle.td_store_rows.specs.declared.meta.stored.StoredMeta.{StoredMeta}

-- what is said of a row: its country, where its text is one
abbrev pub stored_of : MetaRow → StoredMeta
stored_of m = record { version = m.version; country = country_read m.country }

-- the row with another version
abbrev pub with_version : ℕ → MetaRow → MetaRow
with_version version m = record m { version = pos version }

-- the statement turned the rows into what f makes of them
abbrev pub TurnsMeta : (List MetaRow → List MetaRow) → State → State → Type 0
TurnsMeta f old new = (l : Layout) → Turns meta_typing (schema_of l) f old new

-- where the table is the first, it has just the row that was found, or none where none was found
abbrev pub IsTheMeta : State → Option StoredMeta → Type 0
IsTheMeta state found = (s : Schema) → MetaIsFirst s → HasSchema state s → AreTyped meta_typing state.now.trees
    → map stored_of (typed_rows meta_typing state.now.trees) ≡ option_to_list found
