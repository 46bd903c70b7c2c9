-- What is told by a version of the tables.
use Rattle.std.specs.Prelude.{◌≡◌, ℕ, List, nat_lt, if◌then◌else◌}
use Rattle.sqlite_schema.specs.declared.schema.Schema.{Schema}
use Rattle.td_table_model.specs.Tables.{version_with_amounts}
use Rattle.td_schema.specs.Layouts.{schema_of, version_with_more_lines}
use Rattle.td_schema.specs.declared.layout.Layout.{Layout}
use Rattle.td_store_rows.specs.StoreReads.{IsOfVersion}
use Rattle.td_store_audit_rows.specs.declared.texts.TheConstants.{GUARANTEES1, GUARANTEES2, LINES1, LINES3}

-- the tables are those of a layout of it
abbrev pub IsSchemaOf : ℕ → Schema → Type 0
IsSchemaOf version s = (l : Layout) × IsOfVersion version l × (s ≡ schema_of l)

-- the text that shows all rows of guarantees
abbrev pub guarantees_text : ℕ → List ℕ
guarantees_text version = if nat_lt version version_with_amounts then GUARANTEES1.now else GUARANTEES2.now

-- and all rows of lines
abbrev pub lines_text : ℕ → List ℕ
lines_text version = if nat_lt version version_with_more_lines then LINES1.now else LINES3.now
