-- What the making of a table does.
use Rattle.std.specs.Prelude.{◌≡◌, ℕ, false, List, [], Result, Ok, Err}
use Rattle.sqlite_catalog.specs.Change.{created, next_tree, KeepsRows}
use Rattle.sqlite_resolve.specs.Compile.{table_defined_by}
use Rattle.sqlite_resolve.specs.declared.compiled.Compiled.{Compiled}
use Rattle.sqlite_resolve.specs.declared.error.CompileError.{CompileError}
use Rattle.sqlite_schema.specs.declared.command.Command.TheVariants.{CreateTable}
use Rattle.sqlite_schema.specs.declared.schema.Schema.{Schema}
use Rattle.sqlite_schema.specs.declared.schema.Table.{Table}
use Rattle.sqlite.specs.Does.{lacks_sequence}
use Rattle.sqlite.specs.Effect.{Database}
use Rattle.sqlite.specs.Given.{IsPlain}
use Rattle.sqlite.specs.Listing.{understood}
use Rattle.sqlite.specs.State.{text_of}
use Rattle.typed_sql.specs.Meanings.{command_in}

-- the own text of a statement that is understood
abbrev pub own_text : List ℕ → Result Compiled CompileError → List ℕ
own_text text (Ok c) = text_of text c
own_text text (Err e) = []

-- where these tables are, the text makes this one, and nothing else
pub record MakesOne (s : Schema) (text : List ℕ) (t : Table) : Type 0 where
  pub command : command_in (understood s text) ≡ CreateTable
  pub plain : IsPlain (understood s text)
  pub whole : own_text text (understood s text) ≡ text
  pub table : table_defined_by text ≡ Ok t
  pub uncounted : lacks_sequence (created s t) ≡ false

-- the table was made in a database with these tables: it has no row, and theirs are as they were
pub record IsMade (s : Schema) (t : Table) (old new : Database) : Type 0 where
  pub schema : new.schema ≡ created s t
  pub empty : new.trees (next_tree s) ≡ []
  pub others : KeepsRows s.tables old.trees new.trees
