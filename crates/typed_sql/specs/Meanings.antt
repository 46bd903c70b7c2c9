-- What the text of a statement on one table means, where the tables are those of a schema.
use Rattle.std.specs.Prelude.{◌≡◌, ℕ, pos, negsuc, false, List, [], ◌∷◌, ◌/◌, length, slice_get, Some, None, Result, Ok, Err}
use Rattle.sqlite_value.specs.declared.keys.Key.{Key}
use Rattle.sqlite_value.specs.declared.value.Value.TheVariants.{Int}
use Rattle.sqlite_value.specs.Order.{Row}
use Rattle.sqlite_sql.specs.Query.{Query, inner, end}
use Rattle.sqlite_sql.specs.Term.{Term, lit, col, eval_all}
use Rattle.sqlite_rules.specs.Action.{works}
use Rattle.sqlite_schema.specs.declared.command.Command.{Command}
use Rattle.sqlite_schema.specs.declared.command.Command.TheVariants.{Select, Insert, Update, Delete, Nothing}
use Rattle.sqlite_schema.specs.declared.command.Source.TheVariants.{Values}
use Rattle.sqlite_schema.specs.declared.program.Program.{Program}
use Rattle.sqlite_schema.specs.declared.schema.Keys.TheVariants.{Enforced}
use Rattle.sqlite_schema.specs.declared.schema.Schema.{Schema}
use Rattle.sqlite_schema.specs.declared.schema.Table.{Table}
use Rattle.sqlite_resolve.specs.declared.compiled.Compiled.{Compiled}
use Rattle.sqlite_resolve.specs.declared.error.CompileError.{CompileError}
use Rattle.sqlite.specs.Given.{IsPlain}
use Rattle.sqlite.specs.Listing.{understood, reads_listing}
use Rattle.sqlite.specs.Effect.{value_rows}

-- the command of a text that is understood
abbrev pub command_in : Result Compiled CompileError → Command
command_in (Ok c) = c.command
command_in (Err e) = Nothing

-- a table that counts no rowids, and of which no column's default reads the time
abbrev pub plain_table : Table → Table
plain_table t = record t { is_counted = false; stamps = record { places = []; terms = []; formats = [] } }

-- the table stands at this place, and no foreign key carries a change of its rows on to another table
pub record HasTable (s : Schema) (place : ℕ) (t : Table) : Type 0 where
  pub there : slice_get s.tables place ≡ Some (plain_table t)
  pub free : (olds news : List Row) → works s Enforced 0 t.tree olds news ≡ []

-- Of the rows in a tree those that pass every term, each shown by terms. A term reads the values that were given
-- in slot 0, and the row in slot 1: its rowid at 0, and its columns from 1 on.
abbrev pub plain_query : ℕ → List Term → List Term → List (Term × Key) → Query
plain_query tree tests shows order = record {
  from = inner tree end;
  filter = tests;
  group = None;
  project = shows;
  distinct = false;
  collations = [];
  order = order;
  limit = lit (Int (negsuc 0));
  offset = lit (Int (pos 0));
}

abbrev pub program_of : Query → Program
program_of q = record { lets = []; body = q }

-- the text inserts one row: the terms say its rowid, NULL for one that is free, and its columns
pub record MeansInsert (s : Schema) (text : List ℕ) (t : Table) (row : List Term) : Type 0 where
  pub place : ℕ
  pub width : ℕ
  pub table : HasTable s place t
  pub command : command_in (understood s text) ≡ Insert place (Values row width)
  pub plain : IsPlain (understood s text)
  pub one : (values : Row) → value_rows values width (length row / width) row ≡ eval_all row (values ∷ []) ∷ []

-- the text sets the columns of the rows that pass the tests to these terms; each keeps its rowid
pub record MeansUpdate (s : Schema) (text : List ℕ) (t : Table) (tests columns : List Term) : Type 0 where
  pub place : ℕ
  pub table : HasTable s place t
  pub command : command_in (understood s text)
      ≡ Update place (program_of (plain_query t.tree tests (col 1 0 ∷ col 1 0 ∷ columns) []))
  pub plain : IsPlain (understood s text)

-- the text deletes the rows that pass the tests
pub record MeansDelete (s : Schema) (text : List ℕ) (t : Table) (tests : List Term) : Type 0 where
  pub place : ℕ
  pub table : HasTable s place t
  pub command : command_in (understood s text)
      ≡ Delete place (program_of (plain_query t.tree tests (col 1 0 ∷ []) []))
  pub plain : IsPlain (understood s text)

-- the text shows the rows in a tree that pass the tests, in this order
pub record MeansSelect (s : Schema) (text : List ℕ) (tree : ℕ) (tests shows : List Term)
    (order : List (Term × Key)) : Type 0 where
  pub names : List (List ℕ)
  pub command : command_in (understood s text) ≡ Select (program_of (plain_query tree tests shows order)) names
  pub plain : IsPlain (understood s text)
  pub unlisted : reads_listing s text ≡ false
