-- Schemas whose tables begin with those that no version replaces.
use Rattle.std.specs.Prelude.{List, ◌++◌, Bool, true, false, ◌&&◌}
use Rattle.std.specs.List.{list_all}
use Rattle.sqlite_schema.specs.declared.schema.Action.{Action}
use Rattle.sqlite_schema.specs.declared.schema.Action.TheVariants.{NoAction}
use Rattle.sqlite_schema.specs.declared.schema.Index.{Index}
use Rattle.sqlite_schema.specs.declared.schema.Reference.{Reference}
use Rattle.sqlite_schema.specs.declared.schema.Schema.{Schema}
use Rattle.sqlite_schema.specs.declared.schema.Table.{Table}
use Rattle.sqlite_schema.specs.declared.schema.View.{View}
use Rattle.td_schema.specs.Layouts.{base_schema}

-- tables with these behind them, and with any indexes and views
abbrev pub behind : List Table → List Table → List Index → List View → Schema
behind first more indexes views = record { tables = first ++ more; indexes = indexes; views = views }

abbrev pub wider : List Table → List Index → List View → Schema
wider = behind base_schema.tables

-- nothing is done to the rows that refer to one that is taken away or has another key
abbrev pub is_none : Action → Bool
is_none NoAction = true
is_none _ = false

abbrev pub is_still : Reference → Bool
is_still ref = is_none ref.on_delete && is_none ref.on_update

abbrev pub are_still : List Table → Bool
are_still = list_all (λ t. list_all is_still t.references)
