-- What the rows of the code's table are to clap, and what their values must be.
use Rattle.std.specs.Prelude.{◌≡◌, false, [], map, None, Option, Some, ℕ}
use Rattle.clap.specs.Words.{app_of, new_rule, Rule, Shape, Text}
use Rattle.clap.specs.declared.builder.ArgAction.TheVariants.{Set, SetTrue}
use Rattle.clap.specs.declared.builder.command.Command.{Command}
use Rattle.clap.specs.declared.Command.TheViews.{out-Command}
use Rattle.td_words.specs.Words.{IsDecimal, command}
use Rattle.td_words.specs.declared.table.Bounds.{Bounds}
use Rattle.td_words.specs.declared.table.CommandRow.{CommandRow}
use Rattle.td_words.specs.declared.table.Form.{Form}
use Rattle.td_words.specs.declared.table.Form.TheVariants.{Flag, Named, Word}
use Rattle.td_words.specs.declared.table.OptionRow.{OptionRow}
use Rattle.td_words.specs.declared.table.Wanted.{Wanted}
use Rattle.td_words.specs.declared.table.Wanted.TheVariants.{Number, Seconds}
use Rattle.td_words.specs.declared.table.Wanted.TheVariants as wanted

-- how clap takes an option: by the form in which it stands among the words, and whether it is needed
abbrev pub form_rule : Form → Rule → Rule
form_rule Flag rule = record rule { long = Some rule.id; action = Some SetTrue }
form_rule (Named shown wanted) rule = record rule { long = Some rule.id; action = Some Set; value_names = 1 }
form_rule (Word shown wanted) rule = record rule { action = Some Set; value_names = 1 }

abbrev pub option_rule : OptionRow → Rule
option_rule row = record (form_rule row.form (new_rule row.name.now)) { required = row.needed }

-- how it takes a command
abbrev pub row_shape : CommandRow → Shape
row_shape row = command row.name.now (map option_rule row.options.now)

-- a command that has no others below it, none of whose options holds of such
abbrev pub IsCommand : Shape → Command → Type 0
IsCommand shape c = (app_of c ≡ record { top = shape; subs = [] }) × ((out-Command c).has_globals ≡ false)

-- what the value of an option must be; a flag has its value from clap
abbrev pub wanted_in : Form → Wanted
wanted_in Flag = wanted.Text
wanted_in (Named shown wanted) = wanted
wanted_in (Word shown wanted) = wanted

abbrev pub wanted_of : OptionRow → Wanted
wanted_of row = wanted_in row.form

-- the bounds of a value, where it is a number
abbrev pub bounds_in : Wanted → Option Bounds
bounds_in (Number bounds) = Some bounds
bounds_in (Seconds bounds) = Some bounds
bounds_in _ = None

abbrev pub bounds_of : OptionRow → Option Bounds
bounds_of row = bounds_in (wanted_of row)

-- the text shows a number within the bounds; where there are none it shows no number
abbrev pub IsWithin : Option Bounds → Text → ℕ → Type 0
IsWithin None text n = ⊥
IsWithin (Some bounds) text n = IsDecimal bounds.least bounds.greatest text n
