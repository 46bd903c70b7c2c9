-- Commands as they are made of the table, an option and a command at a time.
use Rattle.std.proofs.Common.{◌≡◌, ◌∙◌, ◌+◌, ◌<◌, ◌||◌, ap, sym, ℕ, false, List, [], ◌∷◌, fold, get_or, length, map, take}
use Rattle.std.proofs.lemmas.List.{map_more}
use Rattle.std.proofs.lemmas.List.Sums.{fold-append}
use Rattle.clap.specs.Words.{AddsArg, AddsSubcommand, App, Text, app_of, rule_of, shape_of, with_rule, with_subcommand}
use Rattle.clap.specs.declared.builder.arg.Arg.{Arg}
use Rattle.clap.specs.declared.builder.command.Command.{Command}
use Rattle.td_words.specs.Commands.{IsCommand, option_rule, row_shape}
use Rattle.td_words.specs.Words.{command}
use Rattle.td_words.specs.declared.table.CommandRow.{CommandRow}
use Rattle.td_words.specs.declared.table.OptionRow.{OptionRow}

-- with one option more
pub with_option : (name : Text) (rows : List OptionRow) (i : ℕ) (d : OptionRow) (old new : Command) (arg : Arg) → i < length rows
    → IsCommand (command name (map option_rule (take i rows))) old → AddsArg old arg new → rule_of arg ≡ option_rule (get_or rows i d)
    → arg.global ≡ false → IsCommand (command name (map option_rule (take (i + 1) rows))) new
with_option name rows i d old new arg below is adds rule local =
    let so_far : App = record { top = command name (map option_rule (take i rows)); subs = [] } in (
      adds.shape local ∙ ap (λ app. with_rule app (rule_of arg)) is.0 ∙ ap (with_rule so_far) rule
          ∙ ap (λ rules. record { top = command name rules; subs = [] }) (sym (map_more option_rule rows i d below)),
      adds.globals ∙ ap (λ global. global || arg.global) is.1 ∙ local,
    )

-- with one command more
pub with_command : (bare : App) (rows : List CommandRow) (i : ℕ) (d : CommandRow) (old sub new : Command) → i < length rows
    → app_of old ≡ fold with_subcommand bare (map row_shape (take i rows)) → IsCommand (row_shape (get_or rows i d)) sub
    → AddsSubcommand old sub new → app_of new ≡ fold with_subcommand bare (map row_shape (take (i + 1) rows))
with_command bare rows i d old sub new below is made adds =
    let so_far : App = fold with_subcommand bare (map row_shape (take i rows)) in
    adds.shape made.1 ∙ ap (λ app. with_subcommand app (shape_of sub)) is ∙ ap (λ app. with_subcommand so_far app.top) made.0
    ∙ sym (fold-append with_subcommand bare (map row_shape (take i rows)) (row_shape (get_or rows i d) ∷ []))
    ∙ ap (fold with_subcommand bare) (sym (map_more row_shape rows i d below))
