use Rattle.std.proofs.Common.{map, take}
use Rattle.td_words.specs.Commands.{IsCommand, option_rule}
use Rattle.td_words.specs.Words.{command}
use Rattle.td_words.proofs.options.command.Given as goal

-- the command has the options so far
abbrev pub invariant-loop-option : goal.invariant-loop-option
invariant-loop-option l = IsCommand (command l.row.name.now (map option_rule (take l.option-index l.row.options.now))) l.command
