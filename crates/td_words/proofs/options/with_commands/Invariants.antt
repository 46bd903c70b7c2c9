use Rattle.std.proofs.Common.{◌≡◌, fold, map, take}
use Rattle.clap.specs.Words.{app_of, with_subcommand}
use Rattle.td_words.specs.Commands.{row_shape}
use Rattle.td_words.proofs.options.with_commands.Given as goal

-- the program has the commands so far
abbrev pub invariant-loop-place : goal.invariant-loop-place
invariant-loop-place l = app_of l.program ≡ fold with_subcommand (app_of l.fn.bare) (map row_shape (take l.place l.rows))
