use Rattle.clap.specs.Words.{app_of}
use Rattle.td_words.proofs.Made.{with_command}
use Rattle.td_words.proofs.options.with_commands.Goals as goal

pub loop-place-preserved : goal.loop-place-preserved
loop-place-preserved c =
    with_command (app_of c.args.bare) c.args.rows.now c.loop-place.place _ c.loop-place.program c.in_ok-command.field-0 c.in_ok-program.program
    c.loop-place-test.true c.loop-place.invariant c.in_ok-command.ensures c.in_ok-program.ensures
