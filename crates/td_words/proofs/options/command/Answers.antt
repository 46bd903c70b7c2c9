use Rattle.td_words.proofs.Made.{with_option}
use Rattle.td_words.proofs.options.command.Goals as goal

pub loop-option-preserved : goal.loop-option-preserved
loop-option-preserved c =
    with_option _ c.args.row.now.options.now c.loop-option.option-index _ c.loop-option.command c.in_ok-command.command c.argument.result
    c.loop-option-test.true c.loop-option.invariant c.in_ok-command.ensures c.argument.ensures.rule c.argument.ensures.local
