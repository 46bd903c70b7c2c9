use Rattle.td_journal_rows.proofs.ReadBack.{reads_back}
use Rattle.td_journal_rows.proofs.laws.request_reads_back.Goals as goal

pub returns : goal.returns
returns c = reads_back c.args.command.now c.command_is_typed.ensures.0 c.command_is_typed.ensures.1 c.limit_is_read.ensures
