use Rattle.td_journal_rows.proofs.Readings.{day_reads}
use Rattle.td_journal_rows.proofs.laws.day_is_read.Goals as goal

pub returns : goal.returns
returns c = day_reads c.args.day c.day_reads_back.ensures.form c.day_reads_back.ensures.value
