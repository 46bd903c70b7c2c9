use Rattle.td_journal_rows.proofs.ReadBack.{apart, each_reads_back}
use Rattle.td_journal_rows.proofs.laws.requests_read_back.Goals as goal

pub returns-clause-back : goal.returns-clause-back
returns-clause-back c = each_reads_back c.days_read_back.ensures

pub returns-clause-apart : goal.returns-clause-apart
returns-clause-apart c = apart c.days_read_back.ensures
