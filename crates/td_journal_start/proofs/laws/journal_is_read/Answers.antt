use Rattle.td_journal_start.proofs.Whole.{journal_is_read}
use Rattle.td_journal_start.proofs.laws.journal_is_read.Goals as goal

pub returns : goal.returns
returns g c = journal_is_read g.D.Desk.seen g.F.Disk
