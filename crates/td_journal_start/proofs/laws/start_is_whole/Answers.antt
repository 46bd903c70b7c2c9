use Rattle.td_journal_start.proofs.Whole.{start_is_whole}
use Rattle.td_journal_start.proofs.laws.start_is_whole.Goals as goal

pub returns : goal.returns
returns g c = start_is_whole g.D.Desk.seen g.F.Disk
