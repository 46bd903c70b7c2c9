use Rattle.td_journal_start.proofs.Again.{not_refused_again}
use Rattle.td_journal_start.proofs.laws.not_refused_again.Goals as goal

pub returns : goal.returns
returns g c = not_refused_again g.D.Desk.seen g.F.Disk
