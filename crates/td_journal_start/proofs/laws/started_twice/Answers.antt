use Rattle.td_journal_start.proofs.Again.{started_twice}
use Rattle.td_journal_start.proofs.laws.started_twice.Goals as goal

pub returns : goal.returns
returns g c = started_twice g.D.Desk.seen g.F.Disk
