use Rattle.td_journal_laws.proofs.Starting.{start_is_whole}
use Rattle.td_journal_laws.proofs.laws.a_start_is_whole.Goals as goal

pub returns : goal.returns
returns g c = start_is_whole g.D.Desk.seen g.F.Disk c.start_is_whole.ensures
