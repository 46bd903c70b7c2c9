use Rattle.td_journal_laws.proofs.Starting.{no_start_is_foreign}
use Rattle.td_journal_laws.proofs.laws.no_start_is_foreign.Goals as goal

pub returns : goal.returns
returns g c = no_start_is_foreign g.D.Desk.seen g.F.Disk c.no_row_is_foreign.ensures
