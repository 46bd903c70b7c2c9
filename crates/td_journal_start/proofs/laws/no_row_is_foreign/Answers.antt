use Rattle.td_journal_start.proofs.Whole.{no_row_is_foreign}
use Rattle.td_journal_start.proofs.laws.no_row_is_foreign.Goals as goal

pub returns : goal.returns
returns g c = no_row_is_foreign g.D.Desk.seen g.F.Disk
