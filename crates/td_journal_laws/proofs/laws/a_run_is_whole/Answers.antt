use Rattle.td_journal_laws.proofs.Joined.{run_is_whole}
use Rattle.td_journal_laws.proofs.laws.a_run_is_whole.Goals as goal

pub returns : goal.returns
returns g c = run_is_whole g.D.Desk.seen g.F.Disk c.rows_are_done.ensures
