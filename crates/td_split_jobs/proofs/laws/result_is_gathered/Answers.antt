use Rattle.td_split_jobs.proofs.RowLaws.{result_is_gathered}
use Rattle.td_split_jobs.proofs.laws.result_is_gathered.Goals as goal

pub returns : goal.returns
returns g c = result_is_gathered g.D.Desk.seen g.E.Desk.seen
