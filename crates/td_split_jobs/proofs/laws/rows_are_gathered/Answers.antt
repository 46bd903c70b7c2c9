use Rattle.td_split_jobs.proofs.RowLaws.{rows_are_gathered}
use Rattle.td_split_jobs.proofs.laws.rows_are_gathered.Goals as goal

pub returns : goal.returns
returns g c = rows_are_gathered g.D.Desk.seen g.E.Desk.seen
