use Rattle.td_split_jobs.proofs.RowLaws.{batches_tell_as_one}
use Rattle.td_split_jobs.proofs.laws.batches_tell_as_one.Goals as goal

pub returns : goal.returns
returns g c = batches_tell_as_one g.D.Desk.seen g.E.Desk.seen
