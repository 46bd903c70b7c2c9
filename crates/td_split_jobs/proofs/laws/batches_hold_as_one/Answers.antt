use Rattle.td_split_jobs.proofs.RowLaws.{batches_hold_as_one}
use Rattle.td_split_jobs.proofs.laws.batches_hold_as_one.Goals as goal

pub returns : goal.returns
returns g c = batches_hold_as_one c.union_is_one_content.ensures g.D.Desk.seen g.E.Desk.seen
