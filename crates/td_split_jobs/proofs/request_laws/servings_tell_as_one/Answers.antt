use Rattle.td_split_jobs.proofs.RequestLaws.{servings_tell_as_one}
use Rattle.td_split_jobs.proofs.request_laws.servings_tell_as_one.Goals as goal

pub returns : goal.returns
returns g c = servings_tell_as_one g.D.Desk.seen g.E.Desk.seen
