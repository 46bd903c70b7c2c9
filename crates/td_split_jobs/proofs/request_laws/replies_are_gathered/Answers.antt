use Rattle.td_split_jobs.proofs.RequestLaws.{replies_are_gathered}
use Rattle.td_split_jobs.proofs.request_laws.replies_are_gathered.Goals as goal

pub returns : goal.returns
returns g c = replies_are_gathered g.D.Desk.seen g.E.Desk.seen
