use Rattle.td_batch.proofs.Alike.{told_alike}
use Rattle.td_batch.proofs.laws.agreeing_batches_tell_the_same.Goals as goal

pub returns : goal.returns
returns g c = told_alike g.D.Desk.seen g.E.Desk.seen
