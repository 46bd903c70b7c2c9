use Rattle.td_journal.proofs.Batched.{batch_grown}
use Rattle.td_journal.proofs.laws.a_batch_is_journaled.Goals as goal

pub returns : goal.returns
returns g c = batch_grown g.F.Disk g.D.Desk.seen
