use Rattle.td_batch.proofs.AgainAtDesk.{again_changes_nothing}
use Rattle.td_batch.proofs.laws.a_batch_done_again_changes_nothing.Goals as goal

pub returns : goal.returns
returns g c = again_changes_nothing g.D.Desk.seen
