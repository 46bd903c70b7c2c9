use Rattle.td_batch.proofs.AnsweredAtDesk.{answered_again_at_desk}
use Rattle.td_batch.proofs.laws.an_answered_declaration_is_answered_again.Goals as goal

pub returns : goal.returns
returns g c = answered_again_at_desk g.D.Desk.seen
