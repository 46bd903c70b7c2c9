use Rattle.td_replay.proofs.Rebuilding as proof
use Rattle.td_replay.proofs.laws.changed_reply_is_told.Goals as goal

pub returns : goal.returns
returns g c = proof.changed_reply_is_told g.D.Desk.seen
