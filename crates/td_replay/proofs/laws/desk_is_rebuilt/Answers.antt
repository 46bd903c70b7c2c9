use Rattle.td_replay.proofs.Rebuilding as proof
use Rattle.td_replay.proofs.laws.desk_is_rebuilt.Goals as goal

pub returns : goal.returns
returns g c = proof.desk_is_rebuilt g.D.Desk.seen
