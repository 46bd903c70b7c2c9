use Rattle.td_replay.proofs.Rebuilding as proof
use Rattle.td_replay.proofs.laws.part_differs_nowhere.Goals as goal

pub returns : goal.returns
returns g c = proof.part_differs_nowhere g.D.Desk.seen c.a_part_tells_the_same.ensures
