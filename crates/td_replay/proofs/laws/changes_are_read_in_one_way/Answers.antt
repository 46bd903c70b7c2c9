use Rattle.td_replay.proofs.FirstLines.{read_in_one_way}
use Rattle.td_replay.proofs.laws.changes_are_read_in_one_way.Goals as goal

pub returns : goal.returns
returns c = read_in_one_way
