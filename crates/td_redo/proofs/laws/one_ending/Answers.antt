use Rattle.td_redo.proofs.Endings.{one_ending}
use Rattle.td_redo.proofs.laws.one_ending.Goals as goal

pub returns : goal.returns
returns c = one_ending
