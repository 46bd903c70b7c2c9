use Rattle.td_redo.proofs.Endings.{redone_twice}
use Rattle.td_redo.proofs.laws.redone_twice.Goals as goal

pub returns : goal.returns
returns c = redone_twice
