use Rattle.td_redo.proofs.Endings.{ends_as_redone}
use Rattle.td_redo.proofs.laws.ends_as_redone.Goals as goal

pub returns : goal.returns
returns c = ends_as_redone
