use Rattle.td_redo.proofs.Endings.{row_is_said_again}
use Rattle.td_redo.proofs.laws.row_is_said_again.Goals as goal

pub returns : goal.returns
returns c = row_is_said_again
