use Rattle.td_redo.proofs.Endings.{row_that_is_due_is_carried}
use Rattle.td_redo.proofs.laws.row_that_is_due_is_carried.Goals as goal

pub returns : goal.returns
returns c = row_that_is_due_is_carried
