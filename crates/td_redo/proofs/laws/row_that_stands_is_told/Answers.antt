use Rattle.td_redo.proofs.Endings.{row_that_stands_is_told}
use Rattle.td_redo.proofs.laws.row_that_stands_is_told.Goals as goal

pub returns : goal.returns
returns c = row_that_stands_is_told
