use Rattle.td_redo.proofs.Journals.{start_may_begin_again}
use Rattle.td_redo.proofs.laws.start_may_begin_again.Goals as goal

pub returns : goal.returns
returns c = start_may_begin_again
