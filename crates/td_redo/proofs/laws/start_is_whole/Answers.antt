use Rattle.td_redo.proofs.Journals.{start_is_whole}
use Rattle.td_redo.proofs.laws.start_is_whole.Goals as goal

pub returns : goal.returns
returns c = start_is_whole
