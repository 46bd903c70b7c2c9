use Rattle.td_store_write.proofs.Decided.{decisions_are_written}
use Rattle.td_store_write.proofs.laws.decisions_are_written.Goals as goal

pub returns : goal.returns
returns c = decisions_are_written
