use Rattle.td_table_model.proofs.Changing.{changes_are_written}
use Rattle.td_table_model.proofs.laws.changes_are_written.Goals as goal

pub returns : goal.returns
returns c = changes_are_written
