use Rattle.td_table_model.proofs.Told.{references_tell}
use Rattle.td_table_model.proofs.laws.references_tell_keys.Goals as goal

pub returns : goal.returns
returns c = references_tell
