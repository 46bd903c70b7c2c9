use Rattle.td_fields.proofs.NameFacts.{control_is}
use Rattle.td_batch_rows.proofs.acts.control_in.Goals as goal

pub returns : goal.returns
returns c = control_is _ _ c.read.ensures.some c.read.ensures.none
