use Rattle.td_fields.proofs.NameFacts.{ground_is}
use Rattle.td_batch_rows.proofs.acts.ground_in.Goals as goal

pub returns : goal.returns
returns c = ground_is _ _ c.read.ensures.some c.read.ensures.none
