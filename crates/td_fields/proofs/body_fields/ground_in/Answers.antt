use Rattle.td_fields.specs.BodyFields.{ground_read}
use Rattle.td_fields.proofs.MemberFacts.{read_of}
use Rattle.td_fields.proofs.NameFacts.{ground_is}
use Rattle.td_fields.proofs.body_fields.ground_in.Goals as goal

pub returns : goal.returns
returns c =
    let is = ground_is _ _ c.read.ensures.some c.read.ensures.none in
    read_of ground_read _ _ _ (rw c.name.ensures at c.in_ok-text.ensures) (rw c.as_bytes.ensures.value at is)
