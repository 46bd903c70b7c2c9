use Rattle.td_fields.specs.BodyFields.{control_read}
use Rattle.td_fields.proofs.MemberFacts.{read_of}
use Rattle.td_fields.proofs.NameFacts.{control_is}
use Rattle.td_fields.proofs.body_fields.result_in.Goals as goal

pub returns : goal.returns
returns c =
    let is = control_is _ _ c.read.ensures.some c.read.ensures.none in
    read_of control_read _ _ _ (rw c.name.ensures at c.in_ok-text.ensures) (rw c.as_bytes.ensures.value at is)
