use Rattle.td_base.specs.Codes.{eori_read}
use Rattle.td_fields.proofs.MemberFacts.{read_of}
use Rattle.td_fields.proofs.body_fields.eori_in.Goals as goal

pub returns : goal.returns
returns c = read_of eori_read _ _ _ (rw c.name.ensures at c.in_ok-text.ensures) (rw c.as_bytes.ensures.value at c.read.ensures.value)
