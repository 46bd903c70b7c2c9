use Rattle.td_base.specs.Days.{day_read}
use Rattle.td_fields.proofs.MemberFacts.{read_of}
use Rattle.td_fields.proofs.body_fields.limit_in.Goals as goal

pub returns : goal.returns
returns c =
    let there = rw c.name.ensures at c.in_ok-text.ensures in
    read_of day_read _ _ _ there (rw c.as_bytes.ensures.value at c.read.ensures.value)
