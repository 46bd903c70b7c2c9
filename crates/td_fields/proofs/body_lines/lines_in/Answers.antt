use Rattle.std.proofs.Common.{Some}
use Rattle.td_commands.specs.Lines.{lines_of}
use Rattle.td_fields.specs.BodyFields.{lines_of_body}
use Rattle.td_fields.proofs.MemberFacts.{read_of}
use Rattle.td_fields.proofs.body_lines.lines_in.Goals as goal

pub returns-in-Some-2 : goal.returns-in-Some-2
returns-in-Some-2 c =
    let there = rw c.name.ensures at c.in-Some.ensures in
    let read = rw (c.in-Some-2.is, c.deref.ensures.value) at c.in_ok-lines.ensures in
    read_of lines_of _ _ _ (read_of lines_of_body _ _ (Some _) there read) c.new.ensures.value
