use Rattle.typed_sql.proofs.Answering.{was_inside}
use Rattle.typed_sql.proofs.Emptied.{emptied_as}
use Rattle.typed_sql.proofs.statements.empty.Goals as goal

pub returns-clause-emptied : goal.returns-clause-emptied
returns-clause-emptied g c clean s t has means have =
    let ran = c.in_ok-execute.ensures.runs clean (was_inside _ c.in_ok-execute.field-0 _ c.in_ok-execute.ensures.ended) in
    emptied_as _ _ c.args.text.now c.in_ok-execute.field-0 s t (has ran.1.was_open) means have ran.0

pub returns-clause-inside : goal.returns-clause-inside
returns-clause-inside g c clean =
    (c.in_ok-execute.ensures.runs clean (was_inside _ c.in_ok-execute.field-0 _ c.in_ok-execute.ensures.ended)).1
