use Rattle.sqlite.specs.Values.{bound}
use Rattle.typed_sql.proofs.Answering.{was_inside}
use Rattle.typed_sql.proofs.Effects.{inserted_as}
use Rattle.typed_sql.proofs.statements.insert.Goals as goal

pub returns-clause-inserted : goal.returns-clause-inserted
returns-clause-inserted g c clean s t row has means =
    let ran = c.in_ok-execute.ensures.runs clean (was_inside _ c.in_ok-execute.field-0 _ c.in_ok-execute.ensures.ended) in
    inserted_as _ _ c.args.text.now (bound c.args.values.now) c.in_ok-execute.field-0 s t row
    (has ran.1.was_open) means ran.0

pub returns-clause-inside : goal.returns-clause-inside
returns-clause-inside g c clean =
    (c.in_ok-execute.ensures.runs clean (was_inside _ c.in_ok-execute.field-0 _ c.in_ok-execute.ensures.ended)).1
