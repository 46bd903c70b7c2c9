use Rattle.typed_sql.proofs.Answering.{executed_stays, was_inside}
use Rattle.td_schema.proofs.Steps.{makes}
use Rattle.td_schema.proofs.making.make.Goals as goal

pub returns-clause-made : goal.returns-clause-made
returns-clause-made g c clean s t one was =
    makes _ _ c.args.text.now _ (c.in_ok-execute.ensures.runs clean (was_inside _ c.in_ok-execute.field-0 _ c.in_ok-execute.ensures.ended)) s t one was
