use Rattle.typed_sql.proofs.Answering.{was_inside}
use Rattle.typed_sql.proofs.Asked.{asked}
use Rattle.typed_sql.proofs.asking.see_open.Goals as goal

pub returns-clause-still : goal.returns-clause-still
returns-clause-still g c clean =
    let ran = c.in_ok-execute.ensures.runs clean (was_inside _ c.in_ok-execute.field-0 _ c.in_ok-execute.ensures.ended) in
    asked _ _ c.in_ok-execute.field-0 ran.0
