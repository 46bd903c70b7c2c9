use Rattle.td_answers.proofs.PlainObjects.{listed_movement_told}
use Rattle.td_answers.proofs.lists.listed_movement_is_told_in.Goals as goal

pub returns : goal.returns
returns c = listed_movement_told c.args.movement.now c.as_bytes-lrn.ensures.form c.is_mrn.ensures
