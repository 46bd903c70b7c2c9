use Rattle.td_answers.proofs.PlainObjects.{movements_told}
use Rattle.td_answers.proofs.lists.movements_are_told_in.Goals as goal

pub returns : goal.returns
returns c = movements_told c.args.movements.now c.each_movement_is_told_in.ensures
