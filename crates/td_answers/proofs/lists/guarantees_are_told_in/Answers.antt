use Rattle.td_answers.proofs.PlainObjects.{guarantees_told}
use Rattle.td_answers.proofs.lists.guarantees_are_told_in.Goals as goal

pub returns : goal.returns
returns c = guarantees_told c.args.guarantees.now c.each_guarantee_is_told_in.ensures
