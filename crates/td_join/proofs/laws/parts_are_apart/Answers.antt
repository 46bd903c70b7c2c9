use Rattle.td_join.proofs.Apart.{parts_are_apart}
use Rattle.td_join.proofs.laws.parts_are_apart.Goals as goal

pub returns : goal.returns
returns c = parts_are_apart
