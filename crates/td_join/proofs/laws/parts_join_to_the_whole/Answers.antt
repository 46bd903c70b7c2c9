use Rattle.td_join.proofs.Contents.{parts_join_to_the_whole}
use Rattle.td_join.proofs.laws.parts_join_to_the_whole.Goals as goal

pub returns : goal.returns
returns c = parts_join_to_the_whole
