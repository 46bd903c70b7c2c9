use Rattle.td_join.proofs.Contents.{splits_join_back}
use Rattle.td_join.proofs.laws.splits_join_back.Goals as goal

pub returns : goal.returns
returns c = splits_join_back
