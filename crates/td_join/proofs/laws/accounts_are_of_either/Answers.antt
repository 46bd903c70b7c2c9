use Rattle.td_join.proofs.Contents.{accounts_are_of_either}
use Rattle.td_join.proofs.laws.accounts_are_of_either.Goals as goal

pub returns : goal.returns
returns c = accounts_are_of_either
