use Rattle.td_extract.proofs.Between.{accounts_are_of_the_range}
use Rattle.td_extract.proofs.laws.accounts_are_of_the_range.Goals as goal

pub returns : goal.returns
returns c = accounts_are_of_the_range
