use Rattle.td_acts.proofs.Growing.{account_said_after}
use Rattle.td_acts.proofs.laws.writes_what_the_book_says.Goals as goal

pub returns : goal.returns
returns c = account_said_after
