use Rattle.td_acts.proofs.Growing.{account_fresh_book}
use Rattle.td_acts.proofs.laws.fresh_book_says_its_account.Goals as goal

pub returns : goal.returns
returns c = account_fresh_book
