use Rattle.std.proofs.Common.{sym}
use Rattle.td_acts.proofs.Fresh.{account_fresh}
use Rattle.td_desk.proofs.laws.fresh_books_are_tied.Goals as goal

pub returns : goal.returns
returns c = λ rows. record { each = λ H. sym (account_fresh H rows); grown = λ H. tt }
