use Rattle.td_money.proofs.Amounts.{cents_text_reads}
use Rattle.td_money.proofs.money.cents_read_back.Goals as goal

pub returns-clause-form : goal.returns-clause-form
returns-clause-form c = (cents_text_reads c.args.amount (rw (← c.amount.view_is) c.amount.invariant)).0

pub returns-clause-value : goal.returns-clause-value
returns-clause-value c = (cents_text_reads c.args.amount (rw (← c.amount.view_is) c.amount.invariant)).1
