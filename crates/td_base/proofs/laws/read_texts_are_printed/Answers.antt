use Rattle.td_time.proofs.DayAgain.{day_again}
use Rattle.td_money.proofs.Printed.{cents_again}
use Rattle.td_base.proofs.Printed.{holder_again}
use Rattle.td_base.proofs.laws.read_texts_are_printed.Goals as goal

pub returns-clause-holder : goal.returns-clause-holder
returns-clause-holder c = holder_again c.args.text.now

pub returns-clause-cents : goal.returns-clause-cents
returns-clause-cents c = cents_again c.args.text.now

pub returns-clause-day : goal.returns-clause-day
returns-clause-day c = day_again c.args.text.now
