use Rattle.td_time.proofs.Calendar.{first_day, last_day}
use Rattle.td_time.proofs.day.days_begin_and_end.Goals as goal

pub returns-clause-first : goal.returns-clause-first
returns-clause-first c = first_day

pub returns-clause-last : goal.returns-clause-last
returns-clause-last c = last_day
