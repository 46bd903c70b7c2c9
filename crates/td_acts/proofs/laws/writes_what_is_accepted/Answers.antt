use Rattle.td_acts.proofs.Written.{written_is_accepted}
use Rattle.td_acts.proofs.laws.writes_what_is_accepted.Goals as goal

pub returns : goal.returns
returns c = written_is_accepted
