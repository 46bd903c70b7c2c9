use Rattle.td_acts.proofs.Following.{follows_on}
use Rattle.td_acts.proofs.laws.keeps_rows_sound.Goals as goal

pub returns : goal.returns
returns c = follows_on
