use Rattle.std.proofs.Common.{refl}
use Rattle.td_replay.proofs.following.next_row.Goals as goal

pub returns-in_default-clause-none : goal.returns-in_default-clause-none
returns-in_default-clause-none c = (refl, c.in_ok-row.ensures.none c.in_default.is)
