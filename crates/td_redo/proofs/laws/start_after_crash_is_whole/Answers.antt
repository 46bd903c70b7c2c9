use Rattle.td_redo.proofs.AfterCrash.{start_after_crash_is_whole}
use Rattle.td_redo.proofs.laws.start_after_crash_is_whole.Goals as goal

pub returns : goal.returns
returns g c = start_after_crash_is_whole g.D.Desk.seen
