use Rattle.td_journal_jobs.proofs.Kept.{batch_kept}
use Rattle.td_journal_jobs.proofs.laws.a_batchs_changes_are_kept.Goals as goal

pub returns : goal.returns
returns g c = batch_kept g.F.Disk g.D.Desk.seen g.M.Clock.ticks c.a_batch_is_journaled.ensures
