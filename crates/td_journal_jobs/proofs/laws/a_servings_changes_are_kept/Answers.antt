use Rattle.td_journal_jobs.proofs.Kept.{serving_kept}
use Rattle.td_journal_jobs.proofs.laws.a_servings_changes_are_kept.Goals as goal

pub returns : goal.returns
returns g c = serving_kept g.F.Disk g.D.Desk.seen _ g.C.Clock.ticks c.a_serving_is_journaled.ensures
