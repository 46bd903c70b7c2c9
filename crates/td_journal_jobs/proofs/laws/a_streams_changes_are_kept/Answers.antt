use Rattle.td_journal_jobs.proofs.Kept.{stream_kept}
use Rattle.td_journal_jobs.proofs.laws.a_streams_changes_are_kept.Goals as goal

pub returns : goal.returns
returns g c = stream_kept g.F.Disk g.D.Desk.seen _ _ g.C.Clock.ticks c.a_stream_is_journaled.ensures
