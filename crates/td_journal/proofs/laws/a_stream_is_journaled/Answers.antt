use Rattle.td_journal.proofs.Streamed.{stream_grown}
use Rattle.td_journal.proofs.laws.a_stream_is_journaled.Goals as goal

pub returns : goal.returns
returns g c = stream_grown g.F.Disk g.D.Desk.seen g.C.Clock.ticks
