use Rattle.td_journal.proofs.Served.{serving_grown}
use Rattle.td_journal.proofs.laws.a_serving_is_journaled.Goals as goal

pub returns : goal.returns
returns g c =
    serving_grown g.F.Disk g.D.Desk.seen _ g.C.Clock.ticks
