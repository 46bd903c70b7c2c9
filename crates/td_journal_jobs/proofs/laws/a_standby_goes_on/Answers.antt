use Rattle.td_journal_jobs.proofs.Followed.{standby_goes_on}
use Rattle.td_journal_jobs.proofs.laws.a_standby_goes_on.Goals as goal

pub returns : goal.returns
returns g c = standby_goes_on g.D.Desk.seen g.R.Read.remaining _ g.C.Clock.ticks
