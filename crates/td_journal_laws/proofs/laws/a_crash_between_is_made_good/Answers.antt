use Rattle.td_journal_laws.proofs.Crashing.{crash_between_is_made_good, no_crash_between_is_foreign}
use Rattle.td_journal_laws.proofs.laws.a_crash_between_is_made_good.Goals as goal

pub returns-clause-good : goal.returns-clause-good
returns-clause-good g c = crash_between_is_made_good g.D.Desk.seen g.F.Disk c.a_start_is_whole.ensures

pub returns-clause-own : goal.returns-clause-own
returns-clause-own g c = no_crash_between_is_foreign g.D.Desk.seen g.F.Disk c.no_start_is_foreign.ensures
