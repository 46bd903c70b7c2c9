use Rattle.td_journal_laws.proofs.Running.{crash_after_is_made_good, no_crash_after_is_foreign, run_is_at_rest}
use Rattle.td_journal_laws.proofs.laws.a_run_is_at_rest.Goals as goal

pub returns-clause-rest : goal.returns-clause-rest
returns-clause-rest g c = run_is_at_rest g.D.Desk.seen g.F.Disk c.a_run_is_whole.ensures

pub returns-clause-good : goal.returns-clause-good
returns-clause-good g c = crash_after_is_made_good g.D.Desk.seen g.F.Disk c.a_run_is_whole.ensures c.a_crash_between_is_made_good.ensures.good

pub returns-clause-own : goal.returns-clause-own
returns-clause-own g c = no_crash_after_is_foreign g.D.Desk.seen g.F.Disk c.a_run_is_whole.ensures c.a_crash_between_is_made_good.ensures.own
