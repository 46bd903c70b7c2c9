use Rattle.td_journal_laws.proofs.Crashing.{crash_is_made_good, no_crash_is_foreign, row_first_is_made_good}
use Rattle.td_journal_laws.proofs.laws.a_crash_is_made_good.Goals as goal

pub returns-clause-good : goal.returns-clause-good
returns-clause-good g c =
    crash_is_made_good g.D.Desk.seen g.F.Disk
    (record { back = c.requests_read_back.ensures.back; one_line = c.changes_are_rows.ensures; redone = c.redone_over_its_beginning.ensures })
    c.crash_leaves_either.ensures c.a_start_is_whole.ensures

pub returns-clause-own : goal.returns-clause-own
returns-clause-own g c =
    no_crash_is_foreign g.D.Desk.seen g.F.Disk
    (record { back = c.requests_read_back.ensures.back; one_line = c.changes_are_rows.ensures; redone = c.redone_over_its_beginning.ensures })
    c.crash_leaves_either.ensures c.no_start_is_foreign.ensures

pub returns-clause-within : goal.returns-clause-within
returns-clause-within g c =
    row_first_is_made_good g.D.Desk.seen g.F.Disk
    (record { back = c.requests_read_back.ensures.back; one_line = c.changes_are_rows.ensures; redone = c.redone_over_its_beginning.ensures })
    c.a_start_is_whole.ensures
