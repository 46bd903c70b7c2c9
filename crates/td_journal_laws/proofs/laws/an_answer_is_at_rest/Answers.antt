use Rattle.td_journal_laws.proofs.Answered.{answer_is_at_rest}
use Rattle.td_journal_laws.proofs.laws.an_answer_is_at_rest.Goals as goal

pub returns : goal.returns
returns g c =
    answer_is_at_rest g.D.Desk.seen g.F.Disk
    (record { back = c.requests_read_back.ensures.back; one_line = c.changes_are_rows.ensures; redone = c.redone_over_its_beginning.ensures })
