use Rattle.td_journal_laws.proofs.Rows.{rows_are_done}
use Rattle.td_journal_laws.proofs.laws.rows_are_done.Goals as goal

pub returns : goal.returns
returns c =
    rows_are_done (record {
      back = c.requests_read_back.ensures.back;
      one_line = c.changes_are_rows.ensures;
      redone = c.redone_over_its_beginning.ensures;
    })
