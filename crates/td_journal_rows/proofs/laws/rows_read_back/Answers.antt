use Rattle.td_journal_rows.proofs.RowsBack.{cut_rows, whole_text}
use Rattle.td_journal_rows.proofs.laws.rows_read_back.Goals as goal

pub returns-clause-back : goal.returns-clause-back
returns-clause-back c = cut_rows

pub returns-clause-whole : goal.returns-clause-whole
returns-clause-whole c = whole_text
