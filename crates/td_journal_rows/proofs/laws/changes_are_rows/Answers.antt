use Rattle.td_journal_rows.proofs.ChangeRows.{change_is_row}
use Rattle.td_journal_rows.proofs.laws.changes_are_rows.Goals as goal

pub returns : goal.returns
returns c = change_is_row
