use Rattle.std.proofs.Common.{◌≡◌, ◌+◌, length, map}
use Rattle.td_journal_rows.specs.Rows.{lines_in, row_shown, rows_from, rows_in, torn_in}
use Rattle.td_journal_rows.proofs.Lines.{behind}
use Rattle.td_journal_rows.proofs.rows.read_rows.Given as goal

-- the rows so far and those of what is left are the text's, and so is the torn row
abbrev pub invariant-loop-line : goal.invariant-loop-line
invariant-loop-line l = record {
  rows : rows_in l.fn.bytes ≡ behind (map row_shown l.rows.items) (rows_from (length l.rows.items + 1) (lines_in l.rest));
  torn : torn_in l.fn.bytes ≡ torn_in l.rest;
}

abbrev pub decreases-loop-line : goal.decreases-loop-line
decreases-loop-line l = length l.rest
