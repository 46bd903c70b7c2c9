use Rattle.std.proofs.Common.{◌≤◌, drop, length}
use Rattle.td_journal_rows.specs.Rows.{HasNoLineFeed}
use Rattle.td_journal_start.proofs.tail.lines_end.Given as goal

-- no line feed stands behind the place
abbrev pub invariant-loop-end : goal.invariant-loop-end
invariant-loop-end l = record {
  within : l.end ≤ length l.text;
  none : HasNoLineFeed (drop l.end l.text);
}

abbrev pub decreases-loop-end : goal.decreases-loop-end
decreases-loop-end l = l.end
