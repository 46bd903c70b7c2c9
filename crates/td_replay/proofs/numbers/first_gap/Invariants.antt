use Rattle.std.proofs.Common.{◌≡◌, map, take}
use Rattle.td_journal_lines.specs.Rows.{numbered}
use Rattle.td_replay.specs.Numbers.{AreCounted}
use Rattle.td_replay.proofs.numbers.first_gap.Given as goal

abbrev pub invariant-loop-row : goal.invariant-loop-row
invariant-loop-row l = record {
  counted : AreCounted 1 (map numbered (take l.row-index l.rows));
  before : l.before ≡ l.row-index;
}
