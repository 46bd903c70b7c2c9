use Rattle.std.proofs.Common.{◌≡◌, map, take}
use Rattle.td_journal_lines.specs.Rows.{numbered}
use Rattle.td_replay.specs.Numbers.{AreAbove}
use Rattle.td_replay.proofs.Counting.{last_number}
use Rattle.td_replay.proofs.numbers.first_fall.Given as goal

abbrev pub invariant-loop-row : goal.invariant-loop-row
invariant-loop-row l = record {
  above : AreAbove l.initial.before (map numbered (take l.row-index l.others));
  before : l.before ≡ last_number l.initial.before (map numbered (take l.row-index l.others));
}
