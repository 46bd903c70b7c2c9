use Rattle.std.proofs.Common.{◌≡◌, map}
use Rattle.td_journal_lines.specs.Rows.{numbered}
use Rattle.td_replay.proofs.RowsDone.{HasDone}
use Rattle.td_replay.proofs.replaying.replay.Given as goal

abbrev pub invariant-loop-row : goal.invariant-loop-row
invariant-loop-row g l =
    (l.done ≡ l.row-index) × HasDone g.D.Desk.seen (map numbered l.fn.rows) l.fn.desk l.row-index l.text.items l.differs l.desk
