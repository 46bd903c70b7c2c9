use Rattle.std.proofs.Common.{◌≡◌, map}
use Rattle.td_batch.proofs.Done.{HasDone}
use Rattle.td_batch.proofs.running.run_rows.Given as goal

abbrev pub invariant-loop-row : goal.invariant-loop-row
invariant-loop-row g l =
    (l.done ≡ l.row-index)
    × HasDone g.D.Desk.seen g.R.BatchRow.line l.fn.header l.fn.at (map g.R.BatchRow.command l.fn.rows) l.fn.desk
    l.row-index l.text.items l.has_refusal l.desk
