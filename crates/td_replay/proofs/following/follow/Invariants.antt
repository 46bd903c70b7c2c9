use Rattle.std.proofs.Common.{◌≡◌, ◌<◌, ◌^◌, List, length}
use Rattle.td_journal_lines.specs.Lines.{Numbered}
use Rattle.td_replay.specs.Following.{HasFollowed}
use Rattle.td_replay.proofs.following.follow.Given as goal

-- the rows so far were done, and their number is the count
abbrev pub invariant-loop : goal.invariant-loop
invariant-loop g l =
    (rows : List Numbered) × HasFollowed g.D.Desk.seen g.R.Read.remaining l.fn.desk l.fn.input rows l.bytes.items l.desk l.input
    × (l.done ≡ length rows) × (l.counter ≡ l.done) × (l.done < 10 ^ 18)
