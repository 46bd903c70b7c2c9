use Rattle.std.proofs.Common.{◌≡◌, ◌++◌, ℕ, List, length, map}
use Rattle.td_journal_lines.specs.Lines.{AreLinesOf}
use Rattle.td_journal_lines.specs.Rows.{numbered}
use Rattle.td_replay.proofs.reading.read_changes.Given as goal

-- the rows so far are the lines before what is left
abbrev pub invariant-loop-line : goal.invariant-loop-line
invariant-loop-line l = (text : List ℕ) × AreLinesOf (map numbered l.rows.items) text × (l.fn.bytes ≡ text ++ l.rest)

abbrev pub decreases-loop-line : goal.decreases-loop-line
decreases-loop-line l = length l.rest
