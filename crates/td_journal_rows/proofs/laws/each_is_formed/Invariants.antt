use Rattle.std.proofs.Common.{All, take}
use Rattle.td_journal_rows.specs.Requests.{IsFormedLine}
use Rattle.td_journal_rows.proofs.laws.each_is_formed.Given as goal

-- the lines before have the forms
abbrev pub invariant-loop-line : goal.invariant-loop-line
invariant-loop-line l = All IsFormedLine (take l.line-index l.lines)
