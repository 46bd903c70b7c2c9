use Rattle.std.proofs.Common.{◌≡◌, ◌++◌, string_bytes, take}
use Rattle.std.specs.Prelude.{flat_map}
use Rattle.td_journal_rows.specs.Requests.{later_line}
use Rattle.td_journal_rows.proofs.requests.lines_text.Given as goal

-- behind the first, the lines before are written
abbrev pub invariant-loop-line : goal.invariant-loop-line
invariant-loop-line l = string_bytes l.text ≡ string_bytes l.initial.text ++ flat_map later_line (take l.line-index l.others)
