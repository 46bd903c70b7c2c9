-- The last row, as the code has it.
use Rattle.std.specs.Prelude.{Option, option_map}
use Rattle.td_journal_lines.specs.Lines.{Numbered}
use Rattle.td_journal_lines.specs.Rows.{numbered}
use Rattle.td_journal_lines.specs.declared.lines.ChangeRow.{ChangeRow}

-- the last row, where there is one
abbrev pub last_seen : Option ChangeRow → Option Numbered
last_seen last = option_map numbered last
