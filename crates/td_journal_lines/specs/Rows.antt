-- The row of a change, as the code has it.
use Rattle.td_journal_lines.specs.Lines.{Numbered}
use Rattle.td_journal_lines.specs.declared.lines.ChangeRow.{ChangeRow}

abbrev pub numbered : ChangeRow → Numbered
numbered row = record {
  number = row.number;
  row = record { stamped = row.stamped; shown = row.reply.items };
}
