use Rattle.std.proofs.Common.{Option, Err, rules, sym, subst}
use Rattle.td_journal_start.specs.Begun.{IsUntaken}
use Rattle.td_journal_lines.specs.Rows.{numbered}
use Rattle.td_journal_start.specs.Rows.{last_seen}
use Rattle.td_journal_start.specs.Starts.{IsAsked}
use Rattle.td_journal_lines.specs.declared.lines.ChangeRow.{ChangeRow}
use Rattle.td_journal_start.proofs.Taken.{untaken}
use Rattle.td_journal_start.proofs.starting.take_last.Goals as goal

pub returns-in-Err-clause-refused : goal.returns-in-Err-clause-refused
returns-in-Err-clause-refused g c =
    let view = g.D.Desk.seen in
    let asked : IsAsked view c.args.desk.now (numbered c.in-Some.row).row (Err c.in-Err.fault) c.redo_row.new.desk = search rules in
    subst (λ (last : Option ChangeRow). IsUntaken view c.args.desk.now (last_seen last) c.from.result c.redo_row.new.desk) (sym c.in-Some.is)
    (untaken view c.args.desk.now c.redo_row.new.desk (numbered c.in-Some.row) c.in-Err.fault c.from.result c.from.ensures asked)
