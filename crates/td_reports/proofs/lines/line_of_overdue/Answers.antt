use Rattle.std.proofs.Common.{arith, ◌-◌}
use Rattle.std.proofs.lemmas.List.{append_assoc}
use Rattle.td_reports.proofs.Padding.{styled_state, styled_number}
use Rattle.td_reports.proofs.lines.line_of_overdue.Goals.{in-Arrival, in-Control}
use Rattle.td_reports.proofs.lines.line_of_overdue.Goals as goal

pub returns : goal.returns
returns c = elim c.match-what.branch [
  | in-Arrival w ↦ rw (c.in_ok-writeln.ensures.bytes, c.in_ok-line.ensures.bytes, c.days_past.ensures, w.due-is, w.in-Arrival.is, c.name.ensures, c.laid_out.ensures, c.laid_out-2.ensures, styled_state c.args.movement.now.state, styled_number 5 (c.args.day - w.in-Arrival.due) (omega arith)) (simp append_assoc)
  | in-Control w ↦ rw (c.in_ok-writeln.ensures.bytes, c.in_ok-line.ensures.bytes, c.days_past.ensures, w.due-is, w.in-Control.is, c.name.ensures, c.laid_out.ensures, c.laid_out-2.ensures, styled_state c.args.movement.now.state, styled_number 5 (c.args.day - w.in-Control.due) (omega arith)) (simp append_assoc)
]
