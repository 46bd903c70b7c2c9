use Rattle.std.proofs.Common.{◌≡◌, length}
use Rattle.td_batch_rows.specs.Declarations.{each_line, parts_at}
use Rattle.td_batch_rows.proofs.PartFacts.{read_from}
use Rattle.td_batch_rows.proofs.declarations.read_lines.Given as goal

abbrev pub invariant-loop-part : goal.invariant-loop-part
invariant-loop-part l = each_line (parts_at 59 l.text) ≡ read_from l.lines.items (parts_at 59 l.text) (length l.yielded)
