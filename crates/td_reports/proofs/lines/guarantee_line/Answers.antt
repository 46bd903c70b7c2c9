use Rattle.std.proofs.Common.{arith}
use Rattle.std.proofs.lemmas.List.{append_assoc}
use Rattle.td_reports.proofs.Padding.{styled_number}
use Rattle.td_reports.proofs.lines.guarantee_line.Goals as goal

pub returns : goal.returns
returns c =
    rw (
      c.in_ok-add_end.ensures,
      c.in_ok-add_amount-4.ensures,
      c.in_ok-add_amount-3.ensures,
      c.in_ok-add_amount-2.ensures,
      c.in_ok-add_amount.ensures,
      c.in_ok-write.ensures.bytes,
      c.in_ok-line.ensures.bytes,
      c.free.ensures,
      c.guaranteed.ensures,
      c.laid_out.ensures,
      c.get.ensures.value,
      styled_number 3 c.args.guarantee.now.cover (omega arith),
    ) (simp append_assoc)
