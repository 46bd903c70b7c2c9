use Rattle.td_report_pieces.proofs.Ending.{well_ended, cut_short}
use Rattle.td_report_pieces.proofs.pieces.Pieces.end.Goals as goal

pub returns-then-is_written : goal.returns-then-is_written
returns-then-is_written g c =
    well_ended _ _ _ _ _ _ _ c.add_total-closed.ensures.ok c.add_total-closed.ensures.err c.write_text-is_written.ensures.still c.add_total-closed.ensures.why
    (c.write_text-is_written.ensures.whole c.if-is_written.true)

pub returns : goal.returns
returns g c =
    let part = c.write_text-is_written.ensures.part c.if-is_written.false in
    rw c.fault_after_write.ensures (cut_short _ _ _ _ _ _ _ c.add_total-closed.ensures.ok c.add_total-closed.ensures.err c.write_text-is_written.ensures.still
    c.add_total-closed.ensures.why part.0 part.1 part.2 part.3)
