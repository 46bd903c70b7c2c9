use Rattle.std.proofs.Common.{arith}
use Rattle.td_base.proofs.Ascii.{IsAscii-from_form}
use Rattle.td_base.proofs.mrn.MrnDisplay.fmt.Goals as goal

pub write_ascii-requires : goal.write_ascii-requires
write_ascii-requires g c = rw c.as_bytes.ensures.value (IsAscii-from_form c.args.self.now (omega (arith, c.as_bytes.ensures.form.size)) c.as_bytes.ensures.form.form)
