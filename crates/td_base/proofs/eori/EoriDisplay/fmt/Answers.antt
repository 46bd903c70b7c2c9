use Rattle.ascii_text.proofs.Ascii.{IsAscii-from_letters}
use Rattle.td_base.proofs.eori.EoriDisplay.fmt.Goals as goal

pub write_ascii-requires : goal.write_ascii-requires
write_ascii-requires g c = rw c.as_bytes.ensures.value (IsAscii-from_letters 2 c.args.self.now c.as_bytes.ensures.form.country c.as_bytes.ensures.form.marks)
