use Rattle.std.proofs.Common.{refl, ◌∙◌}
use Rattle.td_base.proofs.Written.{front_written}
use Rattle.td_base.proofs.references.write_front.Goals as goal

pub returns-clause-text : goal.returns-clause-text
returns-clause-text c =
    let all = front_written c.args.text.now c.write_digits.new.bytes c.copy_from_slice.new.self c.write_digits-2.new.bytes c.write_digits-3.new.bytes c.from.result c.args.country c.from-2.result c.from-3.result c.requires c.as_bytes.ensures.form c.write_digits.ensures (c.copy_from_slice.ensures.after ∙ c.as_bytes.ensures.value) c.write_digits-2.ensures c.write_digits-3.ensures in
    all ∙ rw (c.from.ensures, c.from-2.ensures, c.number.ensures.value, c.from-3.ensures) refl
