use Rattle.td_base.specs.Codes.{IsEori}
use Rattle.td_base.proofs.Filled.{filled}
use Rattle.td_base.proofs.eori.Eori.read.Goals as goal

pub invariant_of-result : goal.invariant_of-result
invariant_of-result c = filled IsEori 17 c.args.text.now c.copy_from_slice.new.self (c.is_eori.ensures.form.0 c.if-not-is_eori.false) c.copy_from_slice.ensures.after
