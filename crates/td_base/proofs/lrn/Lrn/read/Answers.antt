use Rattle.td_base.specs.Codes.{IsLrn}
use Rattle.td_base.proofs.Filled.{filled}
use Rattle.td_base.proofs.lrn.Lrn.read.Goals as goal

pub invariant_of-result : goal.invariant_of-result
invariant_of-result c = filled IsLrn 22 c.args.text.now c.copy_from_slice.new.self (c.is_lrn.ensures.form.0 c.if-not-is_lrn.false) c.copy_from_slice.ensures.after
