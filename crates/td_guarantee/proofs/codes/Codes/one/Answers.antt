use Rattle.td_guarantee.proofs.Ascending.{one_ascends}
use Rattle.td_guarantee.proofs.codes.Codes.one.Goals as goal

pub invariant_of-result : goal.invariant_of-result
invariant_of-result c = one_ascends c.args.code
