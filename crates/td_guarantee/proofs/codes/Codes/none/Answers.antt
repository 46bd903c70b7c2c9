use Rattle.td_guarantee.proofs.Ascending.{none_ascends}
use Rattle.td_guarantee.proofs.codes.Codes.none.Goals as goal

pub invariant_of-result : goal.invariant_of-result
invariant_of-result c = rw c.new.ensures.items none_ascends
