use Rattle.std.proofs.Common.{◌≡◌, ◌++◌, map, take, drop}
use Rattle.td_model.specs.Account.{at_grn}
use Rattle.td_model.specs.Changes.{with_terms}
use Rattle.td_holder_memory.proofs.changes.put_terms.Given as goal

-- those before have their terms, and the others are as they were
abbrev pub invariant-loop-guarantee : goal.invariant-loop-guarantee
invariant-loop-guarantee l =
    l.guarantees ≡ map (at_grn l.terms.grn (with_terms l.terms)) (take l.guarantee-index l.initial.guarantees) ++ drop l.guarantee-index l.initial.guarantees
