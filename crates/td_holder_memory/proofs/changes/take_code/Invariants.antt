use Rattle.std.proofs.Common.{◌≡◌, ◌++◌, map, take, drop}
use Rattle.td_guarantee.specs.Codes.{without_code}
use Rattle.td_model.specs.Account.{at_grn}
use Rattle.td_holder_memory.proofs.changes.take_code.Given as goal

-- those before have their codes, and the others are as they were
abbrev pub invariant-loop-guarantee : goal.invariant-loop-guarantee
invariant-loop-guarantee l =
    l.guarantees ≡ map (at_grn l.grn (λ g. record g { codes = without_code l.code g.codes })) (take l.guarantee-index l.initial.guarantees) ++ drop l.guarantee-index l.initial.guarantees
