use Rattle.std.proofs.Common.{◌≡◌, map, take}
use Rattle.td_guarantee.specs.Codes.{with_code}
use Rattle.td_model.specs.Account.{at_grn}
use Rattle.td_holder_memory.proofs.changes.copies_with_code.Given as goal

-- those before are copied
abbrev pub invariant-loop-guarantee : goal.invariant-loop-guarantee
invariant-loop-guarantee l = l.copies.items ≡ map (at_grn l.grn (λ g. record g { codes = with_code l.code g.codes })) (take l.guarantee-index l.guarantees)
