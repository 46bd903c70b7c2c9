use Rattle.std.proofs.Common.{List, ℕ, subst}
use Rattle.td_holder_memory.specs.Places.{IsOnlyPlace}
use Rattle.td_holder_memory.proofs.KeptAmounts.{serials_set}
use Rattle.td_holder_memory.proofs.amounts.Amounts.put_line.Goals as goal

-- the amount that changed stands where it stood
pub invariant_of-self-in-Some-plus : goal.invariant_of-self-in-Some-plus
invariant_of-self-in-Some-plus c =
    let amounts = c.self.inside.items.items in
    let only : IsOnlyPlace (λ k. k.0) c.args.line.now.grn amounts c.in-Some.at = subst (λ (l : List (List ℕ × ℕ)). IsOnlyPlace (λ k. k.0) c.args.line.now.grn l c.in-Some.at) c.deref.ensures.value c.in-Some.ensures.some in
    serials_set c.self.inside.country amounts c.in-Some.at c.in-Some-plus.sum c.index.result.now c.index.result.now c.self.invariant only.within c.index.ensures
