use Rattle.std.proofs.Common.{◌≡◌, ℕ, List, Option, refl, sym, ◌∙◌, ap, subst}
use Rattle.std.specs.Prelude.{IfSome}
use Rattle.td_holder_memory.specs.Kept.{AreKept, kept_on}
use Rattle.td_holder_memory.specs.Places.{IsOnlyPlace}
use Rattle.td_holder_memory.proofs.KeptAmounts.{kept_alone, kept_none}
use Rattle.td_holder_memory.proofs.amounts.Amounts.amount_on.Goals as goal

-- the amount stands at the only place of the GRN
pub returns-in-Some : goal.returns-in-Some
returns-in-Some c = λ used are.
    let grn = c.args.grn.now in
    let amounts = c.self.inside.items.items in
    let kept = subst (λ k. AreKept used k) (sym c.self.view_is) are c.if-not-self.false grn in
    let only : IsOnlyPlace (λ k. k.0) grn amounts c.in-Some.at = subst (λ (l : List (List ℕ × ℕ)). IsOnlyPlace (λ k. k.0) grn l c.in-Some.at) c.deref.ensures.value c.in-Some.ensures.some in
    ap (λ (x : List ℕ × ℕ). x.1) c.index.ensures ∙ sym (kept_alone grn amounts c.in-Some.at c.index.result.now only) ∙ kept

-- or no place is its own, and nothing is in use
pub returns-in-None : goal.returns-in-None
returns-in-None c = λ used are.
    let grn = c.args.grn.now in
    let kept = subst (λ k. AreKept used k) (sym c.self.view_is) are c.if-not-self.false grn in
    let none = ap (λ l. kept_on grn l) (sym c.deref.ensures.value) ∙ kept_none grn c.deref.result.now (c.in-None.ensures.none refl) in
    subst (λ (o : Option ℕ). IfSome o (λ amount. amount ≡ used grn)) (sym c.new.ensures.value) (sym none ∙ kept)
