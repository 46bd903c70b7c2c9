use Rattle.std.proofs.Common.{◌≡◌, ◌<◌, suc, ◌+◌, length, get_or, set, sym, ◌∙◌, ap, subst, arith}
use Rattle.td_guarantee.specs.declared.guarantee.Guarantee.{Guarantee}
use Rattle.td_model.specs.Account.{at_grn}
use Rattle.td_model.specs.Changes.{with_terms}
use Rattle.td_holder_memory.proofs.Mapping.{mapped_to, next_unmapped, one_more, all_mapped, named_is, named_not}
use Rattle.td_holder_memory.proofs.changes.put_terms.Goals as goal
use Rattle.td_holder_memory.proofs.changes.put_terms.Goals.{then-eq, else-eq}

-- one more is as it is to be
pub loop-guarantee-preserved : goal.loop-guarantee-preserved
loop-guarantee-preserved c =
    let xs = c.args.guarantees.now in
    let grn = c.args.terms.now.grn in
    let made : Guarantee → Guarantee = with_terms c.args.terms.now in
    let f = at_grn grn made in
    let i = c.loop-guarantee.guarantee-index in
    let item = c.guarantee-item.result in
    let now = get_or c.loop-guarantee.guarantees i item in
    let within : i < length xs = omega (arith, c.loop-guarantee-test.true) in
    let was : now ≡ get_or xs i item = ap (λ l. get_or l i item) c.loop-guarantee.invariant ∙ next_unmapped f xs i item in
    let more : suc i ≡ i + 1 = omega arith in
    subst (λ n. c.if-eq.guarantees ≡ mapped_to f n xs) more (elim c.if-eq.branch [
      | then-eq w ↦
          let changes : made now ≡ f (get_or xs i item) = sym (named_is grn made now (sym c.eq.ensures ∙ w.if-eq.true)) ∙ ap f was in
          w.guarantees-is ∙ ap (λ m. set c.loop-guarantee.guarantees i m) (w.put_in.ensures ∙ changes) ∙ ap (λ l. set l i (f (get_or xs i item))) c.loop-guarantee.invariant ∙ one_more f xs i item within
      | else-eq w ↦
          let stays : now ≡ f (get_or xs i item) = sym (named_not grn made now (sym c.eq.ensures ∙ w.if-eq.false)) ∙ ap f was in
          w.guarantees-is ∙ ap (λ m. set c.loop-guarantee.guarantees i m) stays ∙ ap (λ l. set l i (f (get_or xs i item))) c.loop-guarantee.invariant ∙ one_more f xs i item within
    ])

-- all are
pub returns : goal.returns
returns c = c.loop-guarantee.invariant ∙ all_mapped (at_grn c.args.terms.now.grn (with_terms c.args.terms.now)) c.args.guarantees.now c.loop-guarantee.guarantee-index c.loop-guarantee-test.false
