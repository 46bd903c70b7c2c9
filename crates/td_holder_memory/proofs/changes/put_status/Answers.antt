use Rattle.std.proofs.Common.{◌≡◌, ◌<◌, suc, ◌+◌, length, get_or, set, sym, ◌∙◌, ap, subst, arith}
use Rattle.td_model.specs.Changes.{with_status, moved}
use Rattle.td_holder_memory.proofs.Mapping.{mapped_to, next_unmapped, one_more, all_mapped, moved_is, moved_not}
use Rattle.td_holder_memory.proofs.changes.put_status.Goals as goal
use Rattle.td_holder_memory.proofs.changes.put_status.Goals.{then-eq, else-eq}

-- one more is in its state
pub loop-movement-preserved : goal.loop-movement-preserved
loop-movement-preserved c =
    let xs = c.args.movements.now in
    let f = moved c.args.status.now in
    let i = c.loop-movement.movement-index in
    let item = c.movement-item.result in
    let status = c.args.status.now in
    let now = get_or c.loop-movement.movements i item in
    let within : i < length xs = omega (arith, c.loop-movement-test.true) in
    let was : now ≡ get_or xs i item = ap (λ l. get_or l i item) c.loop-movement.invariant ∙ next_unmapped f xs i item in
    let more : suc i ≡ i + 1 = omega arith in
    subst (λ n. c.if-eq.movements ≡ mapped_to f n xs) more (elim c.if-eq.branch [
      | then-eq w ↦
          let moves : with_status status now ≡ f (get_or xs i item) = sym (moved_is status now (sym c.eq.ensures ∙ w.if-eq.true)) ∙ ap f was in
          w.movements-is ∙ ap (λ m. set c.loop-movement.movements i m) (w.put_in.ensures ∙ moves) ∙ ap (λ l. set l i (f (get_or xs i item))) c.loop-movement.invariant ∙ one_more f xs i item within
      | else-eq w ↦
          let stays : now ≡ f (get_or xs i item) = sym (moved_not status now (sym c.eq.ensures ∙ w.if-eq.false)) ∙ ap f was in
          w.movements-is ∙ ap (λ m. set c.loop-movement.movements i m) stays ∙ ap (λ l. set l i (f (get_or xs i item))) c.loop-movement.invariant ∙ one_more f xs i item within
    ])

-- all are
pub returns : goal.returns
returns c = c.loop-movement.invariant ∙ all_mapped (moved c.args.status.now) c.args.movements.now c.loop-movement.movement-index c.loop-movement-test.false
