use Rattle.std.proofs.Common.{◌≡◌, ◌++◌, map, set, refl, sym, ◌∙◌, ap, ap₂}
use Rattle.std.proofs.lemmas.List.{take-append-drop, map-append}
use Rattle.td_model.specs.Account.{at_grn}
use Rattle.td_model.specs.Changes.{with_terms}
use Rattle.td_holder_memory.proofs.BySerial.{one_made, none_made}
use Rattle.td_holder_memory.proofs.guarantee_rows.put_terms_by_serial.Goals as goal
use Rattle.td_holder_memory.proofs.guarantee_rows.put_terms_by_serial.Goals.{in-Some, in_default}

-- one of those that stand in their places has the terms, or none, and what has the GRN behind them
pub returns : goal.returns
returns c =
    let terms = c.args.terms.now in
    let ordered = c.split_at_mut-ordered.result.0.now in
    let others = c.split_at_mut-ordered.result.1.now in
    let front : c.match-find_by_serial.ordered ≡ map (at_grn terms.grn (with_terms terms)) ordered = elim c.match-find_by_serial.branch [
      | in-Some w ↦ w.ordered-is ∙ ap (λ g. set ordered w.in-Some.at g) w.put_in.ensures ∙ sym (one_made (λ g. g.grn) terms.grn (with_terms terms) ordered w.in-Some.at w.index-ordered-at.result w.in-Some.ensures.some)
      | in_default w ↦ w.ordered-is ∙ sym (none_made (λ g. g.grn) terms.grn (with_terms terms) ordered (w.in_default.ensures.none refl))
    ] in
    let whole : ordered ++ others ≡ c.args.guarantees.now = ap₂ (λ f b. f ++ b) c.split_at_mut-ordered.ensures.front c.split_at_mut-ordered.ensures.back ∙ take-append-drop c.args.placed c.args.guarantees.now in
    ap₂ (λ f b. f ++ b) front c.put_terms.ensures ∙ sym (map-append (at_grn terms.grn (with_terms terms)) ordered others) ∙ ap (map (at_grn terms.grn (with_terms terms))) whole
