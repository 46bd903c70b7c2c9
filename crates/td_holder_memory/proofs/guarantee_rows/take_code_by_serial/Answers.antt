use Rattle.std.proofs.Common.{◌≡◌, ◌++◌, map, get_or, set, refl, sym, ◌∙◌, ap, ap₂}
use Rattle.std.proofs.lemmas.List.{take-append-drop, map-append}
use Rattle.td_model.specs.Account.{at_grn, uncoded}
use Rattle.td_guarantee.specs.declared.guarantee.Guarantee.{Guarantee}
use Rattle.td_holder_memory.proofs.BySerial.{one_made, none_made}
use Rattle.td_holder_memory.proofs.guarantee_rows.take_code_by_serial.Goals as goal
use Rattle.td_holder_memory.proofs.guarantee_rows.take_code_by_serial.Goals.{in-Some, in_default}

-- one of those that stand in their places loses the code, or none, and what has the GRN behind them
pub returns : goal.returns
returns c =
    let grn = c.args.grn.now in
    let made : Guarantee → Guarantee = uncoded c.args.code.now in
    let ordered = c.split_at_mut-ordered.result.0.now in
    let others = c.split_at_mut-ordered.result.1.now in
    let front : c.match-find_by_serial.ordered ≡ map (at_grn grn made) ordered = elim c.match-find_by_serial.branch [
      | in-Some w ↦
          let now = get_or ordered w.in-Some.at w.index-ordered-at.result in
          w.ordered-is ∙ ap (λ codes. set ordered w.in-Some.at (record now { codes = codes })) w.remove.ensures ∙ sym (one_made (λ g. g.grn) grn made ordered w.in-Some.at w.index-ordered-at.result w.in-Some.ensures.some)
      | in_default w ↦ w.ordered-is ∙ sym (none_made (λ g. g.grn) grn made ordered (w.in_default.ensures.none refl))
    ] in
    let whole : ordered ++ others ≡ c.args.guarantees.now = ap₂ (λ f b. f ++ b) c.split_at_mut-ordered.ensures.front c.split_at_mut-ordered.ensures.back ∙ take-append-drop c.args.placed c.args.guarantees.now in
    ap₂ (λ f b. f ++ b) front c.take_code.ensures ∙ sym (map-append (at_grn grn made) ordered others) ∙ ap (map (at_grn grn made)) whole
