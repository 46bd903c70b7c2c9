use Rattle.std.proofs.Common.{◌≡◌, ◌++◌, map, set, refl, sym, ◌∙◌, ap, ap₂}
use Rattle.std.proofs.lemmas.List.{take-append-drop, map-append}
use Rattle.td_model.specs.Changes.{with_status, moved}
use Rattle.td_holder_memory.proofs.BySerial.{one_made, none_made}
use Rattle.td_holder_memory.proofs.movement_rows.put_by_serial.Goals as goal
use Rattle.td_holder_memory.proofs.movement_rows.put_by_serial.Goals.{in-Some, in_default}

-- one of those that stand in their places moves, or none, and what has the MRN behind them
pub returns : goal.returns
returns c =
    let status = c.args.status.now in
    let ordered = c.split_at_mut-ordered.result.0.now in
    let others = c.split_at_mut-ordered.result.1.now in
    let front : c.match-find_by_serial.ordered ≡ map (moved status) ordered = elim c.match-find_by_serial.branch [
      | in-Some w ↦ w.ordered-is ∙ ap (λ m. set ordered w.in-Some.at m) w.put_in.ensures ∙ sym (one_made (λ m. m.mrn) status.mrn (with_status status) ordered w.in-Some.at w.index-ordered-at.result w.in-Some.ensures.some)
      | in_default w ↦ w.ordered-is ∙ sym (none_made (λ m. m.mrn) status.mrn (with_status status) ordered (w.in_default.ensures.none refl))
    ] in
    let whole : ordered ++ others ≡ c.args.movements.now = ap₂ (λ f b. f ++ b) c.split_at_mut-ordered.ensures.front c.split_at_mut-ordered.ensures.back ∙ take-append-drop c.args.placed c.args.movements.now in
    ap₂ (λ f b. f ++ b) front c.put_status.ensures ∙ sym (map-append (moved status) ordered others) ∙ ap (map (moved status)) whole
