use Rattle.std.proofs.Common.{◌≡◌, Some, None, sym, ◌∙◌, ap}
use Rattle.std.specs.List.{position}
use Rattle.std.specs.Str.{bytes_eq}
use Rattle.td_acts.proofs.Taken.{found_nowhere, found_at_place}
use Rattle.td_acts.proofs.finding.take_movement.Goals as goal

-- none stands anywhere
pub returns-in_err-at : goal.returns-in_err-at
returns-in_err-at c =
    let none : position (λ m. bytes_eq m.mrn c.args.mrn.now) c.args.movements.now.items ≡ None = sym (c.in_err-at.ensures ∙ ap (position (λ m. bytes_eq m.mrn c.args.mrn.now)) c.deref.ensures.value) in
    c.from_residual.ensures ∙ found_nowhere (λ m. bytes_eq m.mrn c.args.mrn.now) c.args.movements.now.items none

-- the one at the place was found
pub returns : goal.returns
returns c =
    let there : position (λ m. bytes_eq m.mrn c.args.mrn.now) c.args.movements.now.items ≡ Some c.in_ok-at.at = sym (c.in_ok-at.ensures ∙ ap (position (λ m. bytes_eq m.mrn c.args.mrn.now)) c.deref.ensures.value) in
    found_at_place (λ m. bytes_eq m.mrn c.args.mrn.now) c.args.movements.now.items c.in_ok-at.at c.swap_remove.result there c.swap_remove.ensures.value
