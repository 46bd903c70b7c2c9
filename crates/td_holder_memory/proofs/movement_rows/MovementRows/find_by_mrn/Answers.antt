use Rattle.std.proofs.Common.{◌≡◌, ◌++◌, Some, refl, sym, ◌∙◌, ap, ap₂}
use Rattle.std.proofs.lemmas.List.{take-append-drop}
use Rattle.td_model.specs.Account.{movement_by_mrn}
use Rattle.td_holder_memory.proofs.BySerial.{found_at, found_behind}
use Rattle.td_holder_memory.proofs.movement_rows.MovementRows.find_by_mrn.Goals as goal

-- it stands at the place of its serial
pub returns-in-Some : goal.returns-in-Some
returns-in-Some c =
    let mrn = c.args.mrn.now in
    let placed = c.split_at.result.0.now in
    let others = c.split_at.result.1.now in
    let whole : placed ++ others ≡ c.args.self.now = ap₂ (λ f b. f ++ b) c.split_at.ensures.front c.split_at.ensures.back ∙ take-append-drop c.self.inside.placed c.deref.result.now ∙ c.deref.ensures.value ∙ c.self.view_is in
    ap (λ m. Some m) c.index-placed-at.is ∙ sym (found_at (λ m. m.mrn) mrn placed others c.in-Some.at c.index-placed-at.result c.in-Some.ensures.some) ∙ ap (movement_by_mrn mrn) whole

-- it stands behind those, or nowhere
pub returns-in-None : goal.returns-in-None
returns-in-None c =
    let mrn = c.args.mrn.now in
    let placed = c.split_at.result.0.now in
    let others = c.split_at.result.1.now in
    let whole : placed ++ others ≡ c.args.self.now = ap₂ (λ f b. f ++ b) c.split_at.ensures.front c.split_at.ensures.back ∙ take-append-drop c.self.inside.placed c.deref.result.now ∙ c.deref.ensures.value ∙ c.self.view_is in
    c.find_movement_by_mrn.ensures ∙ sym (found_behind (λ m. m.mrn) mrn placed others (c.in-None.ensures.none refl)) ∙ ap (movement_by_mrn mrn) whole
