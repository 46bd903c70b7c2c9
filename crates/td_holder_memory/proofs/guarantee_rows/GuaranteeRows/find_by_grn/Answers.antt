use Rattle.std.proofs.Common.{◌≡◌, ◌++◌, Some, refl, sym, ◌∙◌, ap, ap₂}
use Rattle.std.proofs.lemmas.List.{take-append-drop}
use Rattle.td_model.specs.Account.{guarantee_by_grn}
use Rattle.td_holder_memory.proofs.BySerial.{found_at, found_behind}
use Rattle.td_holder_memory.proofs.guarantee_rows.GuaranteeRows.find_by_grn.Goals as goal

-- it stands at the place of its serial
pub returns-in-Some : goal.returns-in-Some
returns-in-Some c =
    let grn = c.args.grn.now in
    let placed = c.split_at.result.0.now in
    let others = c.split_at.result.1.now in
    let whole : placed ++ others ≡ c.args.self.now = ap₂ (λ f b. f ++ b) c.split_at.ensures.front c.split_at.ensures.back ∙ take-append-drop c.self.inside.placed c.deref.result.now ∙ c.deref.ensures.value ∙ c.self.view_is in
    ap (λ m. Some m) c.index-placed-at.is ∙ sym (found_at (λ g. g.grn) grn placed others c.in-Some.at c.index-placed-at.result c.in-Some.ensures.some) ∙ ap (guarantee_by_grn grn) whole

-- it stands behind those, or nowhere
pub returns-in-None : goal.returns-in-None
returns-in-None c =
    let grn = c.args.grn.now in
    let placed = c.split_at.result.0.now in
    let others = c.split_at.result.1.now in
    let whole : placed ++ others ≡ c.args.self.now = ap₂ (λ f b. f ++ b) c.split_at.ensures.front c.split_at.ensures.back ∙ take-append-drop c.self.inside.placed c.deref.result.now ∙ c.deref.ensures.value ∙ c.self.view_is in
    c.find_guarantee.ensures ∙ sym (found_behind (λ g. g.grn) grn placed others (c.in-None.ensures.none refl)) ∙ ap (guarantee_by_grn grn) whole
