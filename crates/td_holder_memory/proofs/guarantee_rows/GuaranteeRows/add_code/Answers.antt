use Rattle.std.proofs.Common.{◌≡◌, Result, Ok, Err, List, length, map, refl, sym, ◌∙◌, ap, subst}
use Rattle.std.specs.Prelude.{OnOk, OnErr}
use Rattle.td_guarantee.specs.declared.guarantee.Guarantee.{Guarantee}
use Rattle.td_model.specs.Account.{at_grn, coded}
use Rattle.td_holder_memory.specs.Places.{ArePlaced}
use Rattle.td_holder_memory.proofs.BySerial.{placed_made, placed_back, back}
use Rattle.td_holder_memory.proofs.guarantee_rows.GuaranteeRows.add_code.Goals as goal

-- what follows from either result
either_way : {T E P Q X : Type 0} (r : Result T E) → OnOk r P → OnErr r Q → (P → X) → (Q → X) → X
either_way (Ok x) p q with_code without = with_code p
either_way (Err e) p q with_code without = without q

-- they stand where they stood
pub invariant_of-self : goal.invariant_of-self
invariant_of-self c =
    let country = c.self.inside.country in
    let old = c.self.inside.items.items in
    let lent = c.deref_mut.result.now in
    let new = c.add_code_by_serial.new.guarantees in
    let len = c.self.inside.items.len in
    let placed = c.self.inside.placed in
    let same = c.deref_mut.ensures.value in
    let long = c.deref_mut.ensures.len in
    either_way c.add_code_by_serial.result c.add_code_by_serial.ensures.ok c.add_code_by_serial.ensures.err
    (λ changed. placed_back (λ g. g.grn) c.args.grn.now (coded c.args.code) (λ g. refl) country old lent new len placed c.self.invariant same long changed)
    (λ stays. back (λ g. g.grn) country old new len placed (ap length stays ∙ long) (subst (λ (gs : List Guarantee). ArePlaced (λ g. g.grn) country gs placed) (sym (stays ∙ same)) c.self.invariant))

-- so do their copies
pub invariant_of-self-2 : goal.invariant_of-self-2
invariant_of-self-2 c =
    let old = c.self.inside.items.items in
    let f = at_grn c.args.grn.now (coded c.args.code) in
    let is : c.in_ok-self-inside.field-0.items ≡ map f old = c.in_ok-self-inside.ensures ∙ ap (map f) c.deref.ensures.value in
    subst (λ (gs : List Guarantee). ArePlaced (λ g. g.grn) c.self.inside.country gs c.self.inside.placed) (sym is) (placed_made (λ g. g.grn) c.args.grn.now (coded c.args.code) (λ g. refl) c.self.inside.country old c.self.inside.placed c.self.invariant)
