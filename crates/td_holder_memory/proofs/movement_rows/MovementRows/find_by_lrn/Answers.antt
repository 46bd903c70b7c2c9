use Rattle.std.proofs.Common.{◌≡◌, Some, None, sym, ◌∙◌, ap, arith}
use Rattle.std.specs.Prelude.{option_map}
use Rattle.td_model.specs.Account.{movement_by_lrn}
use Rattle.td_holder_memory.specs.Places.{place_by_lrn}
use Rattle.td_holder_memory.proofs.PlaceOfLrn.{place_within, found_by_place, none_by_place}
use Rattle.td_holder_memory.proofs.movement_rows.MovementRows.find_by_lrn.Goals as goal

-- the LRN is none of theirs
pub returns-in_err-at : goal.returns-in_err-at
returns-in_err-at c =
    let lrn = c.args.lrn.now in
    let none : place_by_lrn lrn c.self.inside.items.items ≡ None = sym (c.in_err-at.ensures.value ∙ c.self.invariant.lrns lrn) in
    ap (option_map (λ m. m.now)) c.from_residual.ensures ∙ sym (none_by_place lrn c.self.inside.items.items none) ∙ ap (movement_by_lrn lrn) c.self.view_is

-- a place is one of theirs
pub index-requires : goal.index-requires
index-requires c =
    let lrn = c.args.lrn.now in
    let place : place_by_lrn lrn c.self.inside.items.items ≡ Some c.in_ok-at.field-0.now = sym (c.in_ok-at.ensures.value ∙ c.self.invariant.lrns lrn) in
    omega (arith, place_within lrn c.self.inside.items.items c.in_ok-at.field-0.now place, c.self.inside.items.ok.0)

-- the movement at the place of the LRN
pub returns : goal.returns
returns c =
    let lrn = c.args.lrn.now in
    let place : place_by_lrn lrn c.self.inside.items.items ≡ Some c.in_ok-at.field-0.now = sym (c.in_ok-at.ensures.value ∙ c.self.invariant.lrns lrn) in
    ap (λ m. Some m) c.index.ensures ∙ sym (found_by_place lrn c.self.inside.items.items c.in_ok-at.field-0.now c.index.result.now place) ∙ ap (movement_by_lrn lrn) c.self.view_is
