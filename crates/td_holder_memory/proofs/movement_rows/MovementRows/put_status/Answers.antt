use Rattle.std.proofs.Common.{◌≡◌, ◌++◌, List, length, take, drop, map, sym, ◌∙◌, ap, subst}
use Rattle.std.proofs.Math.Seq.{take-append_seam}
use Rattle.std.proofs.lemmas.List.{length-map}
use Rattle.td_movement.specs.declared.movement.Movement.{Movement}
use Rattle.td_model.specs.Changes.{moved}
use Rattle.td_holder_memory.specs.Places.{AreIndexed}
use Rattle.td_holder_memory.proofs.Indexed.{indexed_moved}
use Rattle.td_holder_memory.proofs.movement_rows.MovementRows.put_status.Goals as goal

-- they are indexed as before
pub invariant_of-self : goal.invariant_of-self
invariant_of-self c =
    let old = c.self.inside.items.items in
    let new = c.put_by_serial.new.movements in
    let status = c.args.status.now in
    let is : new ≡ map (moved status) old = c.put_by_serial.ensures ∙ ap (map (moved status)) c.deref_mut.ensures.value in
    let long : length new ≡ c.self.inside.items.len = ap length c.put_by_serial.ensures ∙ length-map c.deref_mut.result.now (moved status) ∙ c.deref_mut.ensures.len in
    let whole : take c.self.inside.items.len (new ++ drop (length new) old) ≡ new = ap (λ n. take n (new ++ drop (length new) old)) (sym long) ∙ take-append_seam new (drop (length new) old) in
    subst (λ (ms : List Movement). AreIndexed c.self.inside.country ms c.self.inside.places c.self.inside.placed) (sym (whole ∙ is)) (indexed_moved c.self.inside.country status old c.self.inside.places c.self.inside.placed c.self.invariant)
