use Rattle.std.proofs.Common.{◌≡◌, ◌++◌, ◌∷◌, [], ℕ, ◌+◌, List, Some, length, sym, ◌∙◌, ap, subst, arith}
use Rattle.std.proofs.lemmas.Bool.Decides.{nat_tests}
use Rattle.std.proofs.lemmas.List.{length-append}
use Rattle.td_base.specs.References.{serial_of}
use Rattle.td_movement.specs.declared.movement.Movement.{Movement}
use Rattle.td_holder_memory.specs.Places.{AreIndexed}
use Rattle.td_holder_memory.proofs.Indexed.{HasPlaceFor, indexed_more, indexed_next}
use Rattle.td_holder_memory.proofs.movement_rows.MovementRows.push.Goals as goal
use Rattle.td_holder_memory.proofs.movement_rows.MovementRows.push.Goals.{then-self-count, else-self-count}

-- so many stand in their places, and the MRN is of the next serial
abbrev IsNext : List ℕ → ℕ → ℕ → List ℕ → Type 0
IsNext country count placed mrn = (placed ≡ count) × (serial_of country mrn ≡ Some (count + 1))

-- the movement stands in its place behind the others
pub invariant_of-self-then-in_place : goal.invariant_of-self-then-in_place
invariant_of-self-then-in_place c =
    let country = c.self.inside.country in
    let ms = c.self.inside.items.items in
    let m = c.args.movement in
    let count = length ms in
    let long : c.len-count.result ≡ count = c.len-count.ensures ∙ c.self.inside.items.ok.0 in
    let facts : IsNext country count c.self.inside.placed m.mrn = elim c.if-self-count.branch [
      | then-self-count w ↦
          let next = w.is_next-in_place.ensures.0 (sym w.in_place-is ∙ c.if-in_place.true) in
          (w.if-self-count.true ∙ long, sym w.serial.ensures ∙ next ∙ ap (λ n. Some (n + 1)) long)
      | else-self-count w ↦
          let other = w.if-self-count.false in
          let same = sym w.in_place-is ∙ c.if-in_place.true in
          absurd (grind (arith, nat_tests, other, same))
    ] in
    let more = subst (HasPlaceFor m.lrn c.self.inside.places c.put_place.new.places) long c.in_ok-put_place.ensures.ok in
    let is = indexed_next country ms m c.self.inside.places c.put_place.new.places c.self.inside.placed c.self.invariant more facts.0 facts.1 in
    let items : c.push_reserved.new.self.items ≡ ms ++ m ∷ [] = c.push_reserved.ensures.items ∙ ap (λ l. l ++ m ∷ []) c.in_ok-reserve.ensures.items in
    let behind : c.len-self-inside.result ≡ count + 1 = c.len-self-inside.ensures ∙ c.push_reserved.new.self.ok.0 ∙ ap length items ∙ length-append ms (m ∷ []) in
    subst (λ n. AreIndexed country c.push_reserved.new.self.items c.put_place.new.places n) (sym behind)
    (subst (λ (l : List Movement). AreIndexed country l c.put_place.new.places (count + 1)) (sym items) is)

-- as many as before stand in their places
pub invariant_of-self-else-in_place : goal.invariant_of-self-else-in_place
invariant_of-self-else-in_place c =
    let country = c.self.inside.country in
    let ms = c.self.inside.items.items in
    let m = c.args.movement in
    let long : c.len-count.result ≡ length ms = c.len-count.ensures ∙ c.self.inside.items.ok.0 in
    let more = subst (HasPlaceFor m.lrn c.self.inside.places c.put_place.new.places) long c.in_ok-put_place.ensures.ok in
    let items : c.push_reserved.new.self.items ≡ ms ++ m ∷ [] = c.push_reserved.ensures.items ∙ ap (λ l. l ++ m ∷ []) c.in_ok-reserve.ensures.items in
    subst (λ (l : List Movement). AreIndexed country l c.put_place.new.places c.self.inside.placed) (sym items)
    (indexed_more country ms m c.self.inside.places c.put_place.new.places c.self.inside.placed c.self.invariant more)
