use Rattle.std.proofs.Common.{◌≡◌, ◌++◌, ◌∷◌, [], ℕ, ◌+◌, List, Some, length, sym, ◌∙◌, ap, subst, arith}
use Rattle.std.proofs.lemmas.Bool.Decides.{nat_tests}
use Rattle.std.proofs.lemmas.List.{length-append}
use Rattle.td_base.specs.References.{serial_of}
use Rattle.td_guarantee.specs.declared.guarantee.Guarantee.{Guarantee}
use Rattle.td_holder_memory.specs.Places.{ArePlaced}
use Rattle.td_holder_memory.proofs.BySerial.{placed_next}
use Rattle.td_holder_memory.proofs.guarantee_rows.GuaranteeRows.push.Goals as goal
use Rattle.td_holder_memory.proofs.guarantee_rows.GuaranteeRows.push.Goals.{then-self-count, else-self-count}

-- so many stand in their places, and the GRN is of the next serial
abbrev IsNext : List ℕ → ℕ → ℕ → List ℕ → Type 0
IsNext country count placed grn = (placed ≡ count) × (serial_of country grn ≡ Some (count + 1))

-- the guarantee stands in its place behind the others
pub invariant_of-self-then-in_place : goal.invariant_of-self-then-in_place
invariant_of-self-then-in_place c =
    let country = c.self.inside.country in
    let gs = c.self.inside.items.items in
    let g = c.args.guarantee in
    let count = length gs in
    let long : c.len-count.result ≡ count = c.len-count.ensures ∙ c.self.inside.items.ok.0 in
    let facts : IsNext country count c.self.inside.placed g.grn = elim c.if-self-count.branch [
      | then-self-count w ↦
          let next = w.is_next-in_place.ensures.0 (sym w.in_place-is ∙ c.if-in_place.true) in
          (w.if-self-count.true ∙ long, sym w.serial.ensures ∙ next ∙ ap (λ n. Some (n + 1)) long)
      | else-self-count w ↦
          let other = w.if-self-count.false in
          let same = sym w.in_place-is ∙ c.if-in_place.true in
          absurd (grind (arith, nat_tests, other, same))
    ] in
    let items : c.push.new.self.items ≡ gs ++ g ∷ [] = c.in_ok-push.ensures.items in
    let behind : c.len-self-inside.result ≡ count + 1 = c.len-self-inside.ensures ∙ c.push.new.self.ok.0 ∙ ap length items ∙ length-append gs (g ∷ []) in
    subst (λ n. ArePlaced (λ g. g.grn) country c.push.new.self.items n) (sym behind)
    (subst (λ (l : List Guarantee). ArePlaced (λ g. g.grn) country l (count + 1)) (sym items) (placed_next (λ g. g.grn) country gs g c.self.inside.placed c.self.invariant facts.0 facts.1))
