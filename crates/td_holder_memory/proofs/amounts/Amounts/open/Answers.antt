use Rattle.std.proofs.Common.{◌≡◌, ◌+◌, ◌++◌, ◌∷◌, [], ℕ, List, Some, length, sym, ◌∙◌, ap, subst, arith}
use Rattle.td_base.specs.References.{serial_of}
use Rattle.td_model.proofs.Joined.{AllNumbered-append}
use Rattle.td_holder_memory.specs.Places.{HaveSerials}
use Rattle.td_holder_memory.proofs.amounts.Amounts.open.Goals as goal

-- the guarantee opened stands in its place behind the others
pub invariant_of-self-2 : goal.invariant_of-self-2
invariant_of-self-2 c =
    let country = c.self.inside.country in
    let amounts = c.self.inside.items.items in
    let next = c.is_next.ensures.0 c.if-not-is_next.false in
    let serial : serial_of country c.args.grn.now ≡ Some (length amounts + 1) = sym c.serial.ensures ∙ next ∙ ap (λ n. Some (n + 1)) (c.len.ensures ∙ c.self.inside.items.ok.0) in
    subst (λ (l : List (List ℕ × ℕ)). HaveSerials (λ k. k.0) country l) (sym c.in_ok-push.ensures.items)
    (AllNumbered-append (λ n (k : List ℕ × ℕ). serial_of country k.0 ≡ Some n) 0 amounts (c.args.grn.now, c.unwrap.result) c.self.invariant (serial ∙ ap (λ n. Some n) (omega arith)))
