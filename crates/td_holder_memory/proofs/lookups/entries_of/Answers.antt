use Rattle.std.proofs.Common.{◌≡◌, ◌∷◌, [], ◌++◌, ◌+◌, ◌<◌, ℕ, Option, None, Some, length, take, sym, ◌∙◌, ap, ap₂, subst}
use Rattle.std.specs.Prelude.{filter_map, option_map, IfSome}
use Rattle.std.proofs.lemmas.List.{take_more, append-nil}
use Rattle.td_movement.specs.declared.line.Line.{Line}
use Rattle.td_guarantee.specs.declared.guarantee.Guarantee.{Guarantee}
use Rattle.td_guarantee.specs.Terms.{without_codes}
use Rattle.td_guarantee.specs.Usage.{used_on}
use Rattle.td_model.specs.Account.{guarantee_by_grn}
use Rattle.td_model.specs.Sound.{IsCovered}
use Rattle.td_holder_memory.proofs.Found.{found_keeps}
use Rattle.td_holder_memory.proofs.Loading.{one_more}
use Rattle.td_holder_memory.proofs.lookups.entries_of.Goals as goal
use Rattle.td_holder_memory.proofs.lookups.entries_of.Goals.{in-Some+in_ok-push, in_default}

-- the entry of one more line, if its guarantee is there
pub loop-line-preserved : goal.loop-line-preserved
loop-line-preserved c = λ covered.
    let movements = c.args.movements.now in
    let guarantees = c.args.guarantees.now in
    let entry : Guarantee → Guarantee × ℕ = λ g. (without_codes g, used_on g.grn movements) in
    let seek : Line → Option (Guarantee × ℕ) = λ l. option_map entry (guarantee_by_grn l.grn guarantees) in
    let items = c.args.lines.now in
    let n = c.loop-line.line-index in
    let line = c.line-item.result in
    let within : n < length items = c.loop-line-test.true in
    let more : take (n + 1) items ≡ take n items ++ line ∷ [] = take_more items n line within ∙ ap (λ s. take n items ++ s ∷ []) (sym c.line-item.is) in
    let before = c.loop-line.found.items in
    let after = c.match-find_by_grn.found.items in
    subst (λ l. after ≡ filter_map seek l) (sym more) (elim c.match-find_by_grn.branch [
      | in-Some+in_ok-push w ↦
          let g = w.in-Some.guarantee.now in
          let found : guarantee_by_grn line.grn guarantees ≡ Some g = sym c.find_by_grn.ensures ∙ ap (option_map (λ found. found.now)) w.in-Some.is in
          let keeps : IsCovered movements g = subst (λ (o : Option Guarantee). IfSome o (IsCovered movements)) found (found_keeps (λ g. g.grn) (IsCovered movements) line.grn guarantees covered) in
          one_more seek (take n items) line (Some (entry g)) before after (ap (option_map entry) found) (c.loop-line.invariant covered)
          (ap (λ v. v.items) w.found-is ∙ w.in_ok-push.ensures.items ∙ ap₂ (λ terms used. before ++ (terms, used) ∷ []) w.without_codes.ensures (w.used_of-amount.ensures keeps))
      | in_default w ↦
          one_more seek (take n items) line None before after (ap (option_map entry) (sym c.find_by_grn.ensures ∙ ap (option_map (λ found. found.now)) w.in_default.is)) (c.loop-line.invariant covered)
          (ap (λ v. v.items) w.found-is ∙ sym (append-nil before))
    ])
