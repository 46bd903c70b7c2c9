use Rattle.std.proofs.Common.{◌≡◌, ◌∷◌, [], ◌++◌, ℕ, List, Option, Some, sym, ◌∙◌, ap, ap₂, subst}
use Rattle.std.specs.Prelude.{IfSome, option_map, option_to_list}
use Rattle.td_guarantee.specs.declared.guarantee.Guarantee.{Guarantee}
use Rattle.td_guarantee.specs.Usage.{used_on}
use Rattle.td_model.specs.Account.{guarantee_by_grn}
use Rattle.td_model.specs.Sound.{IsCovered}
use Rattle.td_holder_memory.proofs.Found.{found_keeps}
use Rattle.td_holder_memory.proofs.lookups.entries_by_grn.Goals as goal
use Rattle.td_holder_memory.proofs.lookups.entries_by_grn.Goals.{in-Some+in_ok-copy+in_ok-push, in_default}

-- the guarantee that was found, or none
pub returns : goal.returns
returns c = λ covered.
    let grn = c.args.grn.now in
    let movements = c.args.movements.now in
    let entry : Option Guarantee → List (Guarantee × ℕ) = λ o. option_to_list (option_map (λ g. (g, used_on g.grn movements)) o) in
    elim c.match-find_by_grn.branch [
      | in-Some+in_ok-copy+in_ok-push w ↦
          let g = w.in-Some.guarantee.now in
          let found : guarantee_by_grn grn c.args.guarantees.now ≡ Some g = sym c.find_by_grn.ensures ∙ ap (option_map (λ found. found.now)) w.in-Some.is in
          let keeps : IsCovered movements g = subst (λ (o : Option Guarantee). IfSome o (IsCovered movements)) found (found_keeps (λ g. g.grn) (IsCovered movements) grn c.args.guarantees.now covered) in
          ap (λ v. v.items) w.found-is ∙ w.in_ok-push.ensures.items ∙ ap (λ l. l ++ (w.in_ok-copy.field-0, w.used_of-used.result) ∷ []) c.new-found.ensures.items
          ∙ ap₂ (λ copy used. (copy, used) ∷ []) w.in_ok-copy.ensures (w.used_of-used.ensures keeps) ∙ sym (ap entry found)
      | in_default w ↦
          ap (λ v. v.items) w.found-is ∙ c.new-found.ensures.items ∙ sym (ap entry (sym c.find_by_grn.ensures ∙ ap (option_map (λ found. found.now)) w.in_default.is))
    ]
