use Rattle.std.proofs.Common.{◌≡◌, ℕ, List, Option, ◌∙◌, ap, subst}
use Rattle.std.specs.Prelude.{filter_map, option_map, IfSome}
use Rattle.td_movement.specs.declared.line.Line.{Line}
use Rattle.td_movement.specs.declared.movement.Movement.{Movement}
use Rattle.td_guarantee.specs.declared.guarantee.Guarantee.{Guarantee}
use Rattle.td_guarantee.specs.Terms.{without_codes}
use Rattle.td_guarantee.specs.Usage.{used_on}
use Rattle.td_model.specs.Account.{guarantee_by_grn}
use Rattle.td_holder_memory.proofs.lookups.release_of.Goals as goal

-- the entries of the lines of the movement that was found
pub returns-clause-entries : goal.returns-clause-entries
returns-clause-entries c = λ covered.
    let gs = c.args.guarantees.now in
    let entries : List Movement → List Line → List (Guarantee × ℕ) = λ ms ls. filter_map (λ l. option_map (λ g. (without_codes g, used_on g.grn ms)) (guarantee_by_grn l.grn gs)) ls in
    subst (λ (o : Option Movement). IfSome o (λ m. c.in_ok-entries.entries.items ≡ entries c.args.movements.now m.lines)) c.in-Some.ensures
    (c.in_ok-entries.ensures covered ∙ ap (entries c.args.movements.now) c.as_slice.ensures)
