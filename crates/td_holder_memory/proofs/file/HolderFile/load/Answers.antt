use Rattle.std.proofs.Common.{◌≡◌, ℕ, List, Vec, Global, map, Some, refl, ◌∙◌, ap, ap₂, sym, subst}
use Rattle.std.specs.Prelude.{option_map, option_to_list, filter_map, IfSome}
use Rattle.std.specs.List.{AllByRecursion}
use Rattle.td_movement.specs.declared.movement.Movement.{Movement}
use Rattle.td_movement.specs.Movements.{without_lines}
use Rattle.td_guarantee.specs.declared.guarantee.Guarantee.{Guarantee}
use Rattle.td_guarantee.specs.Terms.{without_codes}
use Rattle.td_guarantee.specs.Usage.{used_on}
use Rattle.td_model.specs.Account.{account_with, guarantee_by_grn, movement_by_mrn, movement_by_lrn}
use Rattle.td_commands.specs.declared.needs.Needs.{Needs}
use Rattle.td_acts.specs.declared.rows.Loaded.{Loaded}
use Rattle.td_acts.specs.Deciding.{IsLookedUp}
use Rattle.td_commands.specs.Commands.{need_said}
use Rattle.td_model.specs.Sound.{IsCovered}
use Rattle.td_model.specs.Table.{listed}
use Rattle.td_holder_memory.proofs.Loading.{taken, lodging_looked_up, movement_looked_up, status_looked_up, release_looked_up, guarantee_looked_up}
use Rattle.td_holder_memory.proofs.file.HolderFile.load.Goals as goal
use Rattle.td_holder_memory.proofs.file.HolderFile.load.Goals.{in-Nothing, in-Lodging+in_ok-copy_of_found-in-Lodging+in_ok-guarantees_of-in-Lodging, in-Movement+in_ok-copy_of_found-in-Movement, in-Status+in_ok-row_of_found-in-Status, in-Release+in_ok-release_of-in-Release, in-AllGuarantees+in_ok-all_entries-in-AllGuarantees, in-Guarantee+in_ok-entries_by_grn-in-Guarantee}

-- the holder's row, and what is needed beside it
pub returns : goal.returns
returns c = λ covered.
    let account = account_with c.args.country (Some c.args.self.now) in
    let loaded : Loaded = record { country = c.args.country; holder = Some c.self.inside.row; movements = c.match-needs.movements.0; listed = c.new-2.result; guarantees = c.match-needs.movements.1 } in
    let needed : (n : Needs) → c.args.needs.now ≡ n → IsLookedUp account (need_said n) loaded → IsLookedUp account (need_said c.args.needs.now) loaded =
    λ n is looked. subst (λ (n : Needs). IsLookedUp account (need_said n) loaded) (sym is) looked in
    let lent : (gs : List Guarantee) (ms : List Movement) → gs ≡ c.args.self.now.guarantees → ms ≡ c.args.self.now.movements → AllByRecursion (IsCovered ms) gs =
    λ gs ms guarantees movements. subst (λ (ms : List Movement). AllByRecursion (IsCovered ms) gs) (sym movements) (subst (λ (gs : List Guarantee). AllByRecursion (IsCovered c.args.self.now.movements) gs) (sym guarantees) covered) in
    let rows = ap (λ h. h.movements) c.self.view_is in
    record {
      country = refl;
      holder = ap (λ h. Some h.row) c.self.view_is;
      things = elim c.match-needs.branch [
        | in-Nothing w ↦ needed _ w.in-Nothing.is tt
        | in-Lodging+in_ok-copy_of_found-in-Lodging+in_ok-guarantees_of-in-Lodging w ↦
            needed _ w.in-Lodging.is (lodging_looked_up account loaded _ _
            (ap (λ p. p.0.items) w.movements-is ∙ w.in_ok-copy_of_found-in-Lodging.ensures ∙ ap option_to_list (w.find_by_lrn.ensures ∙ ap (λ h. movement_by_lrn w.in-Lodging.lrn h.movements) c.self.view_is))
            (ap (λ p. map (λ e. e.0) p.1.items) w.movements-is ∙ w.in_ok-guarantees_of-in-Lodging.ensures ∙ ap (λ gs. taken gs w.in-Lodging.lines.now) (ap (λ h. h.guarantees) c.self.view_is)))
        | in-Movement+in_ok-copy_of_found-in-Movement w ↦
            needed _ w.in-Movement.is (movement_looked_up account loaded _
            (ap (λ p. p.0.items) w.movements-is ∙ w.in_ok-copy_of_found-in-Movement.ensures ∙ ap option_to_list (w.find_by_mrn.ensures ∙ ap (λ h. movement_by_mrn w.in-Movement.mrn h.movements) c.self.view_is)))
        | in-Status+in_ok-row_of_found-in-Status w ↦
            needed _ w.in-Status.is (status_looked_up account loaded _
            (ap (λ p. p.0.items) w.movements-is ∙ w.in_ok-row_of_found-in-Status.ensures ∙ ap (λ o. option_to_list (option_map without_lines o)) (w.find_by_mrn-in-Status.ensures ∙ ap (λ h. movement_by_mrn w.in-Status.mrn h.movements) c.self.view_is)))
        | in-Release+in_ok-release_of-in-Release w ↦
            let guarantees = ap (λ h. h.guarantees) c.self.view_is in
            let movements = ap (λ h. h.movements) c.self.view_is in
            let ms = c.self.inside.movements in
            let mrn = w.in-Release.mrn in
            let entries : List Guarantee → List Movement → Movement → List (Guarantee × ℕ) = λ gs ms m. filter_map (λ l. option_map (λ g. (without_codes g, used_on g.grn ms)) (guarantee_by_grn l.grn gs)) m.lines in
            let here = lent c.self.inside.guarantees ms guarantees movements in
            let looked = subst (λ (gs : List Guarantee). IfSome (movement_by_mrn mrn ms) (λ m. c.match-needs.movements.1.items ≡ entries gs ms m)) guarantees
            (subst (λ (p : Vec Movement Global × Vec (Guarantee × ℕ) Global). IfSome (movement_by_mrn mrn ms) (λ m. p.1.items ≡ entries c.self.inside.guarantees ms m)) (sym w.movements-is) (w.in_ok-release_of-in-Release.ensures.entries here)) in
            needed _ w.in-Release.is (release_looked_up account loaded mrn
            (ap (λ p. p.0.items) w.movements-is ∙ w.in_ok-release_of-in-Release.ensures.movement ∙ ap (λ ms. option_to_list (movement_by_mrn mrn ms)) movements)
            (subst (λ (ms : List Movement). IfSome (movement_by_mrn mrn ms) (λ m. c.match-needs.movements.1.items ≡ entries account.guarantees ms m)) movements looked))
        | in-Guarantee+in_ok-entries_by_grn-in-Guarantee w ↦
            let guarantees = ap (λ h. h.guarantees) c.self.view_is in
            let found : List Guarantee → List Movement → List (Guarantee × ℕ) = λ gs ms. option_to_list (option_map (λ g. (g, used_on g.grn ms)) (guarantee_by_grn w.in-Guarantee.grn gs)) in
            let here = lent c.self.inside.guarantees c.self.inside.movements guarantees rows in
            needed _ w.in-Guarantee.is (guarantee_looked_up account loaded _
            (ap (λ p. p.1.items) w.movements-is ∙ w.in_ok-entries_by_grn-in-Guarantee.ensures here ∙ ap₂ found guarantees rows))
        | in-AllGuarantees+in_ok-all_entries-in-AllGuarantees w ↦
            let guarantees = w.as_slice-in-AllGuarantees.ensures ∙ ap (λ h. h.guarantees) c.self.view_is in
            let entries : List Guarantee → List Movement → List (Guarantee × ℕ) = λ gs ms. map (λ g. (g, used_on g.grn ms)) gs in
            let here = lent w.as_slice-in-AllGuarantees.result.now c.self.inside.movements guarantees rows in
            needed _ w.in-AllGuarantees.is (ap (λ p. p.1.items) w.movements-is ∙ w.in_ok-all_entries-in-AllGuarantees.ensures here ∙ ap₂ entries guarantees rows)
      ];
    }

-- and for a list all movements as it shows them
pub returns-in-AllMovements : goal.returns-in-AllMovements
returns-in-AllMovements c = λ covered.
    let account = account_with c.args.country (Some c.args.self.now) in
    let loaded : Loaded = record { country = c.args.country; holder = Some c.self.inside.row; movements = c.new-in-AllMovements.result; listed = c.in_ok-listed-in-AllMovements.listed; guarantees = c.new-in-AllMovements-2.result } in
    record {
      country = refl;
      holder = ap (λ h. Some h.row) c.self.view_is;
      things = subst (λ (n : Needs). IsLookedUp account (need_said n) loaded) (sym c.in-AllMovements.is)
          (c.in_ok-listed-in-AllMovements.ensures ∙ ap (map listed) (c.as_slice.ensures ∙ ap (λ h. h.movements) c.self.view_is));
    }
