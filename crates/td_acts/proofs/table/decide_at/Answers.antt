use Rattle.std.proofs.Common.{◌≡◌, ◌∙◌, ℕ, Global, Option, Vec, ap, map, refl, subst, sym}
use Rattle.td_commands.specs.declared.command.Command.{Command}
use Rattle.td_commands.specs.declared.lists.ListedMovement.{ListedMovement}
use Rattle.td_commands.specs.declared.said.Answer.TheVariants as answer
use Rattle.td_commands.specs.declared.said.Refusal.TheVariants.{NoMovement}
use Rattle.td_commands.specs.declared.said.Said.{Said}
use Rattle.td_commands.specs.declared.said.Said.TheVariants.{Answered}
use Rattle.td_guarantee.specs.declared.guarantee.Guarantee.{Guarantee}
use Rattle.td_guarantee.specs.Usage.{used_on}
use Rattle.td_movement.specs.declared.movement.Movement.{Movement}
use Rattle.td_model.specs.Account.{movement_by_mrn}
use Rattle.td_acts.specs.Deciding.{IsVerdictAt}
use Rattle.td_model.specs.Table.{listed, or_refuse}
use Rattle.td_model.specs.declared.holder_row.HolderRow.{HolderRow}
use Rattle.td_acts.specs.declared.rows.Verdict.{Verdict}
use Rattle.td_acts.proofs.Told.{told_shown, told_view}
use Rattle.td_acts.proofs.table.decide_at.Goals as goal
use Rattle.td_acts.proofs.table.decide_at.Goals.{in-Register, in-OpenGuarantee, in-Revoke, in-Ie014, in-Ie029, in-Ie007, in-Ie018, in-Ie045, in-Ie140, in-SeeHolder, in-SeeMovement, in-SeeMovements, in-SeeGuarantee, in-SeeGuarantees}

abbrev holder_shown : HolderRow → Said
holder_shown row = Answered (answer.Holder row.holder row.eori row.grn_count row.mrn_count)

abbrev movement_shown : Option Movement → Said
movement_shown found = or_refuse NoMovement found (λ movement. Answered (answer.Movement movement))

pub returns : goal.returns
returns c = elim c.match-command.branch [
  | in-Register w ↦ as_is _ w.in-Register.is _ w.verdict-is w.register-verdict.ensures
  | in-OpenGuarantee w ↦ as_is _ w.in-OpenGuarantee.is _ w.verdict-is w.open-verdict.ensures
  | in-Revoke w ↦ as_is _ w.in-Revoke.is _ w.verdict-is w.revoke-verdict.ensures
  | in-Ie014 w ↦ as_is _ w.in-Ie014.is _ w.verdict-is w.cancel-verdict.ensures
  | in-Ie029 w ↦ as_is _ w.in-Ie029.is _ w.verdict-is w.release-verdict.ensures
  | in-Ie007 w ↦ as_is _ w.in-Ie007.is _ w.verdict-is w.arrive-verdict.ensures
  | in-Ie018 w ↦ as_is _ w.in-Ie018.is _ w.verdict-is w.judge-verdict.ensures
  | in-Ie045 w ↦ as_is _ w.in-Ie045.is _ w.verdict-is w.write_off-verdict.ensures
  | in-Ie140 w ↦ as_is _ w.in-Ie140.is _ w.verdict-is w.enquire-verdict.ensures
  | in-SeeHolder w ↦ as_is _ w.in-SeeHolder.is _ w.verdict-is
      (λ account loaded. told_view c.args.loaded.now.holder account.holder holder_shown holder_shown w.see_holder-verdict.result
      loaded.holder refl w.see_holder-verdict.ensures.said w.see_holder-verdict.ensures.change)
  | in-SeeMovement w ↦ as_is _ w.in-SeeMovement.is _ w.verdict-is
      (λ account loaded. told_view c.args.loaded.now.holder account.holder (λ row. movement_shown w.take_movement-found.result)
      (λ row. movement_shown (movement_by_mrn w.in-SeeMovement.mrn account.movements)) w.see_movement-verdict.result
      loaded.holder (ap (λ found. λ (row : HolderRow). movement_shown found) (w.take_movement-found.ensures ∙ loaded.things))
      w.see_movement-verdict.ensures.said w.see_movement-verdict.ensures.change)
  | in-SeeMovements w ↦ as_is _ w.in-SeeMovements.is _ w.verdict-is
      (λ account loaded. told_view c.args.loaded.now.holder account.holder (λ row. Answered (answer.Movements w.replace-items.result.items))
      (λ row. Answered (answer.Movements (map listed account.movements))) w.see_movements-verdict.result
      loaded.holder (ap (λ items. λ (row : HolderRow). Answered (answer.Movements items))
      (ap (λ (items : Vec ListedMovement Global). items.items) w.replace-items.ensures.value ∙ loaded.things))
      w.see_movements-verdict.ensures.said w.see_movements-verdict.ensures.change)
  | in-SeeGuarantee w ↦ as_is _ w.in-SeeGuarantee.is _ w.verdict-is
      (λ account loaded. told_shown account c.args.loaded.now.holder w.take_entry-found.result c.args.at w.in-SeeGuarantee.holder w.in-SeeGuarantee.grn w.see_guarantee-verdict.result
      loaded.holder (w.take_entry-found.ensures ∙ loaded.things) w.see_guarantee-verdict.ensures.said w.see_guarantee-verdict.ensures.change)
  | in-SeeGuarantees w ↦ as_is _ w.in-SeeGuarantees.is _ w.verdict-is
      (λ account loaded. told_view c.args.loaded.now.holder account.holder (λ row. Answered (answer.Guarantees w.replace-entries.result.items))
      (λ row. Answered (answer.Guarantees (map (λ g. (g, used_on g.grn account.movements)) account.guarantees))) w.see_guarantees-verdict.result
      loaded.holder (ap (λ entries. λ (row : HolderRow). Answered (answer.Guarantees entries))
      (ap (λ (entries : Vec (Guarantee × ℕ) Global). entries.items) w.replace-entries.ensures.value ∙ loaded.things))
      w.see_guarantees-verdict.ensures.said w.see_guarantees-verdict.ensures.change)
]
  where
    -- the verdict of the command's own function
    as_is : (command : Command) → c.args.command.now ≡ command → (v : Verdict) → c.match-command.verdict ≡ v
        → IsVerdictAt c.args.loaded.now c.args.at command v → IsVerdictAt c.args.loaded.now c.args.at c.args.command.now c.match-command.verdict
    as_is command is v same told =
        subst (λ m. IsVerdictAt c.args.loaded.now c.args.at m c.match-command.verdict) (sym is) (subst (λ u. IsVerdictAt c.args.loaded.now c.args.at command u) (sym same) told)
