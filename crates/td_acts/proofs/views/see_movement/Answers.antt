use Rattle.std.proofs.Common.{◌≡◌, true, false, Option, Some, None, refl, sym, ◌∙◌}
use Rattle.std.specs.Option.{is_some}
use Rattle.td_movement.specs.declared.movement.Movement.{Movement}
use Rattle.td_commands.specs.declared.said.Answer.TheVariants as answer
use Rattle.td_commands.specs.declared.said.Refusal.TheVariants.{NoHolder, NoMovement}
use Rattle.td_commands.specs.declared.said.Said.{Said}
use Rattle.td_commands.specs.declared.said.Said.TheVariants.{Answered, Refused}
use Rattle.td_model.specs.declared.holder_row.HolderRow.{HolderRow}
use Rattle.td_model.specs.Table.{or_refuse}
use Rattle.td_acts.proofs.views.see_movement.Goals as goal

-- what a view shows
abbrev shown : Option HolderRow → Option Movement → Said
shown holder found = or_refuse NoHolder holder (λ row. or_refuse NoMovement found (λ movement. Answered (answer.Movement movement)))

to_nobody : (holder : Option HolderRow) (found : Option Movement) → is_some holder ≡ false → shown holder found ≡ Refused NoHolder
to_nobody None found is = refl
to_nobody (Some row) found is = cc

to_holder : (holder : Option HolderRow) (found : Option Movement) (movement : Movement) → is_some holder ≡ true → found ≡ Some movement → shown holder found ≡ Answered (answer.Movement movement)
to_holder None found movement is there = cc
to_holder (Some row) found movement is there = rw there refl

pub returns-then-is_none-clause-said : goal.returns-then-is_none-clause-said
returns-then-is_none-clause-said c = c.refused.ensures.said ∙ sym (to_nobody c.args.holder c.args.found c.if-is_none.ensures)

pub returns-in-Some-clause-said : goal.returns-in-Some-clause-said
returns-in-Some-clause-said c = c.shown.ensures.said ∙ sym (to_holder c.args.holder c.args.found c.in-Some.movement c.if-is_none.ensures c.in-Some.is)
