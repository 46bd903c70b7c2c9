use Rattle.td_answers.proofs.PlainAnswers.{over_reference_told}
use Rattle.td_answers.proofs.refusals.refusal_is_told_in.Goals as goal

pub returns-in-OverReference : goal.returns-in-OverReference
returns-in-OverReference c = rw c.in-OverReference.is (over_reference_told _ _ c.is_grn.ensures)
