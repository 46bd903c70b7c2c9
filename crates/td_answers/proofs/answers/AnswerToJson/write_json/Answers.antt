use Rattle.td_answers.proofs.answers.AnswerToJson.write_json.Goals as goal

pub returns-in-Holder : goal.returns-in-Holder
returns-in-Holder g c = rw c.in-Holder.is c.write_holder.ensures

pub returns-in-Guarantee : goal.returns-in-Guarantee
returns-in-Guarantee g c = rw c.in-Guarantee.is c.write_guarantee.ensures
