use Rattle.std.proofs.Common.{sym}
use Rattle.std.proofs.Output.{has_written_of_eq}
use Rattle.td_answers.proofs.PlainAnswers.{state_texts}
use Rattle.td_answers.proofs.answers.write_state.Goals as goal

pub returns : goal.returns
returns g c = λ plain ok.
    let told = state_texts c.args.message.now c.args.mrn.now c.args.state c.requires c.as_bytes-form.ensures.form in
    has_written_of_eq _ _ _ _ _ (rw (c.name.ensures) (sym told)) (c.write.ensures.writes plain ok)
