use Rattle.std.proofs.Common.{sym}
use Rattle.std.proofs.Output.{has_written_of_eq}
use Rattle.td_answers.proofs.PlainAnswers.{holder_told}
use Rattle.td_answers.proofs.answers.write_holder.Goals as goal

pub returns : goal.returns
returns g c = λ plain ok.
    let told = holder_told c.args.holder c.args.eori.now c.args.guarantees c.args.movements c.as_bytes-form.ensures.form in
    has_written_of_eq _ _ _ _ _ (sym told) (c.write.ensures.writes plain ok)
