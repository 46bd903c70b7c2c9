use Rattle.std.proofs.Common.{sym}
use Rattle.std.proofs.Output.{has_written_of_eq}
use Rattle.td_answers.proofs.PlainAnswers.{release_told}
use Rattle.td_answers.proofs.answers.write_release.Goals as goal

pub returns : goal.returns
returns g c = λ plain ok.
    has_written_of_eq _ _ _ _ _ (sym (release_told c.args.limit c.args.mrn.now c.as_bytes-form.ensures.form)) (c.write.ensures.writes plain ok)
