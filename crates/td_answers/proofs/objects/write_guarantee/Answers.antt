use Rattle.std.proofs.Output.{has_written_of_eq}
use Rattle.td_answers.proofs.PlainObjects.{guarantee_joined}
use Rattle.td_answers.proofs.objects.write_guarantee.Goals as goal

pub returns : goal.returns
returns g c = λ plain ok.
    let joined = guarantee_joined c.args.guarantee.now c.args.used c.as_bytes-form.ensures.form in
    has_written_of_eq _ _ _ _ _
    (rw (c.free_on.ensures, c.get.ensures.value, c.get-2.ensures.value, c.get-3.ensures.value, c.get-4.ensures.value, c.guaranteed.ensures) joined)
    (c.write.ensures.writes plain ok)
