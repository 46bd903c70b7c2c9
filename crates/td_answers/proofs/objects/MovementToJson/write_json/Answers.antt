use Rattle.std.proofs.Output.{has_written_of_eq}
use Rattle.td_answers.proofs.PlainObjects.{movement_joined}
use Rattle.td_answers.proofs.objects.MovementToJson.write_json.Goals as goal

pub returns : goal.returns
returns g c = λ plain ok.
    let joined = movement_joined c.args.self.now c.as_bytes-mrn.ensures.form c.as_bytes-lrn.ensures.form c.as_bytes-departure.ensures.form c.as_bytes-destination.ensures.form in
    has_written_of_eq _ _ _ _ _ (rw (c.name.ensures) joined) (c.write.ensures.writes plain ok)
