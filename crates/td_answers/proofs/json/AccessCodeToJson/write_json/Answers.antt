use Rattle.td_answers.proofs.PlainObjects.{written_code}
use Rattle.td_answers.proofs.json.AccessCodeToJson.write_json.Goals as goal

pub returns : goal.returns
returns g c = rw (written_code c.args.self.now c.as_bytes-form.ensures.form) c.write.ensures.writes
