use Rattle.td_answers.proofs.PlainText.{written_eori}
use Rattle.td_answers.proofs.json.EoriToJson.write_json.Goals as goal

pub returns : goal.returns
returns g c = rw (written_eori c.args.self.now c.as_bytes-form.ensures.form) c.write.ensures.writes
