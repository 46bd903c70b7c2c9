use Rattle.td_answers.proofs.PlainText.{written_lrn}
use Rattle.td_answers.proofs.json.LrnToJson.write_json.Goals as goal

pub returns : goal.returns
returns g c = rw (written_lrn c.args.self.now c.as_bytes-form.ensures.form) c.write.ensures.writes
