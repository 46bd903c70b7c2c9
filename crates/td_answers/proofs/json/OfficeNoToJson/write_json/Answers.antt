use Rattle.td_answers.proofs.PlainObjects.{written_office}
use Rattle.td_answers.proofs.json.OfficeNoToJson.write_json.Goals as goal

pub returns : goal.returns
returns g c = rw (written_office c.args.self.now c.as_bytes-form.ensures.form) c.write.ensures.writes
