use Rattle.td_answers.proofs.PlainText.{written_holder}
use Rattle.td_answers.proofs.json.HolderNoToJson.write_json.Goals as goal

pub returns : goal.returns
returns g c = rw (written_holder c.args.self.now) c.write.ensures.writes
