use Rattle.td_answers.proofs.PlainObjects.{written_state}
use Rattle.td_answers.proofs.json.StateToJson.write_json.Goals as goal

pub returns : goal.returns
returns g c = rw (written_state c.args.self.now, ← c.name.ensures) c.write.ensures.writes
