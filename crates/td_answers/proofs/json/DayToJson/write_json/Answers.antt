use Rattle.td_answers.proofs.PlainObjects.{written_day}
use Rattle.td_answers.proofs.json.DayToJson.write_json.Goals as goal

pub returns : goal.returns
returns g c = rw (written_day c.args.self.now) c.write.ensures.writes
