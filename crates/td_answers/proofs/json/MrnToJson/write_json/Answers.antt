use Rattle.std.proofs.Common.{arith}
use Rattle.td_answers.proofs.PlainText.{written_reference}
use Rattle.td_answers.proofs.json.MrnToJson.write_json.Goals as goal

pub returns : goal.returns
returns g c = rw (written_reference 18 c.args.self.now (omega arith) c.as_bytes-form.ensures.form) c.write.ensures.writes
