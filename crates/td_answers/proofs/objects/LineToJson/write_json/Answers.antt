use Rattle.std.proofs.Common.{sym, ◌∙◌}
use Rattle.std.proofs.Output.{has_written_of_eq}
use Rattle.td_answers.proofs.PlainObjects.{line_joined, written_line}
use Rattle.td_answers.proofs.objects.LineToJson.write_json.Goals as goal

pub returns : goal.returns
returns g c = λ plain ok.
    let line = c.args.self.now in
    has_written_of_eq _ _ _ _ _ (rw (c.get.ensures.value) (line_joined line ∙ sym (written_line line c.as_bytes-form.ensures.form))) (c.write.ensures.writes plain ok)
