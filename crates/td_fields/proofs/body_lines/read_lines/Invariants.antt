use Rattle.std.proofs.Common.{◌≡◌}
use Rattle.serde_json.specs.View.{items_view}
use Rattle.td_fields.specs.BodyFields.{lines_of_body}
use Rattle.td_fields.proofs.LineFacts.{read_from}
use Rattle.td_fields.proofs.body_lines.read_lines.Given as goal

abbrev pub invariant-loop-object : goal.invariant-loop-object
invariant-loop-object l = lines_of_body (items_view l.objects) ≡ read_from l.lines.items l.objects l.object-index
