use Rattle.std.proofs.Common.{◌≡◌, ◌+◌, ◌∙◌, List, ℕ, Some, get_or, ap, sym}
use Rattle.serde_json.specs.View.{view}
use Rattle.td_movement.specs.declared.line.Line.{Line}
use Rattle.td_fields.specs.BodyFields.{line_in}
use Rattle.td_fields.proofs.LineFacts.{read_from, read_goes_on}
use Rattle.td_fields.proofs.body_lines.read_lines.Goals as goal

pub loop-object-preserved : goal.loop-object-preserved
loop-object-preserved c =
    let i = c.loop-object.object-index in
    let objects = c.args.objects.now in
    let object = c.object-item.result in
    let says : Some c.in-Some.line ≡ line_in (view (get_or objects i object)) = rw (← c.object-item.is) c.in-Some.ensures in
    c.loop-object.invariant
    ∙ read_goes_on c.loop-object.lines.items c.in-Some.line objects i object c.loop-object-test.true says
    ∙ ap (λ (lines : List (Line × List ℕ)). read_from lines objects (i + 1)) (sym c.in_ok-push.ensures.items)
