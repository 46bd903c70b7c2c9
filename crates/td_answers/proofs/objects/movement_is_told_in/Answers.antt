use Rattle.std.proofs.Common.{All}
use Rattle.td_base.specs.References.{IsGrn}
use Rattle.td_movement.specs.declared.line.Line.{Line}
use Rattle.td_answers.proofs.PlainObjects.{movement_told}
use Rattle.td_answers.proofs.objects.movement_is_told_in.Goals as goal

pub returns : goal.returns
returns c =
    let lines : All (λ (line : Line). IsGrn line.grn) c.args.movement.now.lines = rw (← c.as_slice.ensures) c.have_grns.ensures in
    movement_told c.args.movement.now c.as_bytes-mrn.ensures.form c.as_bytes-lrn.ensures.form c.as_bytes-departure.ensures.form c.as_bytes-destination.ensures.form c.is_office_number.ensures lines
