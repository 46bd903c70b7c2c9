use Rattle.std.proofs.Common.{get_or, sym}
use Rattle.std.proofs.lemmas.List.{take_all}
use Rattle.std.proofs.lemmas.List.Elements.{All-more, All-nil, All-same}
use Rattle.td_base.specs.References.{IsGrn}
use Rattle.td_movement.specs.declared.line.Line.{Line}
use Rattle.td_answers.proofs.objects.have_grns.Goals as goal

pub loop-line-init : goal.loop-line-init
loop-line-init c = All-nil (λ (line : Line). IsGrn line.grn)

pub loop-line-preserved : goal.loop-line-preserved
loop-line-preserved c =
    let here : IsGrn (get_or c.args.lines.now c.loop-line.line-index c.line-item.result).grn = rw (← c.line-item.is) c.as_bytes-grn.ensures.form in
    All-more (λ (line : Line). IsGrn line.grn) c.args.lines.now c.loop-line.line-index c.line-item.result c.loop-line-test.true c.loop-line.invariant here

pub returns : goal.returns
returns c =
    All-same (λ (line : Line). IsGrn line.grn) c.args.lines.now _ (sym (take_all c.loop-line.line-index c.args.lines.now c.loop-line-test.false)) c.loop-line.invariant
