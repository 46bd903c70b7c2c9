use Rattle.std.proofs.Common.{All, take}
use Rattle.td_base.specs.References.{IsGrn}
use Rattle.td_movement.specs.declared.line.Line.{Line}
use Rattle.td_answers.proofs.objects.have_grns.Given as goal

-- it holds of the lines before
abbrev pub invariant-loop-line : goal.invariant-loop-line
invariant-loop-line l = All (λ (line : Line). IsGrn line.grn) (take l.line-index l.lines)
