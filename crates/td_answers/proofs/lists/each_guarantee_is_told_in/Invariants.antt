use Rattle.std.proofs.Common.{All, take}
use Rattle.td_answers.specs.Objects.{IsGuaranteeTold}
use Rattle.td_answers.proofs.lists.each_guarantee_is_told_in.Given as goal

-- it holds of the guarantees before
abbrev pub invariant-loop-listed : goal.invariant-loop-listed
invariant-loop-listed l = All IsGuaranteeTold (take l.listed-index l.guarantees)
