use Rattle.std.proofs.Common.{get_or, sym}
use Rattle.std.proofs.lemmas.List.{take_all}
use Rattle.std.proofs.lemmas.List.Elements.{All-more, All-nil, All-same}
use Rattle.td_answers.specs.Objects.{IsGuaranteeTold}
use Rattle.td_answers.proofs.lists.each_guarantee_is_told_in.Goals as goal

pub loop-listed-init : goal.loop-listed-init
loop-listed-init c = All-nil IsGuaranteeTold

pub loop-listed-preserved : goal.loop-listed-preserved
loop-listed-preserved c =
    let here : IsGuaranteeTold (get_or c.args.guarantees.now c.loop-listed.listed-index c.listed-item.result) = rw (← c.listed-item.is) c.guarantee_is_told_in.ensures in
    All-more IsGuaranteeTold c.args.guarantees.now c.loop-listed.listed-index c.listed-item.result c.loop-listed-test.true c.loop-listed.invariant here

pub returns : goal.returns
returns c =
    All-same IsGuaranteeTold c.args.guarantees.now _ (sym (take_all c.loop-listed.listed-index c.args.guarantees.now c.loop-listed-test.false)) c.loop-listed.invariant
