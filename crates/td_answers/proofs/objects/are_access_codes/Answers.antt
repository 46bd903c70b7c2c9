use Rattle.std.proofs.Common.{get_or, sym}
use Rattle.std.proofs.lemmas.List.{take_all}
use Rattle.std.proofs.lemmas.List.Elements.{All-more, All-nil, All-same}
use Rattle.td_base.specs.Codes.{IsAccessCode}
use Rattle.td_answers.proofs.objects.are_access_codes.Goals as goal

pub loop-code-init : goal.loop-code-init
loop-code-init c = All-nil IsAccessCode

pub loop-code-preserved : goal.loop-code-preserved
loop-code-preserved c =
    let here : IsAccessCode (get_or c.args.codes.now c.loop-code.code-index c.code-item.result) = rw (← c.code-item.is) c.as_bytes-code.ensures.form in
    All-more IsAccessCode c.args.codes.now c.loop-code.code-index c.code-item.result c.loop-code-test.true c.loop-code.invariant here

pub returns : goal.returns
returns c =
    All-same IsAccessCode c.args.codes.now _ (sym (take_all c.loop-code.code-index c.args.codes.now c.loop-code-test.false)) c.loop-code.invariant
