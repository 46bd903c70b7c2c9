use Rattle.std.proofs.Common.{get_or, sym}
use Rattle.std.proofs.lemmas.List.{take_all}
use Rattle.std.proofs.lemmas.List.Elements.{All-more, All-nil, All-same}
use Rattle.td_journal_rows.specs.Requests.{IsFormedLine}
use Rattle.td_journal_rows.proofs.laws.each_is_formed.Goals as goal

pub loop-line-init : goal.loop-line-init
loop-line-init c = All-nil IsFormedLine

pub loop-line-preserved : goal.loop-line-preserved
loop-line-preserved c =
    let here : IsFormedLine (get_or c.args.lines.now c.loop-line.line-index c.line-item.result) = rw (← c.line-item.is) c.is_formed.ensures in
    All-more IsFormedLine c.args.lines.now c.loop-line.line-index c.line-item.result c.loop-line-test.true c.loop-line.invariant here

pub returns : goal.returns
returns c =
    All-same IsFormedLine c.args.lines.now _ (sym (take_all c.loop-line.line-index c.args.lines.now c.loop-line-test.false)) c.loop-line.invariant
