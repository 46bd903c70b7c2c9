use Rattle.std.proofs.Common.{◌≡◌, ◌+◌, ℕ, List, take, cond, sym, ◌∙◌, ap, arith}
use Rattle.std.proofs.lemmas.List.{take_all}
use Rattle.std.proofs.lemmas.List.Sums.{sum_by_more}
use Rattle.td_guarantee.specs.Usage.{cents_on, lines_on, movement_on}
use Rattle.td_holder_memory.proofs.amounts.Amounts.put_on.Goals as goal

pub loop-line-preserved : goal.loop-line-preserved
loop-line-preserved c = λ rest all flag grn.
    let items = c.as_slice-line-items.result.now in
    let at = c.loop-line.line-index in
    omega (arith, c.put_line.ensures (λ grn. rest grn + lines_on grn (take at items)) (c.loop-line.invariant rest all) flag grn, ap (cents_on grn) c.line-item.is, sum_by_more (cents_on grn) items at c.line-item.result c.loop-line-test.true)

pub returns-after-loop-line : goal.returns-after-loop-line
returns-after-loop-line c = λ rest all flag grn.
    let items = c.as_slice-line-items.result.now in
    let whole : take c.loop-line.line-index items ≡ items = take_all c.loop-line.line-index items c.loop-line-test.false in
    let on : movement_on grn c.args.movement.now ≡ lines_on grn (take c.loop-line.line-index items) =
    ap (λ b. cond b (lines_on grn c.args.movement.now.lines) 0) (sym c.if-counts.ensures) ∙ ap (lines_on grn) (sym (whole ∙ c.as_slice-line-items.ensures)) in
    omega (arith, c.loop-line.invariant rest all flag grn, on)
