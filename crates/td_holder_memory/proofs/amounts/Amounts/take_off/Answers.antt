use Rattle.std.proofs.Common.{◌≡◌, ◌+◌, ℕ, List, [], drop, cond, sym, ◌∙◌, ap, arith}
use Rattle.std.proofs.lemmas.List.{drop_all}
use Rattle.std.proofs.lemmas.List.Sums.{sum_by-drop_more}
use Rattle.td_guarantee.specs.Usage.{cents_on, lines_on, movement_on}
use Rattle.td_holder_memory.proofs.amounts.Amounts.take_off.Goals as goal

pub loop-line-preserved : goal.loop-line-preserved
loop-line-preserved c = λ rest all flag grn.
    let items = c.as_slice-line-items.result.now in
    let at = c.loop-line.line-index in
    c.take_line.ensures (λ grn. rest grn + lines_on grn (drop (at + 1) items))
    (λ flag grn. omega (arith, c.loop-line.invariant rest all flag grn, ap (cents_on grn) c.line-item.is, sum_by-drop_more (cents_on grn) items at c.line-item.result c.loop-line-test.true)) flag grn

pub returns-after-loop-line : goal.returns-after-loop-line
returns-after-loop-line c = λ rest all flag grn.
    let items = c.as_slice-line-items.result.now in
    let over : drop c.loop-line.line-index items ≡ [] = drop_all c.loop-line.line-index items c.loop-line-test.false in
    let on : (grn : List ℕ) → movement_on grn c.args.movement.now ≡ lines_on grn items = (λ grn.
    ap (λ b. cond b (lines_on grn c.args.movement.now.lines) 0) (sym c.if-counts.ensures) ∙ ap (lines_on grn) (sym c.as_slice-line-items.ensures)) in
    let none : lines_on grn (drop c.loop-line.line-index items) ≡ 0 = ap (lines_on grn) over in
    omega (arith, c.loop-line.invariant rest (λ flag grn. omega (arith, all flag grn, on grn)) flag grn, none)
