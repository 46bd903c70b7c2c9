use Rattle.std.proofs.Common.{◌∙◌, ◌+◌, ◌<◌, arith, length, subst, take}
use Rattle.std.proofs.lemmas.List.{take_all}
use Rattle.td_store_rows.specs.declared.lines.stored.StoredLine.{StoredLine}
use Rattle.td_store_audit.specs.Totals.{AreKeptUpTo, IsAmount, kept_on, total_on}
use Rattle.td_store_audit.proofs.Totalled.{total_more}
use Rattle.td_store_audit.proofs.Walking.{one_of_all}
use Rattle.td_store_audit.proofs.totals.Totals.add.Goals as goal

pub loop-line-preserved : goal.loop-line-preserved
loop-line-preserved c = (
  c.add_line.ensures.all ∙ c.loop-line.invariant.0,
  λ sums all are n.
      let line : StoredLine = c.line-item.result in
      let here : line.guarantee < length c.args.self.now.each.items =
      one_of_all (λ (l : StoredLine). AreKeptUpTo l.guarantee c.args.self.now) c.args.lines.now c.loop-line.line-index line c.loop-line-test.true c.line-item.is all in
      subst (λ k. IsAmount k (kept_on n c.add_line.new.self))
      (omega (arith, total_more n c.args.serials.now c.args.lines.now c.loop-line.line-index line c.loop-line-test.true c.line-item.is))
      (c.add_line.ensures.added n (sums n + total_on n c.args.serials.now (take c.loop-line.line-index c.args.lines.now)) (omega (arith, here, c.loop-line.invariant.0))
      (c.loop-line.invariant.1 sums all are n)),
)

pub returns-clause-added : goal.returns-clause-added
returns-clause-added c = λ sums all are n.
    subst (λ lines. IsAmount (sums n + total_on n c.args.serials.now lines) (kept_on n c.loop-line.self)) (take_all c.loop-line.line-index c.args.lines.now c.loop-line-test.false)
    (c.loop-line.invariant.1 sums all are n)
