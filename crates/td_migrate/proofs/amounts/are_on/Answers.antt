use Rattle.std.proofs.Common.{◌≤◌, subst}
use Rattle.std.specs.List.{AllByRecursion}
use Rattle.std.proofs.lemmas.Bool.{false≢true}
use Rattle.std.proofs.lemmas.List.{take_all}
use Rattle.td_store_rows.specs.declared.lines.stored.StoredLine.{StoredLine}
use Rattle.td_migrate.proofs.Passing.{one_more}
use Rattle.td_migrate.proofs.amounts.are_on.Goals as goal

pub returns-then-line-guarantees : goal.returns-then-line-guarantees
returns-then-line-guarantees c = λ t. absurd (false≢true t)

pub loop-line-preserved : goal.loop-line-preserved
loop-line-preserved c =
    one_more (λ (x : StoredLine). x.guarantee ≤ c.args.guarantees) c.args.lines.now c.loop-line.line-index c.line-item.result c.loop-line-test.true c.line-item.is
    c.loop-line.invariant c.if-line-guarantees.false

pub returns : goal.returns
returns c = λ t. subst (AllByRecursion (λ (x : StoredLine). x.guarantee ≤ c.args.guarantees)) (take_all c.loop-line.line-index c.args.lines.now c.loop-line-test.false) c.loop-line.invariant
