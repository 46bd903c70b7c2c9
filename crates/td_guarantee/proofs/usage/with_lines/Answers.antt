use Rattle.std.proofs.Common.{◌≡◌, ◌+◌, sym, ap, arith}
use Rattle.std.proofs.lemmas.List.{drop_all}
use Rattle.td_guarantee.specs.Usage.{lines_on}
use Rattle.td_guarantee.proofs.usage.with_lines.Goals as goal

pub returns : goal.returns
returns c =
    let none = ap (lines_on c.args.grn.now) (drop_all c.loop-line.line-index c.args.lines.now c.loop-line-test.false) in
    let all : c.loop-line.sum ≡ c.args.used + lines_on c.args.grn.now c.args.lines.now = omega (arith, none, c.loop-line.invariant.all) in
    (rw (sym all) c.loop-line.invariant.range, all)
