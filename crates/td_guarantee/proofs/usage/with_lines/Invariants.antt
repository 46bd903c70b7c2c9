use Rattle.std.proofs.Common.{◌≡◌, ◌+◌, drop}
use Rattle.td_base.specs.Money.{IsCents}
use Rattle.td_guarantee.specs.Usage.{lines_on}
use Rattle.td_guarantee.proofs.usage.with_lines.Given as goal

-- the amount so far, and what the lines to come take, is the first amount and what all take
abbrev pub invariant-loop-line : goal.invariant-loop-line
invariant-loop-line l = record {
  range : IsCents l.sum;
  all : l.sum + lines_on l.grn (drop l.line-index l.lines) ≡ l.fn.used + lines_on l.grn l.lines;
}
