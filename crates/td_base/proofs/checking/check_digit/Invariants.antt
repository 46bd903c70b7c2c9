use Rattle.std.proofs.Common.{◌≡◌, ◌+◌, ◌*◌, ◌^◌, ◌≤◌, take, All}
use Rattle.ascii_text.specs.Digits.{IsMark}
use Rattle.td_base.specs.References.{weighted_sum}
use Rattle.td_base.proofs.checking.check_digit.Given as goal

abbrev pub invariant-loop-c : goal.invariant-loop-c
invariant-loop-c l = record {
  marks : All IsMark (take l.c-index l.text);
  sum : l.sum ≡ weighted_sum 0 (take l.c-index l.text);
  small : l.sum + 38 ≤ 38 * l.weight;
  weight : l.weight ≡ 2 ^ l.c-index;
}
