use Rattle.std.proofs.Common.{arith, add-one, sym, refl}
use Rattle.std.proofs.Math.Nat.{pow-suc}
use Rattle.std.proofs.lemmas.List.Elements.{All-more}
use Rattle.ascii_text.specs.Digits.{IsMark}
use Rattle.td_base.proofs.Sums.{weighted_more, value_small, weight_small}
use Rattle.td_base.proofs.checking.check_digit.Goals as goal

pub overflow_mul-sum : goal.overflow_mul-sum
overflow_mul-sum c =
    let v = c.in_ok-value.ensures.small in
    let small = value_small c.from.result c.loop-c.weight (omega arith) in
    let weight = weight_small c.loop-c.c-index c.loop-c.weight (omega arith) c.loop-c.invariant.weight in
    omega arith

pub overflow_add-sum : goal.overflow_add-sum
overflow_add-sum c =
    let v = c.in_ok-value.ensures.small in
    let small = value_small c.from.result c.loop-c.weight (omega arith) in
    let weight = weight_small c.loop-c.c-index c.loop-c.weight (omega arith) c.loop-c.invariant.weight in
    omega arith

pub overflow_mul-weight : goal.overflow_mul-weight
overflow_mul-weight c =
    let weight = weight_small c.loop-c.c-index c.loop-c.weight (omega arith) c.loop-c.invariant.weight in
    omega arith

pub loop-c-preserved : goal.loop-c-preserved
loop-c-preserved c =
    let v = c.in_ok-value.ensures.small in
    let small = value_small c.from.result c.loop-c.weight (omega arith) in
    record {
      marks = All-more IsMark c.args.text.now c.loop-c.c-index 0 (omega arith) c.loop-c.invariant.marks c.in_ok-value.ensures.value.0;
      sum = rw (weighted_more c.args.text.now c.loop-c.c-index (omega arith), sym c.in_ok-value.ensures.value.1, sym c.from.ensures, sym c.loop-c.invariant.sum, sym c.loop-c.invariant.weight) refl;
      small = omega arith;
      weight = rw (c.loop-c.invariant.weight, add-one, pow-suc) (omega arith);
    }
