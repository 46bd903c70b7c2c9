use Rattle.std.proofs.Common.{arith}
use Rattle.std.proofs.lemmas.Grind.{common_steps, pow_more}
use Rattle.std.proofs.lemmas.List.Elements.{All-more}
use Rattle.std.proofs.lemmas.List.Sums.{fold_more}
use Rattle.std.specs.Char.{IsAsciiDigit}
use Rattle.ascii_text.proofs.Decimals.{ten_power_small}
use Rattle.ascii_text.proofs.digits.read_digits.Goals as goal

pub overflow_mul-number : goal.overflow_mul-number
overflow_mul-number c =
    let power = ten_power_small c.loop-c.c-index 18 (omega arith) in
    omega arith

pub overflow_add-number : goal.overflow_add-number
overflow_add-number c =
    let power = ten_power_small c.loop-c.c-index 18 (omega arith) in
    omega (arith, c.type_inv.text c.loop-c.c-index)

pub loop-c-preserved : goal.loop-c-preserved
loop-c-preserved c =
    let digit = c.if-not-is_ascii_digit.ensures.cases in
    record {
      digits = All-more IsAsciiDigit c.args.text.now c.loop-c.c-index 0 (omega arith) c.loop-c.invariant.digits digit;
      value = grind (arith, common_steps, fold_more);
      small = rw pow_more (omega arith);
    }
