use Rattle.std.proofs.Common.{arith, ap, sym, ◌∙◌, Some, drop, length}
use Rattle.std.specs.Char.{IsAsciiDigit}
use Rattle.std.proofs.lemmas.List.{length-drop}
use Rattle.std.proofs.lemmas.List.Elements.{All-drop}
use Rattle.ascii_text.specs.Digits.{digits_value}
use Rattle.ascii_text.proofs.Decimals.{ten_power_small}
use Rattle.td_base.specs.References.{identifier_of, numbers_of}
use Rattle.td_base.proofs.Owners.{owned_since, owned_gives, serial_is, twelve_numbers, behind_six, no_serial, length-identifier}
use Rattle.td_base.proofs.references.serial_of.Goals as goal

pub read_digits-requires : goal.read_digits-requires
read_digits-requires c =
    let identifier = identifier_of c.args.text.now in
    let size = twelve_numbers identifier (omega (arith, length-identifier c.args.text.now (omega arith))) (omega (arith, length-identifier c.args.text.now (omega arith))) in
    rw (c.numbers_of-numbers.ensures, behind_six) (omega (arith, size.1, length-drop 6 (numbers_of identifier)))

pub overflow_cast-result : goal.overflow_cast-result
overflow_cast-result c =
    let identifier = identifier_of c.args.text.now in
    let size = twelve_numbers identifier (omega (arith, length-identifier c.args.text.now (omega arith))) (omega (arith, length-identifier c.args.text.now (omega arith))) in
    let small = rw (c.numbers_of-numbers.ensures, behind_six) at c.in_ok-serial.ensures.small in
    let power = ten_power_small (length (drop 6 (numbers_of identifier))) 7 (omega (arith, size.1, length-drop 6 (numbers_of identifier))) in
    omega (arith, small, power)

pub returns-in_err-owner_of : goal.returns-in_err-owner_of
returns-in_err-owner_of c =
    c.from_residual.ensures ∙ no_serial c.args.country c.args.text.now (sym c.in_err-owner_of.was ∙ c.owner_of.ensures)

pub returns-in_err-serial : goal.returns-in_err-serial
returns-in_err-serial c =
    let own = owned_since c.args.country c.args.text.now c.in_ok-owner_of.field-0 c.in_ok-owner_of.ensures in
    let digits = (owned_gives c.args.country c.args.text.now own).1 in
    absurd (c.in_err-serial.ensures.value (rw (c.numbers_of-numbers.ensures, behind_six) (All-drop IsAsciiDigit 6 (numbers_of (identifier_of c.args.text.now)) digits)))

pub returns : goal.returns
returns c =
    let own = owned_since c.args.country c.args.text.now c.in_ok-owner_of.field-0 c.in_ok-owner_of.ensures in
    ap Some (c.in_ok-serial.ensures.value.1 ∙ ap digits_value (behind_six c.numbers_of-numbers.result.now ∙ ap (drop 6) c.numbers_of-numbers.ensures)) ∙ sym (serial_is c.args.country c.args.text.now own)
