use Rattle.ascii_text.specs.Digits.{digits_value}
use Rattle.std.proofs.Common.{◌≡◌, ◌<◌, ◌^◌, take, All}
use Rattle.std.specs.Char.{IsAsciiDigit}
use Rattle.ascii_text.proofs.digits.read_digits.Given as goal

abbrev pub invariant-loop-c : goal.invariant-loop-c
invariant-loop-c l = record {
  digits : All IsAsciiDigit (take l.c-index l.text);
  value : l.number ≡ digits_value (take l.c-index l.text);
  small : l.number < 10 ^ l.c-index;
}
