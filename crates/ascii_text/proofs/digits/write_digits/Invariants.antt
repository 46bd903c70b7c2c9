use Rattle.std.proofs.Common.{◌≡◌, ◌≤◌, ◌-◌, ◌/◌, ◌^◌, length, drop}
use Rattle.ascii_text.specs.Digits.{fixed_decimal}
use Rattle.ascii_text.proofs.digits.write_digits.Given as goal

abbrev pub invariant-loop-place : goal.invariant-loop-place
invariant-loop-place l = record {
  within : l.place ≤ length l.bytes;
  rest : l.rest ≡ l.number / 10 ^ (length l.bytes - l.place);
  written : drop l.place l.bytes ≡ fixed_decimal (length l.bytes - l.place) l.number;
}

abbrev pub decreases-loop-place : goal.decreases-loop-place
decreases-loop-place l = l.place
