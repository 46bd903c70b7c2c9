use Rattle.std.proofs.Common.{◌≡◌, ◌<◌, ◌≤◌, drop}
use Rattle.std.specs.Str.Parse.{digits_value, digits_value_after}
use Rattle.http_wire.proofs.framing.capped_value.Given as goal

abbrev pub invariant-loop-digit : goal.invariant-loop-digit
invariant-loop-digit l = record {
  exact : l.sum ≤ 65536 → digits_value 10 l.text ≡ digits_value_after 10 l.sum (drop l.digit-index l.text);
  above : 65536 < l.sum → 65536 < digits_value 10 l.text;
}
