-- The texts that the kit's `parse` reads as numbers, in the words of `IsDecimal`.
use Rattle.std.proofs.Common.{◌≡◌, ◌<◌, ◌≤◌, ◌^◌, ◌+◌, ◌-◌, ◌*◌, ℕ, fold, List, All, length, arith, refl, rules, Result, Ok, Err}
use Rattle.std.proofs.lemmas.List.Elements.{All-nil, All-cons, All-head, All-tail}
use Rattle.std.proofs.lemmas.Str.Parse.{IsDigitsTest, IsNumeralModel, numerals_by_fold, parse_digits}
use Rattle.std.specs.Char.{IsAsciiDigit}
use Rattle.std.specs.Result.{OkIff}
use Rattle.std.specs.Str.Parse.{ParsesUnsigned}
use Rattle.ascii_text.specs.Digits.{digits_value}
use Rattle.td_words.specs.Words.{IsDecimal}

digits_test : IsDigitsTest (All IsAsciiDigit)
digits_test = record {
  empty = All-nil IsAsciiDigit;
  parts = λ c cs d. (All-head IsAsciiDigit c cs d, All-tail IsAsciiDigit c cs d);
  more = λ c cs k d. All-cons IsAsciiDigit c cs k d;
}

digits_model : IsNumeralModel (All IsAsciiDigit) digits_value
digits_model = numerals_by_fold (All IsAsciiDigit) digits_test (λ n text. fold (λ m c. 10 * m + (c - 48)) n text) (search rules)

-- what `parse` says of a text, whatever its errors are
abbrev Parses : List ℕ → Result ℕ (Unit {0}) → Type 0
Parses = ParsesUnsigned 64 10

module _ (text : List ℕ) (least greatest : ℕ) (digits : All IsAsciiDigit text) where
  -- what digits are parsed as
  parsed : (r : Result ℕ (Unit {0})) → Parses text r → OkIff r ((0 < length text) × (digits_value text < 2 ^ 64)) (digits_value text)
  parsed r parses = parse_digits digits_model 64 text r parses digits

  -- a number that was parsed and is in its range
  pub is_decimal : (n : ℕ) → Parses text (Ok n) → least ≤ n → n ≤ greatest
      → IsDecimal least greatest text (digits_value text) × (n ≡ digits_value text)
  is_decimal n parses low high =
      let h = parsed (Ok n) parses in
      (record { some = omega (arith, h.0.0); digits = digits; value = refl; low = omega (arith, h.1); high = omega (arith, h.1) }, h.1)

  -- one that is too small, or too great
  pub too_small : (n : ℕ) → Parses text (Ok n) → n < least → IsDecimal least greatest text (digits_value text) → ⊥
  too_small n parses below is = omega (arith, (parsed (Ok n) parses).1, is.low)

  pub too_great : (n : ℕ) → Parses text (Ok n) → greatest < n → IsDecimal least greatest text (digits_value text) → ⊥
  too_great n parses above is = omega (arith, (parsed (Ok n) parses).1, is.high)

  -- a text that isn't parsed is none
  pub unparsed : Parses text (Err tt) → greatest < 2 ^ 64 → IsDecimal least greatest text (digits_value text) → ⊥
  unparsed parses fits is = parsed (Err tt) parses (is.some, omega (arith, is.high))
