-- Texts of amounts.
use Rattle.std.proofs.Common.{◌≡◌, ◌≢◌, ℕ, ◌+◌, ◌-◌, ◌*◌, ◌^◌, ◌<◌, ◌≤◌, List, [], ◌∷◌, ◌++◌, ◌/◌, ◌%◌, length, take, drop, get_or, slice_get, fold, All, Option, Some, None, arith, refl, ap, ◌∙◌, lit≤, inl, inr}
use Rattle.std.specs.Char.{IsAsciiDigit}
use Rattle.std.specs.Fmt.{decimal}
use Rattle.std.specs.Option.{SomeIff}
use Rattle.std.proofs.lemmas.Fmt.{decimal_by_steps}
use Rattle.std.proofs.lemmas.List.Elements.{All-nil, All-cons, All-push}
use Rattle.std.proofs.lemmas.Option.{slice_get-get_or, get_or_from_slice_get}
use Rattle.std.proofs.Math.Nat.{pow-succ', mul_assoc, mul_comm}
use Rattle.std.proofs.lemmas.List.{length-take-le, length-append}
use Rattle.std.proofs.lemmas.List.Sums.{fold-append}
use Rattle.std.proofs.Math.ListN.{get_or-append}
use Rattle.std.proofs.Math.Seq.{take-append_seam, drop-append-add, get_or-append_seam}
use Rattle.std.proofs.lemmas.Nat.{mul-le}
use Rattle.std.proofs.lemmas.Bool.{cases_lt}
use Rattle.ascii_text.proofs.Decimals.{ten_power_small}
use Rattle.ascii_text.specs.Digits.{digits_value}
use Rattle.td_money.specs.Money.{IsWhole, IsCents, IsCentsText, cents_value, cents_text, point_of}

-- digits behind a number make it no smaller than with zeros there
grown : (n : ℕ) (text : List ℕ) → n * 10 ^ length text ≤ fold (λ n c. 10 * n + (c - 48)) n text
grown n [] = omega arith
grown n (c ∷ text) =
    let rest = grown (10 * n + (c - 48)) text in
    let more = mul-le (10 * n) (10 ^ length text) (10 * n + (c - 48)) (10 ^ length text) (omega arith) (omega arith) in
    let e : n * 10 ^ length (c ∷ text) ≡ 10 * n * 10 ^ length text = rw (pow-succ', ← mul_assoc, mul_comm n 10) refl in
    rw e (omega arith)

-- a long whole number is large
large_whole : (text : List ℕ) → IsWhole text → 15 ≤ length text → 10 ^ 14 ≤ digits_value text
large_whole [] h long = absurd (omega arith)
large_whole (c ∷ text) h long =
    elim (cases_lt c 49) [
      | inl lt ↦
          let zero_first : c ≡ 48 = omega (arith, (h.digits 0 0 (omega arith)).0) in
          absurd (omega (arith, h.shortest (ap Some zero_first)))
      | inr ge ↦
          let first = 10 * 0 + (c - 48) in
          let all = grown first text in
          let power = ten_power_small 14 (length text) (omega arith) in
          let one = mul-le 1 (10 ^ 14) first (10 ^ length text) (omega arith) power in
          omega (arith, all)
    ]

-- no amount has more than 14 digits in front of its point
pub too_long : (text : List ℕ) → 14 < point_of text → ¬ (IsCentsText text)
too_long text long h =
    let size : length (take (point_of text) text) ≡ point_of text = length-take-le (point_of text) text (omega arith) in
    let large = large_whole (take (point_of text) text) h.whole (omega arith) in
    absurd (omega (arith, h.range))

-- a value exactly where another fact holds
pub SomeIff-same : {T : Type 0} (r : Option T) (P Q : Type 0) (v w : T) → (P → Q) → (Q → P) → v ≡ w → SomeIff r P v → SomeIff r Q w
SomeIff-same None P Q v w to from e h = λ q. h (from q)
SomeIff-same (Some x) P Q v w to from e h = (to h.0, h.1 ∙ e)

-- what is found at the point and behind it is what such a text is made of
pub made_cents_text : (text : List ℕ) (point : ℕ) → 3 ≤ length text → point ≡ length text - 3 → IsWhole (take point text) → get_or text point 0 ≡ 46 → All IsAsciiDigit (drop (point + 1) text) → IsCents (100 * digits_value (take point text) + digits_value (drop (point + 1) text)) → IsCentsText text
made_cents_text text point size e whole dot fraction range =
    let same : point_of text ≡ point = omega arith in
    record {
      whole = rw same whole;
      point = rw (same, slice_get-get_or text point 0 (omega arith), dot) refl;
      fraction = rw same fraction;
      range = rw same range;
    }

-- what the decimal text of a number is
record IsDecimalOf (n : ℕ) (text : List ℕ) : Type 0 where
  size : 1 ≤ length text
  digits : All IsAsciiDigit text
  first : 1 ≤ n → get_or text 0 0 ≢ 48
  single : n ≡ 0 → length text ≡ 1
  value : digits_value text ≡ n

-- one digit is the decimal text of a number below 10
one_digit : (n : ℕ) → n < 10 → IsDecimalOf n ((48 + n) ∷ [])
one_digit n small = record {
  size = lit≤ tt;
  digits = All-cons IsAsciiDigit (48 + n) [] (omega arith, omega arith) (All-nil IsAsciiDigit);
  first = λ some e. absurd (omega arith);
  single = λ _. refl;
  value = omega arith;
}

-- one more digit at the end
more_digits : (n : ℕ) (text : List ℕ) → 10 ≤ n → IsDecimalOf (n / 10) text → IsDecimalOf n (text ++ (48 + n % 10) ∷ [])
more_digits n text big h = record {
  size = simp length-append (omega arith);
  digits = All-push IsAsciiDigit text (48 + n % 10) h.digits (omega arith, omega arith);
  first = λ some. rw (get_or-append text ((48 + n % 10) ∷ []) 0 0 h.size) (h.first (omega arith));
  single = λ e. absurd (omega arith);
  value = rw (fold-append, h.value) (omega arith);
}

-- it has no needless 0 in front
shortest_decimal : (n : ℕ) (text : List ℕ) → IsDecimalOf n text → slice_get text 0 ≡ Some 48 → length text ≡ 1
shortest_decimal n text h e =
    elim (cases_lt 0 n) [ inl some ↦ absurd (h.first some (get_or_from_slice_get text 0 48 0 e)) | inr none ↦ h.single (omega arith) ]

-- so is what `{}` prints
decimal_is : (n : ℕ) → n < 2 ^ 64 → IsDecimalOf n (decimal n)
decimal_is n small = decimal_by_steps IsDecimalOf one_digit more_digits n small

-- a whole number's text, a point and two digits
whole_and_cents : (n : ℕ) (text : List ℕ) → IsCents n → IsDecimalOf (n / 100) text → let all = text ++ 46 ∷ (48 + n / 10 % 10) ∷ (48 + n % 10) ∷ [] in IsCentsText all × (cents_value all ≡ n)
whole_and_cents n text small h =
    let ones = (48 + n / 10 % 10) ∷ (48 + n % 10) ∷ [] in
    let all = text ++ 46 ∷ ones in
    let size : length all ≡ length text + 3 = simp length-append refl in
    let whole : take (length text) all ≡ text = take-append_seam text (46 ∷ ones) in
    let rest : drop (length text + 1) all ≡ ones = drop-append-add text (46 ∷ ones) 1 in
    let cents : digits_value ones ≡ n % 100 = omega arith in
    let point : point_of all ≡ length text = omega arith in
    let value : 100 * digits_value (take (length text) all) + digits_value (drop (length text + 1) all) ≡ n = rw (whole, rest, h.value, cents) (omega arith) in
    let digits = All-cons IsAsciiDigit (48 + n / 10 % 10) ((48 + n % 10) ∷ []) (omega arith, omega arith) (All-cons IsAsciiDigit (48 + n % 10) [] (omega arith, omega arith) (All-nil IsAsciiDigit)) in
    (made_cents_text all (length text) (omega arith) (omega arith) (rw whole (record { size = h.size; digits = h.digits; shortest = shortest_decimal (n / 100) text h })) (get_or-append_seam text 46 ones 0) (rw rest digits) (rw value small), rw point value)

-- the text of an amount reads back
pub cents_text_reads : (n : ℕ) → IsCents n → IsCentsText (cents_text n) × (cents_value (cents_text n) ≡ n)
cents_text_reads n small = whole_and_cents n (decimal (n / 100)) small (decimal_is (n / 100) (omega arith))
