-- What is read is printed as it was.
use Rattle.std.proofs.Common.{◌≡◌, ℕ, ◌+◌, ◌-◌, ◌*◌, ◌/◌, ◌%◌, ◌^◌, ◌<◌, ◌≤◌, List, [], ◌∷◌, ◌++◌, length, take, drop, get_or, fold, All, Some, arith, refl, ap, sym, ◌∙◌, rules}
use Rattle.std.specs.Char.{IsAsciiDigit}
use Rattle.std.specs.Fmt.{decimal}
use Rattle.ascii_text.specs.Digits.{digits_value, fixed_decimal}
use Rattle.std.specs.Int.{IsInRange}
use Rattle.std.proofs.lemmas.Fmt.{decimal-digits_value}
use Rattle.std.proofs.lemmas.List.{length-take-le, length-drop}
use Rattle.std.proofs.lemmas.Option.{slice_get-get_or}
use Rattle.std.proofs.lemmas.Str.Parse.{IsNumeralModel, numerals_by_fold, tells_by_index}
use Rattle.ascii_text.proofs.Decimals.{two_digits}
use Rattle.ascii_text.proofs.DigitsAgain.{below_power, digits_again}
use Rattle.ascii_text.proofs.Places.{around}
use Rattle.td_money.specs.Money.{IsWhole, IsCentsText, cents_text, cents_value, point_of}

-- the whole number of an amount
own : IsNumeralModel (λ ds. (i : ℕ) → i < length ds → IsInRange 48 57 (get_or ds i 0)) digits_value
own = numerals_by_fold _ tells_by_index (λ n text. fold (λ n c. 10 * n + (c - 48)) n text) (search rules)

-- is printed as it was
whole_again : (text : List ℕ) → IsWhole text → digits_value text < 2 ^ 64 → decimal (digits_value text) ≡ text
whole_again text h small =
    decimal-digits_value own text (λ i within. h.digits i 0 within) h.size (λ e. h.shortest (slice_get-get_or text 0 0 h.size ∙ ap Some e)) small

-- two digits again
two_again : (text : List ℕ) → length text ≡ 2 → All IsAsciiDigit text → let n = digits_value text in (48 + n / 10 % 10) ∷ (48 + n % 10) ∷ [] ≡ text
two_again text size digits =
    sym (two_digits (digits_value text)) ∙ ap (λ (width : ℕ). fixed_decimal width (digits_value text)) (sym size) ∙ digits_again text digits

-- an amount from its parts
cents_parts : (n whole cents : ℕ) → cents < 100 → n ≡ 100 * whole + cents → cents_text n ≡ decimal whole ++ 46 ∷ (48 + cents / 10 % 10) ∷ (48 + cents % 10) ∷ []
cents_parts n whole cents small e =
    let high : n / 100 ≡ whole = omega arith in
    let tens : n / 10 % 10 ≡ cents / 10 % 10 = omega arith in
    let ones : n % 10 ≡ cents % 10 = omega arith in
    rw (high, tens, ones) refl

-- the text of an amount
pub cents_again : (text : List ℕ) → IsCentsText text → cents_text (cents_value text) ≡ text
cents_again text h =
    let point = point_of text in
    let whole = take point text in
    let cents = drop (point + 1) text in
    let some : 1 ≤ point = omega (arith, h.whole.size, length-take-le point text (omega arith)) in
    let size : length cents ≡ 2 = omega (arith, length-drop (point + 1) text) in
    let power : 10 ^ length cents ≡ 100 = rw size refl in
    let small : digits_value cents < 100 = omega (arith, below_power cents h.fraction) in
    let parts = cents_parts (cents_value text) (digits_value whole) (digits_value cents) small refl in
    let first = whole_again whole h.whole (omega (arith, h.range)) in
    let second = two_again cents size h.fraction in
    parts ∙ ap (λ (xs : List ℕ). xs ++ 46 ∷ (48 + digits_value cents / 10 % 10) ∷ (48 + digits_value cents % 10) ∷ []) first ∙ ap (λ (xs : List ℕ). whole ++ 46 ∷ xs) second ∙ sym (around text point 46 h.point)
