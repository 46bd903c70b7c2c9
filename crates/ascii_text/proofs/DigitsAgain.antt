-- Digits are those of the number that they show.
use Rattle.std.proofs.Common.{◌≡◌, ℕ, zero, suc, ◌+◌, ◌-◌, ◌*◌, ◌/◌, ◌%◌, ◌^◌, ◌<◌, List, [], ◌∷◌, length, fold, All, arith, refl, ap, sym, ◌∙◌, lit<, mod-eq_of_lt}
use Rattle.std.specs.Char.{IsAsciiDigit}
use Rattle.std.proofs.Math.Arith.{mod-mul}
use Rattle.std.proofs.Math.Nat.{pow-succ'}
use Rattle.std.proofs.lemmas.Nat.{same_from_place, mod_below, div-mul-add, mod-mul-add, mul-le}
use Rattle.std.proofs.lemmas.List.Elements.{All-head, All-tail}
use Rattle.ascii_text.specs.Digits.{digits_value, fixed_decimal}
use Rattle.ascii_text.proofs.Decimals.{pow_positive}

-- numbers with the same last digits are written alike
same_digits : (width n m : ℕ) → n % 10 ^ width ≡ m % 10 ^ width → fixed_decimal width n ≡ fixed_decimal width m
unfolding fixed_decimal
same_digits zero n m e = refl
same_digits (suc width) n m e =
    let power = 10 ^ width in
    let front = mod-mul n {m = 10} {c = power} (lit< tt) (pow_positive width) in
    let front' = mod-mul m {m = 10} {c = power} (lit< tt) (pow_positive width) in
    let joined : n / power % 10 * power + n % power ≡ m / power % 10 * power + m % power = sym front ∙ rw pow-succ' at e ∙ front' in
    let parts = same_from_place (n / power % 10) (n % power) (m / power % 10) (m % power) power (mod_below n power (pow_positive width)) (mod_below m power (pow_positive width)) joined in
    rw (parts.0, same_digits width n m parts.1) refl

-- a digit joins the number before it
joined_digits : (a d power rest : ℕ) → (10 * a + d) * power + rest ≡ a * (10 * power) + (d * power + rest)
joined_digits a d power rest = grind arith

-- digits behind a number
behind : (a : ℕ) (text : List ℕ) → fold (λ n c. 10 * n + (c - 48)) a text ≡ a * 10 ^ length text + digits_value text
behind a [] = omega arith
behind a (c ∷ text) =
    let all = behind (10 * a + (c - 48)) text in
    let first = behind (10 * 0 + (c - 48)) text in
    let digit : 10 * 0 + (c - 48) ≡ c - 48 = omega arith in
    all ∙ joined_digits a (c - 48) (10 ^ length text) (digits_value text) ∙ rw (first, digit, pow-succ') refl

-- the first digit, and the others
shown_first : (c : ℕ) (text : List ℕ) → digits_value (c ∷ text) ≡ (c - 48) * 10 ^ length text + digits_value text
shown_first c text =
    let digit : 10 * 0 + (c - 48) ≡ c - 48 = omega arith in
    behind (10 * 0 + (c - 48)) text ∙ rw digit refl

-- and what they come to
pub below_power : (text : List ℕ) → All IsAsciiDigit text → digits_value text < 10 ^ length text
below_power [] digits = lit< tt
below_power (c ∷ text) digits =
    let rest = below_power text (All-tail IsAsciiDigit c text digits) in
    let digit = All-head IsAsciiDigit c text digits in
    let high = mul-le (c - 48) (10 ^ length text) 9 (10 ^ length text) (omega arith) (omega arith) in
    rw (shown_first c text, pow-succ') (omega arith)

-- digits are those of their number
pub digits_again : (text : List ℕ) → All IsAsciiDigit text → fixed_decimal (length text) (digits_value text) ≡ text
unfolding fixed_decimal
digits_again [] digits = refl
digits_again (c ∷ text) digits =
    let power = 10 ^ length text in
    let value = digits_value text in
    let tail = All-tail IsAsciiDigit c text digits in
    let small = below_power text tail in
    let digit = All-head IsAsciiDigit c text digits in
    let shown = shown_first c text in
    let high : digits_value (c ∷ text) / power ≡ c - 48 = ap (λ (n : ℕ). n / power) shown ∙ div-mul-add (c - 48) power value small in
    let low : digits_value (c ∷ text) % power ≡ value % power = ap (λ (n : ℕ). n % power) shown ∙ mod-mul-add (c - 48) power value small ∙ sym (mod-eq_of_lt small) in
    let first : 48 + digits_value (c ∷ text) / power % 10 ≡ c = rw high (omega arith) in
    rw (first, same_digits (length text) (digits_value (c ∷ text)) value low ∙ digits_again text tail) refl
