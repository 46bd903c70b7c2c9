-- Numbers in a fixed number of digits: what they show.
use Rattle.std.proofs.Common.{◌≡◌, ℕ, suc, ◌+◌, ◌-◌, ◌*◌, ◌/◌, ◌%◌, ◌^◌, ◌<◌, ◌≤◌, List, [], ◌∷◌, length, fold, zero, drop, set, All, arith, refl, ap, sym, ◌∙◌, add-one, lit<}
use Rattle.std.proofs.Math.Nat.{pow-suc, pow-le-pow_right, div-div-eq-div-mul}
use Rattle.std.proofs.lemmas.List.{drop-set, drop_all}
use Rattle.std.proofs.Math.Arith.{mod-mul}
use Rattle.std.proofs.Math.Nat.{pow-succ'}
use Rattle.std.proofs.lemmas.List.Elements.{All-nil, All-cons}
use Rattle.std.specs.Char.{IsAsciiDigit}
use Rattle.ascii_text.specs.Digits.{digits_value, fixed_decimal}

-- powers of 10 rise
pub ten_power_small : (i n : ℕ) → i ≤ n → 10 ^ i ≤ 10 ^ n
ten_power_small i n small = pow-le-pow_right {n = 10} (lit< tt) small

-- they are positive
pub pow_positive : (n : ℕ) → 0 < 10 ^ n
pow_positive n = omega (arith, ten_power_small 0 n (omega arith))

-- one more digit in front
pub fixed_decimal-suc : (width n : ℕ) → fixed_decimal (width + 1) n ≡ (48 + n / 10 ^ width % 10) ∷ fixed_decimal width n
unfolding fixed_decimal
fixed_decimal-suc width n = rw add-one refl

-- no digit is written yet
pub none_written : (bytes : List ℕ) (n : ℕ) → drop (length bytes) bytes ≡ fixed_decimal (length bytes - length bytes) n
unfolding fixed_decimal
none_written bytes n =
    let none : length bytes - length bytes ≡ 0 = omega arith in
    rw none (drop_all (length bytes) bytes (omega arith))

-- and the whole number is left
pub all_left : (size n : ℕ) → n ≡ n / 10 ^ (size - size)
all_left size n =
    let none : size - size ≡ 0 = omega arith in
    rw none (omega arith)

-- one more digit is written
pub one_more_written : (bytes : List ℕ) (place n rest : ℕ) → 0 < place → place ≤ length bytes → rest ≡ n / 10 ^ (length bytes - place) → drop place bytes ≡ fixed_decimal (length bytes - place) n → drop (place - 1) (set bytes (place - 1) (48 + rest % 10)) ≡ fixed_decimal (length bytes - (place - 1)) n
one_more_written bytes place n rest some within e written =
    let here : place - 1 + 1 ≡ place = omega arith in
    let wider : length bytes - (place - 1) ≡ length bytes - place + 1 = omega arith in
    rw (drop-set bytes (place - 1) (48 + rest % 10) (omega arith), here, wider, fixed_decimal-suc, sym e, written) refl

-- and what is left is divided once more
pub next_rest : (size place n rest : ℕ) → 0 < place → place ≤ size → rest ≡ n / 10 ^ (size - place) → rest / 10 ≡ n / 10 ^ (size - (place - 1))
next_rest size place n rest some within e =
    let wider : size - (place - 1) ≡ suc (size - place) = omega arith in
    rw (wider, pow-suc, e, div-div-eq-div-mul) refl

-- it has that many digits
pub length-fixed_decimal : (width n : ℕ) → length (fixed_decimal width n) ≡ width
unfolding fixed_decimal
length-fixed_decimal zero n = refl
length-fixed_decimal (suc width) n = ap suc (length-fixed_decimal width n)

-- all of them are digits
pub fixed_decimal_digits : (width n : ℕ) → All IsAsciiDigit (fixed_decimal width n)
unfolding fixed_decimal
fixed_decimal_digits zero n = All-nil IsAsciiDigit
fixed_decimal_digits (suc width) n =
    All-cons IsAsciiDigit (48 + n / 10 ^ width % 10) (fixed_decimal width n) (omega arith, omega arith) (fixed_decimal_digits width n)

-- a digit joins the number before it
regroup : (a digit power rest : ℕ) → (10 * a + (48 + digit - 48)) * power + rest ≡ a * (10 * power) + (digit * power + rest)
regroup a digit power rest =
    let same : 48 + digit - 48 ≡ digit = omega arith in
    rw same (grind arith)

-- behind a number they show that number and the last digits of n
shown_behind : (a width n : ℕ) → fold (λ n c. 10 * n + (c - 48)) a (fixed_decimal width n) ≡ a * 10 ^ width + n % 10 ^ width
unfolding fixed_decimal
shown_behind a zero n = omega arith
shown_behind a (suc width) n =
    let digit = n / 10 ^ width % 10 in
    let rest = shown_behind (10 * a + (48 + digit - 48)) width n in
    let low = mod-mul n {m = 10} {c = 10 ^ width} (lit< tt) (pow_positive width) in
    rest ∙ regroup a digit (10 ^ width) (n % 10 ^ width) ∙ rw (pow-succ', low) refl

-- they show the number's last digits
pub digits_value-fixed_decimal : (width n : ℕ) → digits_value (fixed_decimal width n) ≡ n % 10 ^ width
digits_value-fixed_decimal width n = shown_behind 0 width n ∙ omega arith

-- two and four of them, one by one
pub two_digits : (n : ℕ) → fixed_decimal 2 n ≡ (48 + n / 10 % 10) ∷ (48 + n % 10) ∷ []
unfolding fixed_decimal
two_digits n = let whole : n / 1 ≡ n = omega arith in rw whole refl

-- four of them
pub four_digits : (n : ℕ) → fixed_decimal 4 n ≡ (48 + n / 1000 % 10) ∷ (48 + n / 100 % 10) ∷ (48 + n / 10 % 10) ∷ (48 + n % 10) ∷ []
unfolding fixed_decimal
four_digits n = let whole : n / 1 ≡ n = omega arith in rw whole refl
