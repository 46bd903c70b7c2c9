-- Numbers in digits.
-- The characters that names and references are written in, by their ASCII codes.
use Rattle.std.specs.Prelude.{ℕ, zero, suc, ◌+◌, ◌-◌, ◌*◌, ◌/◌, ◌%◌, ◌^◌, List, [], ◌∷◌, fold, Bool, ◌||◌, ◌⊎◌}
use Rattle.std.specs.Char.{IsAsciiDigit, IsAsciiUppercase, is_ascii_digit, is_ascii_uppercase}

-- the last `width` digits of a number, in ASCII
unfoldable pub fixed_decimal : ℕ → ℕ → List ℕ
fixed_decimal zero n = []
fixed_decimal (suc width) n = (48 + n / 10 ^ width % 10) ∷ fixed_decimal width n

-- the number that a text of digits shows
abbrev pub digits_value : List ℕ → ℕ
digits_value text = fold (λ n c. 10 * n + (c - 48)) 0 text

-- a digit or a capital letter
abbrev pub IsMark : ℕ → Type 0
IsMark c = IsAsciiDigit c ⊎ IsAsciiUppercase c

-- whether a character is one
abbrev pub is_mark : ℕ → Bool
is_mark c = is_ascii_digit c || is_ascii_uppercase c
