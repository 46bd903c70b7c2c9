-- Amounts in cents, reference amounts and covers.
use Rattle.ascii_text.specs.Digits.{digits_value}
use Rattle.std.specs.Prelude.{◌≡◌, ◌⊎◌, ℕ, ◌+◌, ◌-◌, ◌*◌, ◌/◌, ◌%◌, ◌^◌, ◌≤◌, Bool, not, ◌&&◌, ◌||◌, ◌==◌, nat_eq, nat_le, if◌then◌else◌, List, [], ◌∷◌, ◌++◌, length, take, drop, slice_get, Option, Some, None, All}
use Rattle.std.specs.Char.{IsAsciiDigit, is_ascii_digit}
use Rattle.std.specs.Fmt.{decimal}
use Rattle.std.specs.List.{list_all}
use Rattle.std.specs.Option.{option_eq}

-- The greatest amount in cents. The limit is the desk's own: a hundred times as much fits in 64 bits, so a share can be taken of
-- every amount.
abbrev pub most_cents : ℕ
most_cents = 10 ^ 15

-- an amount in cents
abbrev pub IsCents : ℕ → Type 0
IsCents n = n ≤ most_cents

-- whether a number is one
abbrev pub is_cents : ℕ → Bool
is_cents n = nat_le n most_cents

-- the amount of so many cents, where there is one
abbrev pub cents_of : ℕ → Option ℕ
cents_of n = if is_cents n then Some n else None

-- a reference amount in cents (Common Transit Convention, Appendix I): an amount, and not nothing
abbrev pub IsReference : ℕ → Type 0
IsReference n = (1 ≤ n) × (n ≤ most_cents)

-- whether a number is one
abbrev pub is_reference : ℕ → Bool
is_reference n = nat_le 1 n && nat_le n most_cents

-- the reference amount of so many cents, where there is one
abbrev pub reference_of : ℕ → Option ℕ
reference_of n = if is_reference n then Some n else None

-- a cover in percent (Common Transit Convention, Appendix I); 0 is a waiver
abbrev pub IsCover : ℕ → Type 0
IsCover n = (n ≡ 100) ⊎ (n ≡ 50) ⊎ (n ≡ 30) ⊎ (n ≡ 0)

-- whether a number is one
abbrev pub is_cover : ℕ → Bool
is_cover n = n == 100 || n == 50 || n == 30 || n == 0

-- the cover of so many percent, where there is one
abbrev pub cover_of : ℕ → Option ℕ
cover_of n = if is_cover n then Some n else None

-- a share of an amount, rounded up to the cent
abbrev pub share_of : ℕ → ℕ → ℕ
share_of cents percent = (cents * percent + 99) / 100

-- the text of an amount: whole units, a point, and two digits for the cents
abbrev pub cents_text : ℕ → List ℕ
cents_text n = decimal (n / 100) ++ 46 ∷ (48 + n / 10 % 10) ∷ (48 + n % 10) ∷ []

-- a whole number in digits, with no needless 0 in front
pub record IsWhole (text : List ℕ) : Type 0 where
  pub size : 1 ≤ length text
  pub digits : All IsAsciiDigit text
  pub shortest : slice_get text 0 ≡ Some 48 → length text ≡ 1

-- whether a text is one
abbrev pub is_whole : List ℕ → Bool
is_whole text =
    nat_le 1 (length text) && list_all is_ascii_digit text
    && (not (option_eq nat_eq (slice_get text 0) (Some 48)) || nat_eq (length text) 1)

-- the place of the point
abbrev pub point_of : List ℕ → ℕ
point_of text = length text - 3

-- the cents that such a text says
abbrev pub cents_value : List ℕ → ℕ
cents_value text = 100 * digits_value (take (point_of text) text) + digits_value (drop (point_of text + 1) text)

-- the text of an amount, character by character
pub record IsCentsText (text : List ℕ) : Type 0 where
  pub whole : IsWhole (take (point_of text) text)
  pub point : slice_get text (point_of text) ≡ Some 46
  pub fraction : All IsAsciiDigit (drop (point_of text + 1) text)
  pub range : IsCents (cents_value text)

-- whether a text is one
abbrev pub is_cents_text : List ℕ → Bool
is_cents_text text =
    is_whole (take (point_of text) text) && option_eq nat_eq (slice_get text (point_of text)) (Some 46)
    && list_all is_ascii_digit (drop (point_of text + 1) text) && is_cents (cents_value text)

-- the amount that a text says
abbrev pub cents_read : List ℕ → Option ℕ
cents_read text = if is_cents_text text then Some (cents_value text) else None
