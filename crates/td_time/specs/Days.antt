-- Moments: whole seconds since 1970-01-01T00:00:00Z.
-- Days, by their number from 1970-01-01. What a date is and which number it has is the calendar's of `jiff`.
use Rattle.std.specs.Prelude.{ℕ, ◌≤◌, ℤ, pos, negsuc, Option, Some, None, nat_le, ◌&&◌, if◌then◌else◌, ◌≡◌, zero, suc, ◌+◌, ◌-◌, ◌/◌, Bool, nat_eq, unsigned_abs, List, ◌∷◌, ◌++◌, length, take, drop, slice_range, slice_get, All}
use Rattle.std.specs.Char.{IsAsciiDigit, is_ascii_digit}
use Rattle.std.specs.Int.{is_in_range}
use Rattle.std.specs.List.{list_all}
use Rattle.std.specs.Option.{option_eq}
use Rattle.jiff_core.specs.Calendar.{days_from_civil, days_in_month, IsDate}
use Rattle.ascii_text.specs.Digits.{digits_value, fixed_decimal}

-- from the first second of 2000 to the last of 2099, so that the two digits of a year in a
-- reference tell the year
abbrev pub IsMoment : ℕ → Type 0
IsMoment n = (946684800 ≤ n) × (n ≤ 4102444799)

-- the moment of a number of seconds, where it has one
abbrev pub moment_of : ℤ → Option ℕ
moment_of (pos n) = if nat_le 946684800 n && nat_le n 4102444799 then Some n else None
moment_of (negsuc n) = None

-- From 2000-01-01 to 2100-12-31. The last moment is in 2099, and a day that is counted on from it
-- may lie in the year after.
abbrev pub IsDay : ℕ → Type 0
IsDay n = (10957 ≤ n) × (n ≤ 47846)

-- the day of a number, where it has one
abbrev pub day_at : ℤ → Option ℕ
day_at (pos n) = if nat_le 10957 n && nat_le n 47846 then Some n else None
day_at (negsuc n) = None

-- the UTC day of a moment
abbrev pub day_of_moment : ℕ → ℕ
day_of_moment seconds = seconds / 86400

-- the number of a date from 1970 on
unfoldable pub day_number : ℕ → ℕ → ℕ → ℕ
day_number year month day = unsigned_abs (days_from_civil (pos year) month day)

-- the last of some starts that has come by day n; they are looked through from the first on
unfoldable pub last_begun : (ℕ → ℕ) → ℕ → ℕ → ℕ → ℕ
last_begun start zero first n = first
last_begun start (suc more) first n =
    if nat_le (start (first + 1)) n then last_begun start more (first + 1) n else first

-- the year of a day
unfoldable pub year_of : ℕ → ℕ
year_of n = last_begun (λ year. day_number year 1 1) 100 2000 n

-- the month of a day
unfoldable pub month_of : ℕ → ℕ
month_of n = last_begun (λ month. day_number (year_of n) month 1) 11 1 n

-- its place in the month
unfoldable pub day_of : ℕ → ℕ
day_of n = n + 1 - day_number (year_of n) (month_of n) 1

-- the text of a day, as `2025-03-01`
abbrev pub day_text : ℕ → List ℕ
day_text n = fixed_decimal 4 (year_of n) ++ 45 ∷ fixed_decimal 2 (month_of n) ++ 45 ∷ fixed_decimal 2 (day_of n)

-- the year in such a text
abbrev pub year_in : List ℕ → ℕ
year_in text = digits_value (take 4 text)

-- the month
abbrev pub month_in : List ℕ → ℕ
month_in text = digits_value (slice_range text 5 7)

-- and the day
abbrev pub day_in : List ℕ → ℕ
day_in text = digits_value (drop 8 text)

-- the day that it names
abbrev pub number_in : List ℕ → ℕ
number_in text = day_number (year_in text) (month_in text) (day_in text)

-- a date of the calendar in the years of the desk
pub record IsDateOfDesk (year month day : ℕ) : Type 0 where
  pub date : IsDate (pos year) (pos month) (pos day)
  pub first : 2000 ≤ year
  pub last : year ≤ 2100

-- whether three numbers are one
abbrev pub is_date_of_desk : ℕ → ℕ → ℕ → Bool
is_date_of_desk year month day =
    is_in_range 2000 2100 year && is_in_range 1 12 month
    && is_in_range 1 (days_in_month (pos year) month) day

-- the text of a day, character by character
pub record IsDayText (text : List ℕ) : Type 0 where
  pub size : length text ≡ 10
  pub year : All IsAsciiDigit (take 4 text)
  pub dash : slice_get text 4 ≡ Some 45
  pub month : All IsAsciiDigit (slice_range text 5 7)
  pub second_dash : slice_get text 7 ≡ Some 45
  pub day : All IsAsciiDigit (drop 8 text)
  pub date : IsDateOfDesk (year_in text) (month_in text) (day_in text)

-- whether a text has this form: `2025-03-01`
abbrev pub has_day_form : List ℕ → Bool
has_day_form text =
    nat_eq (length text) 10
    && list_all is_ascii_digit (take 4 text) && option_eq nat_eq (slice_get text 4) (Some 45)
    && list_all is_ascii_digit (slice_range text 5 7) && option_eq nat_eq (slice_get text 7) (Some 45)
    && list_all is_ascii_digit (drop 8 text)

-- whether a text is that of a day
abbrev pub is_day_text : List ℕ → Bool
is_day_text text = has_day_form text && is_date_of_desk (year_in text) (month_in text) (day_in text)

-- the day that a text names
abbrev pub day_read : List ℕ → Option ℕ
day_read text = if is_day_text text then Some (number_in text) else None
