-- Texts of days.
use Rattle.std.proofs.Common.{◌≡◌, ℕ, ◌^◌, ◌<◌, List, ◌∷◌, ◌++◌, length, take, drop, slice_range, slice_get, get_or, All, Option, Some, SomeIff, pos, arith, refl, ap, ◌∙◌, mod-eq_of_lt}
use Rattle.std.specs.Bool.{Decides}
use Rattle.std.specs.Char.{IsAsciiDigit}
use Rattle.std.specs.Str.{IsAscii}
use Rattle.std.proofs.lemmas.Bool.Decides.{Decides-and, Decides-eqb, Decides-like}
use Rattle.std.proofs.lemmas.Int.{ints}
use Rattle.std.proofs.lemmas.List.Elements.{All-append, All-cons, All-weaker}
use Rattle.std.proofs.lemmas.Option.{slice_get-get_or}
use Rattle.jiff_core.specs.Calendar.{days_in_month}
use Rattle.jiff_core.proofs.CalendarLemmas.{days_in_month_bounds}
use Rattle.ascii_text.specs.Digits.{digits_value, fixed_decimal}
use Rattle.ascii_text.proofs.Ascii.{IsAscii-from}
use Rattle.ascii_text.proofs.Decided.{digits_decided, range_decided, some_decided, some_where}
use Rattle.ascii_text.proofs.Decimals.{two_digits, four_digits, fixed_decimal_digits, digits_value-fixed_decimal}
use Rattle.td_time.specs.Days.{IsDateOfDesk, IsDayText, is_date_of_desk, is_day_text, day_number, day_read, number_in, year_in, month_in, day_in}

-- a date in digits
abbrev pub date_text : ℕ → ℕ → ℕ → List ℕ
date_text year month day = fixed_decimal 4 year ++ 45 ∷ fixed_decimal 2 month ++ 45 ∷ fixed_decimal 2 day

-- what stands where in it
record HasDateParts (year month day : ℕ) (text : List ℕ) : Type 0 where
  size : length text ≡ 10
  first : take 4 text ≡ fixed_decimal 4 year
  dash : slice_get text 4 ≡ Some 45
  second : slice_range text 5 7 ≡ fixed_decimal 2 month
  second_dash : slice_get text 7 ≡ Some 45
  third : drop 8 text ≡ fixed_decimal 2 day

-- the ten characters, place by place
date_parts : (year month day : ℕ) → HasDateParts year month day (date_text year month day)
date_parts year month day = record {
  size = rw (four_digits year, two_digits month, two_digits day) refl;
  first = rw (four_digits year) refl;
  dash = rw (four_digits year) refl;
  second = rw (four_digits year, two_digits month) refl;
  second_dash = rw (four_digits year, two_digits month) refl;
  third = rw (four_digits year, two_digits month, two_digits day) refl;
}

-- a number in enough digits is shown whole
shown : (width n : ℕ) → n < 10 ^ width → digits_value (fixed_decimal width n) ≡ n
shown width n small = digits_value-fixed_decimal width n ∙ mod-eq_of_lt small

-- the text of a date reads back
pub date_reads : (year month day : ℕ) → IsDateOfDesk year month day → IsDayText (date_text year month day) × (number_in (date_text year month day) ≡ day_number year month day)
date_reads year month day h =
    let text = date_text year month day in
    let parts = date_parts year month day in
    let short = days_in_month_bounds (pos year) month in
    let first : year_in text ≡ year = ap digits_value parts.first ∙ shown 4 year (omega (arith, h.last)) in
    let second : month_in text ≡ month = ap digits_value parts.second ∙ shown 2 month (omega (arith, ints, h.date.1.1)) in
    let third : day_in text ≡ day = ap digits_value parts.third ∙ shown 2 day (omega (arith, ints, h.date.2.1)) in (
      record {
        size = parts.size;
        year = rw parts.first (fixed_decimal_digits 4 year);
        dash = parts.dash;
        month = rw parts.second (fixed_decimal_digits 2 month);
        second_dash = parts.second_dash;
        day = rw parts.third (fixed_decimal_digits 2 day);
        date = rw (first, second, third) h;
      },
      rw (first, second, third) refl,
    )

-- it is ASCII
pub date_is_ascii : (year month day : ℕ) → IsAscii (date_text year month day)
date_is_ascii year month day =
    let Small : ℕ → Type 0 = λ c. c < 128 in
    let digits : (width n : ℕ) → All Small (fixed_decimal width n) = λ width n. All-weaker IsAsciiDigit Small (λ c h. omega arith) (fixed_decimal width n) (fixed_decimal_digits width n) in
    let front = All-append Small (fixed_decimal 4 year) (45 ∷ fixed_decimal 2 month) (digits 4 year) (All-cons Small 45 (fixed_decimal 2 month) (omega arith) (digits 2 month)) in
    IsAscii-from Small (λ c h. h) (date_text year month day) (All-append Small (fixed_decimal 4 year ++ 45 ∷ fixed_decimal 2 month) (45 ∷ fixed_decimal 2 day) front (All-cons Small 45 (fixed_decimal 2 day) (omega arith) (digits 2 day)))

-- what is found in a text of ten characters is what such a text is made of
pub made_day_text : (text : List ℕ) (year month day : ℕ) → length text ≡ 10 → get_or text 4 0 ≡ 45 → get_or text 7 0 ≡ 45 → All IsAsciiDigit (take 4 text) × (year ≡ year_in text) → All IsAsciiDigit (slice_range text 5 7) × (month ≡ month_in text) → All IsAsciiDigit (drop 8 text) × (day ≡ day_in text) → IsDateOfDesk year month day → IsDayText text
made_day_text text year month day size dash second_dash y m d date = record {
  size = size;
  year = y.0;
  dash = slice_get-get_or text 4 0 (omega arith) ∙ ap Some dash;
  month = m.0;
  second_dash = slice_get-get_or text 7 0 (omega arith) ∙ ap Some second_dash;
  day = d.0;
  date = rw (← y.1, ← m.1, ← d.1) date;
}

-- the test of a date tells its fact
date_decided : (year month day : ℕ) → Decides (is_date_of_desk year month day) (IsDateOfDesk year month day)
date_decided year month day =
    Decides-like (is_date_of_desk year month day)
    (λ h. record {
      date = ((omega (arith, ints), omega (arith, ints)), (omega (arith, ints), omega (arith, ints)), (omega (arith, ints), omega (arith, ints)));
      first = h.0.0.0;
      last = h.0.0.1;
    })
    (λ h. (((h.first, h.last), (omega (arith, ints, h.date), omega (arith, ints, h.date))), (omega (arith, ints, h.date), omega (arith, ints, h.date))))
    (Decides-and _ _ (Decides-and _ _ (range_decided 2000 2100 year) (range_decided 1 12 month)) (range_decided 1 (days_in_month (pos year) month) day))

-- and the test of a day's text
pub day_text_decided : (text : List ℕ) → Decides (is_day_text text) (IsDayText text)
day_text_decided text =
    Decides-like (is_day_text text)
    (λ h. record {
      size = h.0.0.0.0.0.0;
      year = h.0.0.0.0.0.1;
      dash = h.0.0.0.0.1;
      month = h.0.0.0.1;
      second_dash = h.0.0.1;
      day = h.0.1;
      date = h.1;
    })
    (λ h. ((((((h.size, h.year), h.dash), h.month), h.second_dash), h.day), h.date))
    (Decides-and _ _ (Decides-and _ _ (Decides-and _ _ (Decides-and _ _ (Decides-and _ _ (Decides-and _ _ (Decides-eqb (length text) 10)
    (digits_decided (take 4 text))) (some_decided (slice_get text 4) 45))
    (digits_decided (slice_range text 5 7))) (some_decided (slice_get text 7) 45))
    (digits_decided (drop 8 text)))
    (date_decided (year_in text) (month_in text) (day_in text)))

-- what a text is read as, where it is a day's or isn't
pub day_read_is : (text : List ℕ) (r : Option ℕ) → SomeIff r (IsDayText text) (number_in text) → r ≡ day_read text
day_read_is text r h = some_where (is_day_text text) r (number_in text) (day_text_decided text) h
