-- The year, month and day of a day number, from jiff's day counts.
use Rattle.std.proofs.Common.{◌≡◌, ℕ, zero, suc, ◌+◌, ◌<◌, ◌≤◌, refl, sym, ap, arith, inl, inr, ℤ, pos, negsuc, unsigned_abs}
use Rattle.std.proofs.lemmas.Bool.{cases_lt, le-leb, lt-leb}
use Rattle.std.proofs.lemmas.Int.{ints}
use Rattle.jiff_core.specs.Calendar.{day_count, days_from_civil, IsCivilDate}
use Rattle.jiff_core.proofs.SignedLemmas.{signed_arith}
use Rattle.jiff_core.proofs.MarchLemmas.{day_count-early}
use Rattle.jiff_core.proofs.CalendarLemmas.{days_in_month_bounds, days_from_civil-day_count, day_count-lt_year, day_count-lt_month, day_count-day, day_count-day_of_year, day_count-epoch, day_count-next_year, day_count-last_of_year}
use borrow.Author.Differences.{up, down}
use Rattle.td_time.specs.Days.{IsDay, IsDateOfDesk, day_number, last_begun, year_of, month_of, day_of}

-- 1970-01-01 is day 0
pub epoch_is_zero : (y : ℤ) (m d : ℕ) → y ≡ pos 1970 → m ≡ 1 → d ≡ 1 → days_from_civil y m d ≡ pos 0
epoch_is_zero y m d ey em ed =
    rw (ey, em, ed) (omega (arith, ints, signed_arith, days_from_civil-day_count (pos 1970) 1 1, day_count-epoch))

-- day numbers by counts
pub count_from : (y : ℤ) (m d n : ℕ) → days_from_civil y m d ≡ pos n → day_count y m d ≡ n + 4371953
count_from y m d n e = omega (arith, ints, signed_arith, days_from_civil-day_count y m d)

-- a day number from the count, from 1970 on
pub number_from : (y m d : ℕ) → 4371953 ≤ day_count (pos y) m d → day_number y m d + 4371953 ≡ day_count (pos y) m d
unfolding day_number
number_from y m d late = omega (arith, ints, signed_arith, days_from_civil-day_count (pos y) m d)

-- the count of 2000-01-01
start_2000 : day_count (pos 2000) 1 1 ≡ 4382910
start_2000 = day_count-early (pos 2000) 11999 1 1 refl (omega arith) (omega arith) (omega arith)

-- and of 2101-01-01
start_2101 : day_count (pos 2101) 1 1 ≡ 4419800
start_2101 = day_count-early (pos 2101) 12100 1 1 refl (omega arith) (omega arith) (omega arith)

-- each year has a first of January
new_year : (y : ℕ) → y ≤ 9999 → IsCivilDate (pos y) 1 1
new_year y small = ((omega (arith, ints), omega (arith, ints)), (omega arith, omega arith), (omega arith, omega arith))

-- no day of a year comes before its first
new_year_first : (y : ℤ) (m d : ℕ) → 1 ≤ d → day_count y 1 1 ≤ day_count y m d
new_year_first y m d some = omega (arith, day_count-day_of_year y m d some)

-- and the first days of years come in order
new_year_before : (y later m d : ℕ) → y ≤ later → y ≤ 9999 → 1 ≤ d → day_count (pos y) 1 1 ≤ day_count (pos later) m d
new_year_before y later m d le small some =
    elim (cases_lt y later) [
      | inl lt ↦ let before = day_count-lt_year (pos y) 1 1 (pos later) m d (new_year y small) some (omega (arith, ints)) in omega arith
      | inr ge ↦ let same : y ≡ later = omega arith in rw same (new_year_first (pos later) m d some)
    ]

-- a day of the desk lies in the years from 2000 to 2100
pub year_range : (y : ℤ) (m d n : ℕ) → IsCivilDate y m d → day_count y m d ≡ n + 4371953 → IsDay n → (2000 ≤ unsigned_abs y) × (unsigned_abs y ≤ 2100) × (y ≡ pos (unsigned_abs y))
year_range (pos y) m d n date count day =
    let low : 2000 ≤ y = elim (cases_lt y 2000) [
      | inl lt ↦ let before = day_count-lt_year (pos y) m d (pos 2000) 1 1 date (omega arith) (omega (arith, ints)) in absurd (omega (arith, before, start_2000))
      | inr ge ↦ ge
    ] in
    let high : y ≤ 2100 = elim (cases_lt 2100 y) [
      | inl lt ↦ let after = new_year_before 2101 y m d lt (omega arith) date.2.0 in absurd (omega (arith, after, start_2101))
      | inr ge ↦ ge
    ] in
    (low, high, refl)
year_range (negsuc y) m d n date count day =
    let before = day_count-lt_year (negsuc y) m d (pos 2000) 1 1 date (omega arith) (omega (arith, ints)) in
    absurd (omega (arith, before, start_2000))

-- what the look-through finds
pub last_begun_is : (start : ℕ → ℕ) (more first t n : ℕ) → first ≤ t → t ≤ first + more → ((k : ℕ) → first < k → k ≤ t → start k ≤ n) → n < start (t + 1) → last_begun start more first n ≡ t
unfolding last_begun
last_begun_is start zero first t n low high before after = omega arith
last_begun_is start (suc more) first t n low high before after =
    elim (cases_lt first t) [
      | inl lt ↦ rw (le-leb (start (first + 1)) n (before (first + 1) (omega arith) (omega arith))) (last_begun_is start more (first + 1) t n (omega arith) (omega arith) (λ k above within. before k (omega arith) within) after)
      | inr ge ↦ let same : first ≡ t = omega arith in rw (same, lt-leb (start (t + 1)) n after) refl
    ]

-- a month's first day is after 1970
month_number : (year month : ℕ) → 2000 ≤ year → day_number year month 1 + 4371953 ≡ day_count (pos year) month 1
month_number year month late =
    number_from year month 1 (omega (arith, start_2000, new_year_before 2000 year month 1 late (omega arith) (omega arith)))

-- the year of a date's number
year_found : (y m d n : ℕ) → 2000 ≤ y → y ≤ 2100 → IsCivilDate (pos y) m d → day_count (pos y) m d ≡ n + 4371953 → y ≡ year_of n
unfolding year_of
year_found y m d n low high date count =
    let before : (k : ℕ) → 2000 < k → k ≤ y → day_number k 1 1 ≤ n = λ k above within. omega (arith, month_number k 1 (omega arith), new_year_before k y m d within (omega arith) date.2.0) in
    let next = day_count-lt_year (pos y) m d (pos (y + 1)) 1 1 date (omega arith) (omega (arith, ints)) in
    let after : n < day_number (y + 1) 1 1 = omega (arith, month_number (y + 1) 1 (omega arith)) in
    sym (last_begun_is (λ (year : ℕ). day_number year 1 1) 100 2000 y n low (omega arith) before after)

-- the first days of months come in order
month_before : (y k m d : ℕ) → 1 ≤ k → k ≤ m → IsCivilDate (pos y) m d → day_count (pos y) k 1 ≤ day_count (pos y) m d
month_before y k m d some le date =
    elim (cases_lt k m) [
      | inl lt ↦
          let first : IsCivilDate (pos y) k 1 = (date.0, (some, omega arith), (omega arith, omega (arith, (days_in_month_bounds (pos y) k).1))) in
          let before = day_count-lt_month (pos y) k 1 m d first date.2.0 lt in
          omega arith
      | inr ge ↦ let same : k ≡ m = omega arith in rw same (omega (arith, day_count-day (pos y) m d 1 date.2.0 (omega arith)))
    ]

-- the month is found as the year is
month_found : (y m d n : ℕ) → 2000 ≤ y → IsCivilDate (pos y) m d → day_count (pos y) m d ≡ n + 4371953 → last_begun (λ (month : ℕ). day_number y month 1) 11 1 n ≡ m
month_found y m d n low date count =
    let before : (k : ℕ) → 1 < k → k ≤ m → day_number y k 1 ≤ n = λ k above within. omega (arith, month_number y k low, month_before y k m d (omega arith) within date) in
    let next = day_count-lt_month (pos y) m d (m + 1) 1 date (omega arith) (omega arith) in
    let after : n < day_number y (m + 1) 1 = omega (arith, month_number y (m + 1) low) in
    last_begun_is (λ (month : ℕ). day_number y month 1) 11 1 m n date.1.0 (omega arith) before after

-- no day of the desk lies in a negative year
never_negative : {P : Type 0} (y m d n : ℕ) → IsCivilDate (negsuc y) m d → days_from_civil (negsuc y) m d ≡ pos n → IsDay n → P
never_negative y m d n date number day =
    let range = year_range (negsuc y) m d n date (count_from (negsuc y) m d n number) day in
    let unlike : negsuc y ≡ pos (suc y) → ⊥ = λ e. cc in
    absurd (unlike range.2)

-- the parts of a day number are those of its date
pub year_is : (y : ℤ) (m d n : ℕ) → IsCivilDate y m d → days_from_civil y m d ≡ pos n → IsDay n → unsigned_abs y ≡ year_of n
year_is (negsuc y) m d n date number day = never_negative y m d n date number day
year_is (pos y) m d n date number day =
    let count = count_from (pos y) m d n number in
    let range = year_range (pos y) m d n date count day in
    year_found y m d n range.0 range.1 date count

-- the month
pub month_is : (y : ℤ) (m d n : ℕ) → IsCivilDate y m d → days_from_civil y m d ≡ pos n → IsDay n → m ≡ month_of n
unfolding month_of
month_is (negsuc y) m d n date number day = never_negative y m d n date number day
month_is (pos y) m d n date number day =
    let count = count_from (pos y) m d n number in
    let range = year_range (pos y) m d n date count day in
    let year : y ≡ year_of n = year_is (pos y) m d n date number day in
    rw (← year) (sym (month_found y m d n range.0 date count))

-- the day of the month
pub day_is : (y : ℤ) (m d n : ℕ) → IsCivilDate y m d → days_from_civil y m d ≡ pos n → IsDay n → d ≡ day_of n
unfolding day_of
day_is (negsuc y) m d n date number day = never_negative y m d n date number day
day_is (pos y) m d n date number day =
    let count = count_from (pos y) m d n number in
    let range = year_range (pos y) m d n date count day in
    let year : y ≡ year_of n = year_is (pos y) m d n date number day in
    let month : m ≡ month_of n = month_is (pos y) m d n date number day in
    let first = month_number y m range.0 in
    let place = day_count-day (pos y) m d 1 date.2.0 (omega arith) in
    rw (← year, ← month) (omega arith)

-- a date's number, by its parts
pub number_by_parts : (y : ℤ) (m d year month day : ℕ) → y ≡ pos year → m ≡ month → d ≡ day → unsigned_abs (days_from_civil y m d) ≡ day_number year month day
unfolding day_number
number_by_parts y m d year month day ey em ed = rw (ey, em, ed) refl

-- a date of the desk is a date of the calendar, whose number is a day's
civil_from : (year month day : ℕ) → IsDateOfDesk year month day → IsCivilDate (pos year) month day
civil_from year month day h =
    ((omega (arith, ints, h.first), omega (arith, ints, h.last)), (omega (arith, ints, h.date.1.0), omega (arith, ints, h.date.1.1)), (omega (arith, ints, h.date.2.0), omega (arith, ints, h.date.2.1)))

-- and the number of a date of the desk is a day's
pub number_range : (year month day : ℕ) → IsDateOfDesk year month day → IsDay (day_number year month day)
number_range year month day h =
    let date = civil_from year month day h in
    let late = new_year_before 2000 year month day h.first (omega arith) date.2.0 in
    let early = day_count-lt_year (pos year) month day (pos 2101) 1 1 date (omega arith) (omega (arith, ints, h.last)) in
    let number = number_from year month day (omega (arith, start_2000)) in
    (omega (arith, start_2000), omega (arith, start_2101))

-- the first day and the last one
pub first_day : day_number 2000 1 1 ≡ 10957
first_day = omega (arith, start_2000, number_from 2000 1 1 (omega (arith, start_2000)))

-- 2100-12-31
pub last_day : day_number 2100 12 31 ≡ 47846
last_day =
    let next = day_count-next_year (pos 2100) (pos 2101) (omega (arith, ints)) refl in
    let before = day_count-last_of_year (pos 2100) in
    omega (arith, start_2101, number_from 2100 12 31 (omega (arith, start_2101)))

-- the parts of a day's date
pub date_from : (y : ℤ) (m d n : ℕ) → IsCivilDate y m d → days_from_civil y m d ≡ pos n → IsDay n → IsDateOfDesk (unsigned_abs y) m d × (day_number (unsigned_abs y) m d ≡ n)
unfolding day_number
date_from (negsuc y) m d n date number day = never_negative y m d n date number day
date_from (pos y) m d n date number day =
    let range = year_range (pos y) m d n date (count_from (pos y) m d n number) day in (
      record {
        date = (date.0, (omega (arith, ints, date.1.0), omega (arith, ints, date.1.1)), (omega (arith, ints, date.2.0), omega (arith, ints, date.2.1)));
        first = range.0;
        last = range.1;
      },
      ap unsigned_abs number,
    )

-- a number whose count is late enough isn't negative
positive : (z : ℤ) (before count : ℕ) → up z + before ≡ down z + count → before ≤ count → z ≡ pos (unsigned_abs z)
positive (pos n) before count e late = refl
positive (negsuc n) before count e late = absurd (omega (arith, signed_arith, e))

-- a date of the desk is that of its number
number_positive : (year month day : ℕ) → 4371953 ≤ day_count (pos year) month day → days_from_civil (pos year) month day ≡ pos (day_number year month day)
unfolding day_number
number_positive year month day late =
    positive (days_from_civil (pos year) month day) 4371953 (day_count (pos year) month day) (days_from_civil-day_count (pos year) month day) late

-- the parts of that number are those of the date
pub parts_again : (year month day : ℕ) → IsDateOfDesk year month day → (year_of (day_number year month day) ≡ year) × (month_of (day_number year month day) ≡ month) × (day_of (day_number year month day) ≡ day)
parts_again year month day h =
    let date = civil_from year month day h in
    let late = new_year_before 2000 year month day h.first (omega arith) date.2.0 in
    let number = number_positive year month day (omega (arith, start_2000)) in
    let range = number_range year month day h in
    (sym (year_is (pos year) month day _ date number range), sym (month_is (pos year) month day _ date number range), sym (day_is (pos year) month day _ date number range))
