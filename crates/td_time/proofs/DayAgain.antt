-- A day that is read is printed as it was.
use Rattle.std.proofs.Common.{◌≡◌, ℕ, List, ◌∷◌, ◌++◌, length, take, drop, slice_range, slice_get, Some, arith, ap, sym, ◌∙◌, append_assoc}
use Rattle.std.proofs.lemmas.List.{length-take-le, length-drop, drop-drop, get_or-drop}
use Rattle.std.proofs.lemmas.Option.{slice_get_within, get_or_from_slice_get, slice_get-get_or}
use Rattle.ascii_text.specs.Digits.{fixed_decimal}
use Rattle.ascii_text.proofs.DigitsAgain.{digits_again}
use Rattle.ascii_text.proofs.Places.{around}
use Rattle.td_time.specs.Days.{IsDayText, day_text, number_in, year_in, month_in, day_in}
use Rattle.td_time.proofs.Calendar.{parts_again}

-- the ten characters of a day
ten_again : (text : List ℕ) → slice_get text 4 ≡ Some 45 → slice_get text 7 ≡ Some 45 → take 4 text ++ 45 ∷ slice_range text 5 7 ++ 45 ∷ drop 8 text ≡ text
ten_again text dash second =
    let within = slice_get_within text 7 45 second in
    let found : slice_get (drop 5 text) 2 ≡ Some 45 = slice_get-get_or (drop 5 text) 2 0 (omega (arith, length-drop 5 text)) ∙ ap Some (get_or-drop 5 text 2 0 ∙ get_or_from_slice_get text 7 45 0 second) in
    let middle : drop 5 text ≡ slice_range text 5 7 ++ 45 ∷ drop 8 text = around (drop 5 text) 2 45 found ∙ ap (λ (xs : List ℕ). slice_range text 5 7 ++ 45 ∷ xs) (drop-drop 3 5 text) in
    append_assoc (take 4 text) (45 ∷ slice_range text 5 7) (45 ∷ drop 8 text) ∙ ap (λ (xs : List ℕ). take 4 text ++ 45 ∷ xs) (sym middle) ∙ sym (around text 4 45 dash)

-- the text of a day
pub day_again : (text : List ℕ) → IsDayText text → day_text (number_in text) ≡ text
day_again text h =
    let year = year_in text in
    let parts = parts_again (year_in text) (month_in text) (day_in text) h.date in
    let first : fixed_decimal 4 (year_in text) ≡ take 4 text = ap (λ (width : ℕ). fixed_decimal width (year_in text)) (sym (length-take-le 4 text (omega (arith, h.size)))) ∙ digits_again (take 4 text) h.year in
    let two : length (slice_range text 5 7) ≡ 2 = length-take-le 2 (drop 5 text) (omega (arith, length-drop 5 text, h.size)) in
    let second : fixed_decimal 2 (month_in text) ≡ slice_range text 5 7 = ap (λ (width : ℕ). fixed_decimal width (month_in text)) (sym two) ∙ digits_again (slice_range text 5 7) h.month in
    let two' : length (drop 8 text) ≡ 2 = omega (arith, length-drop 8 text, h.size) in
    let third : fixed_decimal 2 (day_in text) ≡ drop 8 text = ap (λ (width : ℕ). fixed_decimal width (day_in text)) (sym two') ∙ digits_again (drop 8 text) h.day in
    rw (parts.0, parts.1, parts.2, first, second, third) (ten_again text h.dash h.second_dash)
