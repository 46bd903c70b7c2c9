-- Each part of a command is read of its own text.
use Rattle.std.proofs.Common.{◌≡◌, ◌≢◌, ℕ, suc, ◌+◌, ◌-◌, List, [], ◌∷◌, true, length, take, drop, slice_range, slice_get, Some, refl, ap, ◌∙◌, arith, inl, inr, mod-eq_of_lt}
use Rattle.std.proofs.lemmas.Bool.{and_from}
use Rattle.std.proofs.lemmas.Bool.Decides.{Decides-and, Decides-eqb, Decides-not, Decides-or}
use Rattle.std.proofs.lemmas.Int.{ints}
use Rattle.std.proofs.lemmas.Slice.Eq.{bytes_eq-Decides}
use Rattle.std.specs.Bool.{Decides}
use Rattle.std.specs.Prelude.{AllPairs, not}
use Rattle.std.specs.Str.{bytes_eq}
use Rattle.ascii_text.specs.Digits.{digits_value}
use Rattle.ascii_text.proofs.Decided.{all_decided, le_decided, range_decided, some_decided, one_of_four, digits_decided, capitals_decided, marks_decided}
use Rattle.ascii_text.proofs.Decimals.{digits_value-fixed_decimal}
use Rattle.td_base.specs.Codes.{eori_read, code_read, office_read, lrn_read, holder_read, holder_text, is_eori, is_access_code, is_office_no, is_lrn, is_lrn_character, is_holder_text, IsHolderNumber, IsEori, IsAccessCode, IsOfficeNo, IsLrn, IsLrnCharacter}
use Rattle.td_base.specs.Days.{day_in, day_read, day_text, is_date_of_desk, is_day_text, month_in, number_in, year_in, IsDateOfDesk, IsDayText}
use Rattle.td_base.specs.Money.{IsCover, IsReference, cents_of, cover_of, most_cents, reference_of}
use Rattle.td_base.specs.References.{check_of, country_of, front_of, identifier_of, is_reference_text, IsReferenceText}
use Rattle.td_movement.specs.Lines.{most_lines, most_line_cents}
use Rattle.td_movement.specs.declared.line.Line.{Line}
use Rattle.td_journal_rows.proofs.Plain.{holder_digits, six_digits}
use Rattle.td_commands.specs.Lines.{IsLineAmount, IsLines, are_distinct, are_lines, is_line_amount, lines_of}

-- ---- texts

pub eori_reads : (text : List ℕ) → IsEori text → eori_read text ≡ Some text
eori_reads text h =
    let test : is_eori text ≡ true = and_from _ _ (and_from _ _ (and_from _ _ ((le_decided 3 (length text)).1 h.low) ((le_decided (length text) 17).1 h.high)) ((capitals_decided (take 2 text)).1 h.country)) ((marks_decided (drop 2 text)).1 h.marks) in
    rw test refl

pub code_reads : (text : List ℕ) → IsAccessCode text → code_read text ≡ Some text
code_reads text h =
    let test : is_access_code text ≡ true = and_from _ _ ((Decides-eqb (length text) 4).1 h.size) ((marks_decided text).1 h.marks) in
    rw test refl

pub office_reads : (text : List ℕ) → IsOfficeNo text → office_read text ≡ Some text
office_reads text h =
    let test : is_office_no text ≡ true = and_from _ _ (and_from _ _ ((Decides-eqb (length text) 8).1 h.size) ((capitals_decided (take 2 text)).1 h.country)) ((marks_decided (drop 2 text)).1 h.marks) in
    rw test refl

lrn_character_decided : (c : ℕ) → Decides (is_lrn_character c) (IsLrnCharacter c)
lrn_character_decided c =
    one_of_four _ _ _ _ (Decides-or _ _ (Decides-or _ _ (range_decided 48 57 c) (range_decided 65 90 c)) (range_decided 97 122 c))
    (Decides-eqb c 45) (Decides-eqb c 47) (Decides-eqb c 46)

pub lrn_reads : (text : List ℕ) → IsLrn text → lrn_read text ≡ Some text
lrn_reads text h =
    let test : is_lrn text ≡ true = and_from _ _ (and_from _ _ ((le_decided 1 (length text)).1 h.low) ((le_decided (length text) 22).1 h.high)) ((all_decided is_lrn_character IsLrnCharacter lrn_character_decided text).1 h.characters) in
    rw test refl

-- a reference passes its test
pub reference_is : (places : ℕ) (text : List ℕ) → IsReferenceText places text → is_reference_text places text ≡ true
reference_is places text h =
    let form = and_from _ _ (and_from _ _ (and_from _ _ ((digits_decided (take 2 text)).1 h.form.year) ((capitals_decided (country_of text)).1 h.form.country)) ((marks_decided (identifier_of text)).1 h.form.identifier)) ((digits_decided (drop (length text - 1) text)).1 h.form.last) in
    and_from _ _ (and_from _ _ ((Decides-eqb (length text) places).1 h.size) form) ((some_decided (slice_get text (length text - 1)) (48 + check_of (front_of text))).1 h.check)

-- ---- numbers

pub holder_reads : (n : ℕ) → IsHolderNumber n → holder_read (holder_text n) ≡ Some n
holder_reads n h =
    let value : digits_value (holder_text n) ≡ n = ap digits_value (six_digits n) ∙ digits_value-fixed_decimal 6 n ∙ mod-eq_of_lt (omega (arith, h.1)) in
    let test : is_holder_text (holder_text n) ≡ true = and_from _ _ (and_from _ _ refl ((digits_decided (holder_text n)).1 (holder_digits n))) ((le_decided 1 (digits_value (holder_text n))).1 (omega (arith, value, h.0))) in
    rw test (ap Some value)

pub reference_reads : (n : ℕ) → IsReference n → reference_of n ≡ Some n
reference_reads n h =
    let test = and_from _ _ ((le_decided 1 n).1 h.0) ((le_decided n most_cents).1 h.1) in
    rw test refl

pub cover_reads : (n : ℕ) → IsCover n → cover_of n ≡ Some n
cover_reads n (inl whole) = rw whole refl
cover_reads n (inr (inl half)) = rw half refl
cover_reads n (inr (inr (inl third))) = rw third refl
cover_reads n (inr (inr (inr none))) = rw none refl

pub cents_read : (n : ℕ) → IsLineAmount n → cents_of n ≡ Some n
cents_read n h =
    let test = (le_decided n most_cents).1 (omega (arith, h.1)) in
    rw test refl

-- ---- days

date_is : (year month day : ℕ) → IsDateOfDesk year month day → is_date_of_desk year month day ≡ true
date_is year month day h =
    and_from _ _ (and_from _ _ ((range_decided 2000 2100 year).1 (h.first, h.last)) ((range_decided 1 12 month).1 (omega (arith, ints, h.date), omega (arith, ints, h.date))))
    ((range_decided 1 _ day).1 (omega (arith, ints, h.date), omega (arith, ints, h.date)))

day_form : (text : List ℕ) → IsDayText text → is_day_text text ≡ true
day_form text h =
    let front = and_from _ _ (and_from _ _ ((Decides-eqb (length text) 10).1 h.size) ((digits_decided (take 4 text)).1 h.year)) ((some_decided (slice_get text 4) 45).1 h.dash) in
    let form = and_from _ _ (and_from _ _ (and_from _ _ front ((digits_decided (slice_range text 5 7)).1 h.month)) ((some_decided (slice_get text 7) 45).1 h.second_dash)) ((digits_decided (drop 8 text)).1 h.day) in
    and_from _ _ form (date_is (year_in text) (month_in text) (day_in text) h.date)

-- a day is read of its text, where that is the text of this day
pub day_reads : (n : ℕ) → IsDayText (day_text n) → number_in (day_text n) ≡ n → day_read (day_text n) ≡ Some n
day_reads n form value = rw (day_form (day_text n) form) (ap Some value)

-- ---- lines

distinct_is : (lines : List (Line × List ℕ)) → AllPairs (λ l m. l.0.grn ≢ m.0.grn) lines → are_distinct lines ≡ true
distinct_is [] h = refl
distinct_is (line ∷ lines) h =
    let others = (all_decided (λ later. not (bytes_eq line.0.grn later.0.grn)) (λ later. line.0.grn ≢ later.0.grn) (λ later. Decides-not _ (bytes_eq-Decides line.0.grn later.0.grn)) lines).1 (λ k d within. h 0 (suc k) d (omega arith) (omega arith)) in
    and_from _ _ others (distinct_is lines (λ i j d before within. h (suc i) (suc j) d (omega arith) (omega arith)))

amount_decided : (line : Line × List ℕ) → Decides (is_line_amount line.0.cents) (IsLineAmount line.0.cents)
amount_decided line = Decides-and _ _ (le_decided 1 line.0.cents) (le_decided line.0.cents most_line_cents)

pub lines_read : (lines : List (Line × List ℕ)) → IsLines lines → lines_of lines ≡ Some lines
lines_read lines h =
    let amounts = (all_decided (λ line. is_line_amount line.0.cents) (λ line. IsLineAmount line.0.cents) amount_decided lines).1 h.amounts in
    let test : are_lines lines ≡ true = and_from _ _ (and_from _ _ (and_from _ _ ((le_decided 1 (length lines)).1 h.some) ((le_decided (length lines) most_lines).1 h.most)) amounts) (distinct_is lines h.distinct) in
    rw test refl
