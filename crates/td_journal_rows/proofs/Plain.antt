-- The characters of the texts that stand in requests.
use Rattle.std.proofs.Common.{◌≡◌, ◌≢◌, Bool, true, ◌==◌, ℕ, ◌-◌, ◌/◌, ◌<◌, ◌≤◌, List, [], ◌∷◌, ◌++◌, length, take, drop, All, refl, sym, ap, ap₂, arith, inl, inr, ◌*◌, ◌^◌, get_or, fold, decimal, rules, ◌+◌}
use Rattle.std.proofs.lemmas.Bool.Decides.{Decides-and, Decides-eqb, Decides-like, Decides-not, nat_tests}
use Rattle.std.proofs.lemmas.Fmt.{digits_decimal, digits_value-decimal}
use Rattle.std.proofs.lemmas.List.{take-append-drop}
use Rattle.std.proofs.lemmas.List.Elements.{All-append, All-cons, All-from_get_or, All-head, All-same, All-tail, All-weaker}
use Rattle.std.proofs.lemmas.Str.{IsUtf8-from_ascii}
use Rattle.std.specs.Char.{IsAsciiDigit, IsAsciiUppercase}
use Rattle.std.proofs.lemmas.Str.Parse.{IsNumeralModel, numerals_by_fold, tells_by_index}
use Rattle.std.specs.Bool.{Decides}
use Rattle.std.specs.Int.{IsInRange}
use Rattle.std.specs.List.{list_all}
use Rattle.std.specs.Prelude.{◌&&◌, nat_le, nat_lt, not}
use Rattle.std.specs.Str.{IsUtf8}
use Rattle.json.specs.Print.{escape, quoted}
use Rattle.json.proofs.Printed.Strings.{escape_byte_plain}
use Rattle.ascii_text.specs.Digits.{IsMark, digits_value, fixed_decimal}
use Rattle.ascii_text.proofs.Ascii.{IsAscii-from}
use Rattle.ascii_text.proofs.Decided.{all_decided, le_decided}
use Rattle.ascii_text.proofs.Decimals.{fixed_decimal_digits}
use Rattle.td_base.specs.Codes.{IsAccessCode, IsEori, IsLrn, IsLrnCharacter, IsOfficeNo, holder_text}
use Rattle.td_base.specs.Days.{day_text, day_of, month_of, year_of}
use Rattle.td_base.specs.References.{IsReferenceText, front_of}
use Rattle.td_base.proofs.Checked.{front_marks}

-- a character that JSON writes as it is
pub record IsPlain (c : ℕ) : Type 0 where
  pub low : 32 ≤ c
  pub high : c < 128
  pub quote : c ≢ 34
  pub slash : c ≢ 92

-- whether a character is one
abbrev pub is_plain : ℕ → Bool
is_plain c = nat_le 32 c && nat_lt c 128 && not (c == 34) && not (c == 92)

plain_decided : (c : ℕ) → Decides (is_plain c) (IsPlain c)
plain_decided c =
    let below : Decides (nat_lt c 128) (c < 128) = (λ h. grind (arith, nat_tests), λ h. grind (arith, nat_tests)) in
    Decides-like (is_plain c)
    (λ h. record { low = h.0.0.0; high = h.0.0.1; quote = h.0.1; slash = h.1 })
    (λ h. (((h.low, h.high), h.quote), h.slash))
    (Decides-and _ _ (Decides-and _ _ (Decides-and _ _ (le_decided 32 c) below) (Decides-not _ (Decides-eqb c 34))) (Decides-not _ (Decides-eqb c 92)))

-- a text that passes the test, as a literal does
pub plain_text : (text : List ℕ) → list_all is_plain text ≡ true → All IsPlain text
plain_text text h = (all_decided is_plain IsPlain plain_decided text).0 h

-- a text of such characters is written as it is
pub escape_plain : (text : List ℕ) → All IsPlain text → escape text ≡ text
escape_plain [] all = refl
escape_plain (c ∷ text) all =
    let first = All-head IsPlain c text all in
    ap₂ (λ (a b : List ℕ). a ++ b) (escape_byte_plain c first.quote first.slash first.low) (escape_plain text (All-tail IsPlain c text all))

-- between its quotes
pub quoted_plain : (text : List ℕ) → All IsPlain text → quoted text ≡ 34 ∷ (text ++ 34 ∷ [])
quoted_plain text all = ap (λ (s : List ℕ). 34 ∷ (s ++ 34 ∷ [])) (escape_plain text all)

-- ---- what stands in a request

-- a character that ends no line, in ASCII
pub record IsShown (c : ℕ) : Type 0 where
  pub low : 32 ≤ c
  pub high : c < 128

pub shown_plain : (text : List ℕ) → All IsPlain text → All IsShown text
shown_plain text all = All-weaker IsPlain IsShown (λ c h. record { low = h.low; high = h.high }) text all

-- a text of such characters is UTF-8
pub utf8_shown : (text : List ℕ) → All IsShown text → IsUtf8 text
utf8_shown text all = IsUtf8-from_ascii text (IsAscii-from IsShown (λ c h. h.high) text all)

-- ---- classes of characters

pub mark_plain : (c : ℕ) → IsMark c → IsPlain c
mark_plain c (inl digit) = record { low = omega (arith, digit.0); high = omega (arith, digit.1); quote = λ e. omega (arith, digit.0); slash = λ e. omega (arith, digit.1) }
mark_plain c (inr letter) = record { low = omega (arith, letter.0); high = omega (arith, letter.1); quote = λ e. omega (arith, letter.0); slash = λ e. omega (arith, letter.1) }

digit_plain : (c : ℕ) → IsAsciiDigit c → IsPlain c
digit_plain c h = mark_plain c (inl h)

lrn_plain : (c : ℕ) → IsLrnCharacter c → IsPlain c
lrn_plain c (inl (inl (inl digit))) = digit_plain c digit
lrn_plain c (inl (inl (inr capital))) = mark_plain c (inr capital)
lrn_plain c (inl (inr letter)) = record { low = omega (arith, letter.0); high = omega (arith, letter.1); quote = λ e. omega (arith, letter.0); slash = λ e. omega (arith, letter.0) }
lrn_plain c (inr (inl dash)) = record { low = omega arith; high = omega arith; quote = λ e. omega arith; slash = λ e. omega arith }
lrn_plain c (inr (inr (inl slash))) = record { low = omega arith; high = omega arith; quote = λ e. omega arith; slash = λ e. omega arith }
lrn_plain c (inr (inr (inr point))) = record { low = omega arith; high = omega arith; quote = λ e. omega arith; slash = λ e. omega arith }

-- ---- texts

marks_plain : (text : List ℕ) → All IsMark text → All IsPlain text
marks_plain text all = All-weaker IsMark IsPlain mark_plain text all

-- two capital letters, and marks behind them
letters_then_marks : (text : List ℕ) → All IsAsciiUppercase (take 2 text) → All IsMark (drop 2 text) → All IsMark text
letters_then_marks text front behind =
    let letters = All-weaker IsAsciiUppercase IsMark (λ c h. inr h) (take 2 text) front in
    All-same IsMark text _ (sym (take-append-drop 2 text)) (All-append IsMark (take 2 text) (drop 2 text) letters behind)

pub eori_plain : (text : List ℕ) → IsEori text → All IsPlain text
eori_plain text h = marks_plain text (letters_then_marks text h.country h.marks)

pub office_plain : (text : List ℕ) → IsOfficeNo text → All IsPlain text
office_plain text h = marks_plain text (letters_then_marks text h.country h.marks)

pub code_plain : (text : List ℕ) → IsAccessCode text → All IsPlain text
code_plain text h = marks_plain text h.marks

pub lrn_text_plain : (text : List ℕ) → IsLrn text → All IsPlain text
lrn_text_plain text h = All-weaker IsLrnCharacter IsPlain lrn_plain text h.characters

-- a reference is of marks alone
pub reference_marks : (places : ℕ) (text : List ℕ) → 5 ≤ places → IsReferenceText places text → All IsMark text
reference_marks places text some h =
    let last = All-weaker IsAsciiDigit IsMark (λ c h. inl h) (drop (length text - 1) text) h.form.last in
    let all = All-append IsMark (front_of text) (drop (length text - 1) text) (front_marks text (omega (arith, h.size)) h.form) last in
    All-same IsMark text _ (sym (take-append-drop (length text - 1) text)) all

pub reference_plain : (places : ℕ) (text : List ℕ) → 5 ≤ places → IsReferenceText places text → All IsPlain text
reference_plain places text some h = marks_plain text (reference_marks places text some h)

-- a day in digits and dashes
pub day_plain : (n : ℕ) → All IsPlain (day_text n)
day_plain n =
    let digits : (width n : ℕ) → All IsPlain (fixed_decimal width n) = λ width n. All-weaker IsAsciiDigit IsPlain digit_plain (fixed_decimal width n) (fixed_decimal_digits width n) in
    let dash : IsPlain 45 = record { low = omega arith; high = omega arith; quote = λ e. omega arith; slash = λ e. omega arith } in
    let month = All-cons IsPlain 45 (fixed_decimal 2 (month_of n)) dash (digits 2 (month_of n)) in
    let day = All-cons IsPlain 45 (fixed_decimal 2 (day_of n)) dash (digits 2 (day_of n)) in
    All-append IsPlain (fixed_decimal 4 (year_of n) ++ 45 ∷ fixed_decimal 2 (month_of n)) (45 ∷ fixed_decimal 2 (day_of n)) (All-append IsPlain (fixed_decimal 4 (year_of n)) (45 ∷ fixed_decimal 2 (month_of n)) (digits 4 (year_of n)) month) day

-- a holder's text is that number in six digits
pub six_digits : (n : ℕ) → holder_text n ≡ fixed_decimal 6 n
unfolding fixed_decimal
six_digits n = let whole : n / 1 ≡ n = omega arith in rw whole refl

pub holder_digits : (n : ℕ) → All IsAsciiDigit (holder_text n)
holder_digits n = All-same IsAsciiDigit (holder_text n) (fixed_decimal 6 n) (six_digits n) (fixed_decimal_digits 6 n)

pub holder_marks : (n : ℕ) → All IsMark (holder_text n)
holder_marks n = All-weaker IsAsciiDigit IsMark (λ c h. inl h) (holder_text n) (holder_digits n)

-- ---- numbers

pub own : IsNumeralModel (λ ds. (i : ℕ) → i < length ds → IsInRange 48 57 (get_or ds i 0)) digits_value
own = numerals_by_fold _ tells_by_index (λ n text. fold (λ n c. 10 * n + (c - 48)) n text) (search rules)

-- a number is written in digits
pub decimal_digits : (n : ℕ) → n < 2 ^ 64 → All IsAsciiDigit (decimal n)
decimal_digits n small = All-from_get_or IsAsciiDigit (decimal n) 0 (digits_decimal own n small)

-- which show it
pub decimal_value : (n : ℕ) → n < 2 ^ 64 → digits_value (decimal n) ≡ n
decimal_value n small = digits_value-decimal own n small

pub shown_decimal : (n : ℕ) → n < 2 ^ 64 → All IsShown (decimal n)
shown_decimal n small = All-weaker IsAsciiDigit IsShown (λ c h. record { low = omega (arith, h.0); high = omega (arith, h.1) }) (decimal n) (decimal_digits n small)
