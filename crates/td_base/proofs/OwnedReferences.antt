-- A reference that is owned is the one made of its parts.
use Rattle.std.proofs.Common.{◌≡◌, ℕ, ◌+◌, ◌-◌, ◌^◌, ◌<◌, ◌≤◌, true, false, List, [], ◌∷◌, ◌++◌, length, take, drop, All, Some, arith, refl, ap, ap₂, sym, ◌∙◌, subst, append_assoc}
use Rattle.std.specs.Char.{IsAsciiDigit}
use Rattle.std.specs.List.{slice_get}
use Rattle.std.proofs.lemmas.List.{length-take-le, length-drop, take-append-drop, drop_all}
use Rattle.std.proofs.lemmas.List.Elements.{All-take, All-drop}
use Rattle.ascii_text.specs.Digits.{digits_value, fixed_decimal}
use Rattle.ascii_text.proofs.Decided.{some_decided}
use Rattle.ascii_text.proofs.DigitsAgain.{below_power, digits_again}
use Rattle.ascii_text.proofs.Places.{around}
use Rattle.td_base.specs.Codes.{IsHolderNumber}
use Rattle.td_base.specs.References.{check_of, front_of, country_of, identifier_of, procedure_letter, has_letter, numbers_of, holder_part, serial_part, owner_of, serial_of, reference_text, IsReferenceText, IsMrn, is_lettered, mrn_text, older_mrn_text}
use Rattle.td_base.proofs.Checked.{front_parts}
use Rattle.td_base.proofs.Owners.{owned_since, owned_gives, owner_is, serial_is, length-identifier, same_holder, first_digits}

-- digits in so many places are those of their number
digits_in : (width : ℕ) (text : List ℕ) → length text ≡ width → All IsAsciiDigit text → text ≡ fixed_decimal width (digits_value text)
digits_in width text size digits = sym (digits_again text digits) ∙ ap (λ n. fixed_decimal n (digits_value text)) size

-- the number in so many digits is below that power of ten
small_in : (width : ℕ) (text : List ℕ) → length text ≡ width → All IsAsciiDigit text → digits_value text < 10 ^ width
small_in width text size digits = subst (λ n. digits_value text < 10 ^ n) size (below_power text digits)

-- a reference is made of its year, its country and its identifier
made_again : (places : ℕ) (text : List ℕ) → 5 ≤ places → IsReferenceText places text → text ≡ reference_text (digits_value (take 2 text)) (country_of text) (identifier_of text)
made_again places text some is =
    let long : 5 ≤ length text = omega (arith, is.size) in
    let year = digits_in 2 (take 2 text) (length-take-le 2 text (omega arith)) is.form.year in
    let front : front_of text ≡ fixed_decimal 2 (digits_value (take 2 text)) ++ country_of text ++ identifier_of text =
    front_parts text long ∙ ap (λ y. y ++ (country_of text ++ identifier_of text)) year ∙ sym (append_assoc (fixed_decimal 2 (digits_value (take 2 text))) (country_of text) (identifier_of text)) in
    let none : drop (length text - 1 + 1) text ≡ [] = drop_all (length text - 1 + 1) text (omega arith) in
    around text (length text - 1) (48 + check_of (front_of text)) is.check ∙ rw (none, ← front) refl

-- numbers are a holder's and a serial's
numbers_again : (width : ℕ) (text : List ℕ) → length text ≡ width + 6 → All IsAsciiDigit text → text ≡ fixed_decimal 6 (digits_value (take 6 text)) ++ fixed_decimal width (digits_value (drop 6 text))
numbers_again width text size digits =
    let first = digits_in 6 (take 6 text) (length-take-le 6 text (omega arith)) (All-take IsAsciiDigit 6 text digits) in
    let rest = digits_in width (drop 6 text) (omega (arith, length-drop 6 text)) (All-drop IsAsciiDigit 6 text digits) in
    sym (take-append-drop 6 text) ∙ ap₂ (λ a b. a ++ b) first rest

-- an identifier with the letter
lettered_again : (text : List ℕ) → length text ≡ 13 → has_letter text ≡ true → All IsAsciiDigit (take 12 text)
    → text ≡ fixed_decimal 6 (digits_value (take 6 text)) ++ fixed_decimal 6 (digits_value (drop 6 (take 12 text))) ++ procedure_letter ∷ []
lettered_again text size there digits =
    let at = (some_decided (slice_get text 12) procedure_letter).0 there in
    let none : drop (12 + 1) text ≡ [] = drop_all (12 + 1) text (omega arith) in
    let numbers = numbers_again 6 (take 12 text) (length-take-le 12 text (omega arith)) digits in
    around text 12 procedure_letter at
    ∙ ap₂ (λ a b. a ++ procedure_letter ∷ b) (numbers ∙ ap (λ l. fixed_decimal 6 (digits_value l) ++ fixed_decimal 6 (digits_value (drop 6 (take 12 text)))) (same_holder text)) none

-- the holder and the serial of one that is owned, and its country
record IsOwnedBy (of : List ℕ) (H n : ℕ) (text : List ℕ) : Type 0 where
  country : country_of text ≡ of
  digits : All IsAsciiDigit (numbers_of (identifier_of text))
  positive : 0 < holder_part text
  holder : holder_part text ≡ H
  serial : serial_part text ≡ n

owned_by : (country text : List ℕ) (holder serial : ℕ) → owner_of country text ≡ Some holder → serial_of country text ≡ Some serial → IsOwnedBy country holder serial text
owned_by country text holder serial own number =
    let is = owned_since country text holder (sym own) in
    let gives = owned_gives country text is in
    let holder_is : Some (holder_part text) ≡ Some holder = sym (owner_is country text is) ∙ own in
    let serial_is' : Some (serial_part text) ≡ Some serial = sym (serial_is country text is) ∙ number in
    record { country = gives.0; digits = gives.1; positive = gives.2; holder = cc; serial = cc }

-- an MRN that is owned and has the letter is made with it
pub owned_lettered : (country text : List ℕ) (holder serial : ℕ) → IsMrn text → is_lettered text ≡ true → owner_of country text ≡ Some holder → serial_of country text ≡ Some serial
    → (year : ℕ) × (year ≤ 99) × IsHolderNumber holder × (serial ≤ 999999) × (text ≡ mrn_text year country holder serial)
owned_lettered country text holder serial is there own number =
    let owned = owned_by country text holder serial own number in
    let identifier = identifier_of text in
    let year = digits_value (take 2 text) in
    let size : length identifier ≡ 13 = omega (arith, length-identifier text (omega (arith, is.size)), is.size) in
    let short : numbers_of identifier ≡ take 12 identifier = rw there refl in
    let digits = subst (λ l. All IsAsciiDigit l) short owned.digits in
    let serial_same : digits_value (drop 6 (take 12 identifier)) ≡ serial = ap (λ l. digits_value (drop 6 l)) (sym short) ∙ owned.serial in
    let twelve : length (take 12 identifier) ≡ 12 = length-take-le 12 identifier (omega arith) in
    let below = small_in 6 (take 6 identifier) (length-take-le 6 identifier (omega arith)) (first_digits identifier owned.digits) in
    let below_serial = small_in 6 (drop 6 (take 12 identifier)) (omega (arith, length-drop 6 (take 12 identifier))) (All-drop IsAsciiDigit 6 (take 12 identifier) digits) in
    let below_year = small_in 2 (take 2 text) (length-take-le 2 text (omega (arith, is.size))) is.form.year in
    let parts = lettered_again identifier size there digits
    ∙ ap₂ (λ h n. fixed_decimal 6 h ++ fixed_decimal 6 n ++ procedure_letter ∷ []) owned.holder serial_same in (
      year,
      omega (arith, below_year),
      (omega (arith, owned.positive, owned.holder), omega (arith, below, owned.holder)),
      omega (arith, below_serial, serial_same),
      made_again 18 text (omega arith) is ∙ ap₂ (reference_text year) owned.country parts,
    )

-- and one that hasn't is made in the older form
pub owned_unlettered : (country text : List ℕ) (holder serial : ℕ) → IsMrn text → is_lettered text ≡ false → owner_of country text ≡ Some holder → serial_of country text ≡ Some serial
    → (year : ℕ) × (year ≤ 99) × IsHolderNumber holder × (serial ≤ 9999999) × (text ≡ older_mrn_text year country holder serial)
owned_unlettered country text holder serial is none own number =
    let owned = owned_by country text holder serial own number in
    let identifier = identifier_of text in
    let year = digits_value (take 2 text) in
    let size : length identifier ≡ 13 = omega (arith, length-identifier text (omega (arith, is.size)), is.size) in
    let whole : numbers_of identifier ≡ identifier = rw none refl in
    let digits = subst (λ l. All IsAsciiDigit l) whole owned.digits in
    let serial_same : digits_value (drop 6 identifier) ≡ serial = ap (λ l. digits_value (drop 6 l)) (sym whole) ∙ owned.serial in
    let below = small_in 6 (take 6 identifier) (length-take-le 6 identifier (omega arith)) (first_digits identifier owned.digits) in
    let below_serial = small_in 7 (drop 6 identifier) (omega (arith, length-drop 6 identifier)) (All-drop IsAsciiDigit 6 identifier digits) in
    let below_year = small_in 2 (take 2 text) (length-take-le 2 text (omega (arith, is.size))) is.form.year in
    let parts = numbers_again 7 identifier (omega arith) digits ∙ ap₂ (λ h n. fixed_decimal 6 h ++ fixed_decimal 7 n) owned.holder serial_same in (
      year,
      omega (arith, below_year),
      (omega (arith, owned.positive, owned.holder), omega (arith, below, owned.holder)),
      omega (arith, below_serial, serial_same),
      made_again 18 text (omega arith) is ∙ ap₂ (reference_text year) owned.country parts,
    )
