-- The check digit of ISO 6346, over digits and capital letters.
-- References: the MRN of a movement and the GRN of a guarantee (NCTS).
use Rattle.std.specs.Prelude.{ℕ, ◌+◌, ◌-◌, ◌*◌, ◌%◌, ◌^◌, ◌≤◌, ◌==◌, nat_lt, if◌then◌else◌, List, [], ◌∷◌, length, slice_index, All, ◌≡◌, ◌≢◌, ◌&&◌, not, Bool, false, nat_eq, ◌++◌, take, drop, slice_range, slice_get, Option, Some, None, Result, Ok, Err, ◌↔◌, ◌⊎◌}
use Rattle.ascii_text.specs.Digits.{IsMark, is_mark, digits_value, fixed_decimal}
use Rattle.std.specs.Char.{IsAsciiDigit, IsAsciiUppercase, is_ascii_digit, is_ascii_uppercase}
use Rattle.std.specs.List.{list_all}
use Rattle.std.specs.Option.{option_eq}
use Rattle.std.specs.Str.{bytes_eq, all_ascii_digits}
use Rattle.td_base.specs.Codes.{IsCountry, IsHolderNumber}
use Rattle.td_base.specs.declared.references.RefFault.{RefFault}
use Rattle.td_base.specs.declared.references.RefFault.TheVariants.{Length, Form, CheckDigit}

-- The values of the letters from A to Z (ISO 6346): from 10 on, and 11, 22 and 33 are left out,
-- since a multiple of 11 would add nothing to a sum modulo 11.
abbrev pub letter_values : List ℕ
letter_values =
    10 ∷ 12 ∷ 13 ∷ 14 ∷ 15 ∷ 16 ∷ 17 ∷ 18 ∷ 19 ∷ 20 ∷ 21 ∷ 23 ∷ 24 ∷ 25 ∷ 26 ∷ 27 ∷ 28 ∷ 29 ∷ 30 ∷ 31 ∷ 32 ∷ 34
    ∷ 35 ∷ 36 ∷ 37 ∷ 38 ∷ []

-- the value of a character: a digit's own, or its letter's
abbrev pub value_of : ℕ → ℕ
value_of c = if nat_lt c 65 then c - 48 else slice_index letter_values (c - 65)

-- the sum of each value times 2 to its place, counted from the left
abbrev pub weighted_sum : ℕ → List ℕ → ℕ
weighted_sum place [] = 0
weighted_sum place (c ∷ text) = value_of c * 2 ^ place + weighted_sum (place + 1) text

-- that sum modulo 11, where 10 is written 0
abbrev pub check_of : List ℕ → ℕ
check_of text = let rest = weighted_sum 0 text % 11 in if rest == 10 then 0 else rest

-- A text that has a check digit: digits and capital letters. The limit of 40 is the desk's own,
-- and keeps the sum within 64 bits.
pub record IsCheckable (text : List ℕ) : Type 0 where
  pub size : length text ≤ 40
  pub marks : All IsMark text

-- all but the check digit
abbrev pub front_of : List ℕ → List ℕ
front_of text = take (length text - 1) text

-- the country, behind the two digits of the year
abbrev pub country_of : List ℕ → List ℕ
country_of text = slice_range text 2 4

-- the identifier, between the country and the check digit
abbrev pub identifier_of : List ℕ → List ℕ
identifier_of text = slice_range text 4 (length text - 1)

-- each place has a character of its class, and the last is a digit
pub record HasForm (text : List ℕ) : Type 0 where
  pub year : All IsAsciiDigit (take 2 text)
  pub country : All IsAsciiUppercase (country_of text)
  pub identifier : All IsMark (identifier_of text)
  pub last : All IsAsciiDigit (drop (length text - 1) text)

-- whether a text has this form
abbrev pub has_form : List ℕ → Bool
has_form text =
    list_all is_ascii_digit (take 2 text) && list_all is_ascii_uppercase (country_of text)
    && list_all is_mark (identifier_of text) && list_all is_ascii_digit (drop (length text - 1) text)

-- the last is the check digit of all before it
abbrev pub HasCheckDigit : List ℕ → Type 0
HasCheckDigit text = slice_get text (length text - 1) ≡ Some (48 + check_of (front_of text))

-- whether it is
abbrev pub has_check_digit : List ℕ → Bool
has_check_digit text =
    option_eq nat_eq (slice_get text (length text - 1)) (Some (48 + check_of (front_of text)))

-- a reference of so many characters
pub record IsReferenceText (places : ℕ) (text : List ℕ) : Type 0 where
  pub size : length text ≡ places
  pub form : HasForm text
  pub check : HasCheckDigit text

-- whether a text is one
abbrev pub is_reference_text : ℕ → List ℕ → Bool
is_reference_text places text = nat_eq (length text) places && has_form text && has_check_digit text

-- a GRN
abbrev pub IsGrn : List ℕ → Type 0
IsGrn = IsReferenceText 17

-- an MRN
abbrev pub IsMrn : List ℕ → Type 0
IsMrn = IsReferenceText 18

-- the first of these that a text isn't
abbrev pub IsFirstFault : ℕ → List ℕ → RefFault → Type 0
IsFirstFault places text Length = length text ≢ places
IsFirstFault places text Form = (length text ≡ places) × ¬ (HasForm text)
IsFirstFault places text CheckDigit = (length text ≡ places) × HasForm text × ¬ (HasCheckDigit text)

-- of a text that is no such reference, the first of these that it isn't
abbrev pub first_fault : ℕ → List ℕ → RefFault
first_fault places text =
    if not (nat_eq (length text) places) then Length
    else if not (has_form text) then Form
    else CheckDigit

-- the reference that a text is, or the first fault
abbrev pub reference_read : ℕ → List ℕ → Result (List ℕ) RefFault
reference_read places text =
    if is_reference_text places text then Ok text else Err (first_fault places text)

-- whether a text is a GRN
abbrev pub is_grn : List ℕ → Bool
is_grn = is_reference_text 17

-- whether a text is an MRN
abbrev pub is_mrn : List ℕ → Bool
is_mrn = is_reference_text 18

-- the GRN that a text is, or the first fault
abbrev pub grn_read : List ℕ → Result (List ℕ) RefFault
grn_read = reference_read 17

-- the MRN that a text is, or the first fault
abbrev pub mrn_read : List ℕ → Result (List ℕ) RefFault
mrn_read = reference_read 18

-- the letter of the procedure, behind the numbers in the identifier of a new MRN: `J`
abbrev pub procedure_letter : ℕ
procedure_letter = 74

-- whether it stands at an identifier's thirteenth place; a GRN's identifier has no such place
abbrev pub has_letter : List ℕ → Bool
has_letter identifier = option_eq nat_eq (slice_get identifier 12) (Some procedure_letter)

-- the numbers of an identifier: the twelve characters before the letter, or all of it where there is none
abbrev pub numbers_of : List ℕ → List ℕ
numbers_of identifier = if has_letter identifier then take 12 identifier else identifier

-- the holder in the first six digits of an identifier's numbers
abbrev pub holder_part : List ℕ → ℕ
holder_part text = digits_value (take 6 (identifier_of text))

-- the serial in the others
abbrev pub serial_part : List ℕ → ℕ
serial_part text = digits_value (drop 6 (numbers_of (identifier_of text)))

-- whether a reference is a holder's of this country, by its text alone
abbrev pub is_owned : List ℕ → List ℕ → Bool
is_owned country text =
    bytes_eq (country_of text) country && all_ascii_digits (numbers_of (identifier_of text))
    && nat_lt 0 (holder_part text)

-- the holder who owns a reference
abbrev pub owner_of : List ℕ → List ℕ → Option ℕ
owner_of country text = if is_owned country text then Some (holder_part text) else None

-- the holder's serial in it
abbrev pub serial_of : List ℕ → List ℕ → Option ℕ
serial_of country text = if is_owned country text then Some (serial_part text) else None

-- the text of a year in two digits, a country and an identifier, with its check digit
abbrev pub reference_text : ℕ → List ℕ → List ℕ → List ℕ
reference_text year country identifier =
    let front = fixed_decimal 2 year ++ country ++ identifier in
    front ++ (48 + check_of front) ∷ []

-- the GRN that is made for a holder: the holder in six digits, the serial in six
abbrev pub grn_text : ℕ → List ℕ → ℕ → ℕ → List ℕ
grn_text year country holder serial =
    reference_text year country (fixed_decimal 6 holder ++ fixed_decimal 6 serial)

-- the MRN that is made for a holder: the holder in six digits, the serial in six, and the letter
abbrev pub mrn_text : ℕ → List ℕ → ℕ → ℕ → List ℕ
mrn_text year country holder serial =
    reference_text year country (fixed_decimal 6 holder ++ fixed_decimal 6 serial ++ procedure_letter ∷ [])

-- the MRN that was made for a holder until the letter came: the holder in six digits, the serial in seven
abbrev pub older_mrn_text : ℕ → List ℕ → ℕ → ℕ → List ℕ
older_mrn_text year country holder serial =
    reference_text year country (fixed_decimal 6 holder ++ fixed_decimal 7 serial)

-- the greatest serial of a guarantee: a GRN has six digits for it
abbrev pub greatest_grn_serial : ℕ
greatest_grn_serial = 999999

-- the greatest serial of a movement that is given: an MRN has six digits for it
abbrev pub greatest_mrn_serial : ℕ
greatest_mrn_serial = 999999

-- the greatest serial of a movement that may stand: an MRN in the older form has seven digits for it
abbrev pub greatest_older_mrn_serial : ℕ
greatest_older_mrn_serial = 9999999

-- the serials of guarantees
abbrev pub IsGrnSerial : ℕ → Type 0
IsGrnSerial serial = (1 ≤ serial) × (serial ≤ greatest_grn_serial)

-- the serials of movements whose MRN has the letter
abbrev pub IsMrnSerial : ℕ → Type 0
IsMrnSerial serial = (1 ≤ serial) × (serial ≤ greatest_mrn_serial)

-- the serials of movements whose MRN has the older form
abbrev pub IsOlderMrnSerial : ℕ → Type 0
IsOlderMrnSerial serial = (1 ≤ serial) × (serial ≤ greatest_older_mrn_serial)

-- a text is the MRN of this year, country, holder and serial, in either form: with the letter only where six digits hold
-- the serial
abbrev pub IsMrnTextOf : ℕ → List ℕ → ℕ → ℕ → List ℕ → Type 0
IsMrnTextOf year country holder serial text =
    (IsMrnSerial serial × (text ≡ mrn_text year country holder serial))
    ⊎ (IsOlderMrnSerial serial × (text ≡ older_mrn_text year country holder serial))

-- references that are made for different holders, or of different serials, differ
abbrev pub TellsApart : (ℕ → List ℕ → ℕ → ℕ → List ℕ) → (ℕ → Type 0) → Type 0
TellsApart made IsSerial =
    (year year' : ℕ) (country country' : List ℕ) (holder holder' serial serial' : ℕ)
    → IsCountry country → IsCountry country' → IsHolderNumber holder → IsHolderNumber holder' → IsSerial serial
    → IsSerial serial'
    → made year country holder serial ≡ made year' country' holder' serial'
    → (holder ≡ holder') × (serial ≡ serial')

-- no MRN has both forms, whatever it is made of
abbrev pub NoneHasBothForms : Type 0
NoneHasBothForms =
    (year year' : ℕ) (country country' : List ℕ) (holder holder' serial serial' : ℕ)
    → IsCountry country → IsCountry country'
    → mrn_text year country holder serial ≢ older_mrn_text year' country' holder' serial'

-- whether an MRN has the form with the letter
abbrev pub is_lettered : List ℕ → Bool
is_lettered text = has_letter (identifier_of text)

-- a GRN never has it
abbrev pub NoGrnIsLettered : Type 0
NoGrnIsLettered = (text : List ℕ) → IsGrn text → is_lettered text ≡ false

-- Of all texts, the MRNs that a holder owns by this serial, with the letter or without, are just those that are made of
-- a year of two digits, the country, the holder and the serial: of any serial that the form has digits for, 0 as well.
abbrev pub AreJustMade : Bool → ℕ → (ℕ → List ℕ → ℕ → ℕ → List ℕ) → Type 0
AreJustMade letter greatest made =
    (country text : List ℕ) (holder serial : ℕ) → IsCountry country
    → (IsMrn text × (is_lettered text ≡ letter) × (owner_of country text ≡ Some holder)
    × (serial_of country text ≡ Some serial))
    ↔ ((year : ℕ) × (year ≤ 99) × IsHolderNumber holder × (serial ≤ greatest)
    × (text ≡ made year country holder serial))
