-- Each test of specs/ tells its fact, and so what is read of a text.
use Rattle.std.proofs.Common.{◌≡◌, ℕ, ◌+◌, ◌-◌, List, length, take, drop, Option, false, refl, ap}
use Rattle.std.proofs.lemmas.Bool.Decides.{Decides-and, Decides-or, Decides-eqb, Decides-like, Decides-not}
use Rattle.std.specs.Prelude.{SomeIff, OkIff, IfErr, Result, Ok, Err}
use Rattle.std.proofs.lemmas.Bool.{not-true}
use Rattle.std.specs.Bool.{Decides}
use Rattle.std.specs.List.{slice_get}
use Rattle.ascii_text.specs.Digits.{digits_value}
use Rattle.ascii_text.proofs.Decided.{some_where, le_decided, range_decided, all_decided, some_decided, one_of_four, digits_decided, capitals_decided, marks_decided}
use Rattle.td_base.specs.References.{check_of, front_of, country_of, identifier_of, HasForm, HasCheckDigit, IsReferenceText, IsFirstFault, has_form, has_check_digit, is_reference_text, first_fault, reference_read}
use Rattle.td_base.specs.Codes.{IsAccessCode, IsOfficeNo, IsLrn, IsLrnCharacter, is_access_code, is_office_no, is_lrn, is_lrn_character, IsCountry, is_country, IsEori, is_eori, IsHolderNumber, IsHolderText, is_holder_number, is_holder_text, holder_read}
use Rattle.td_base.specs.declared.references.RefFault.{RefFault}
use Rattle.td_base.specs.declared.references.RefFault.TheVariants.{Length, Form, CheckDigit}

pub eori_decided : (text : List ℕ) → Decides (is_eori text) (IsEori text)
eori_decided text =
    Decides-like (is_eori text)
    (λ h. record { low = h.0.0.0; high = h.0.0.1; country = h.0.1; marks = h.1 })
    (λ h. (((h.low, h.high), h.country), h.marks))
    (Decides-and _ _ (Decides-and _ _ (Decides-and _ _ (le_decided 3 (length text)) (le_decided (length text) 17))
    (capitals_decided (take 2 text))) (marks_decided (drop 2 text)))

pub country_decided : (text : List ℕ) → Decides (is_country text) (IsCountry text)
country_decided text =
    Decides-like (is_country text)
    (λ h. record { size = h.0; letters = h.1 })
    (λ h. (h.size, h.letters))
    (Decides-and _ _ (Decides-eqb (length text) 2) (capitals_decided text))

pub access_code_decided : (text : List ℕ) → Decides (is_access_code text) (IsAccessCode text)
access_code_decided text =
    Decides-like (is_access_code text)
    (λ h. record { size = h.0; marks = h.1 })
    (λ h. (h.size, h.marks))
    (Decides-and _ _ (Decides-eqb (length text) 4) (marks_decided text))

pub office_decided : (text : List ℕ) → Decides (is_office_no text) (IsOfficeNo text)
office_decided text =
    Decides-like (is_office_no text)
    (λ h. record { size = h.0.0; country = h.0.1; marks = h.1 })
    (λ h. ((h.size, h.country), h.marks))
    (Decides-and _ _ (Decides-and _ _ (Decides-eqb (length text) 8) (capitals_decided (take 2 text))) (marks_decided (drop 2 text)))

pub lrn_character_decided : (c : ℕ) → Decides (is_lrn_character c) (IsLrnCharacter c)
lrn_character_decided c =
    one_of_four _ _ _ _ (Decides-or _ _ (Decides-or _ _ (range_decided 48 57 c) (range_decided 65 90 c)) (range_decided 97 122 c))
    (Decides-eqb c 45) (Decides-eqb c 47) (Decides-eqb c 46)

pub lrn_decided : (text : List ℕ) → Decides (is_lrn text) (IsLrn text)
lrn_decided text =
    Decides-like (is_lrn text)
    (λ h. record { low = h.0.0; high = h.0.1; characters = h.1 })
    (λ h. ((h.low, h.high), h.characters))
    (Decides-and _ _ (Decides-and _ _ (le_decided 1 (length text)) (le_decided (length text) 22)) (all_decided is_lrn_character IsLrnCharacter lrn_character_decided text))

pub holder_number_decided : (n : ℕ) → Decides (is_holder_number n) (IsHolderNumber n)
holder_number_decided n = range_decided 1 999999 n

pub holder_text_decided : (text : List ℕ) → Decides (is_holder_text text) (IsHolderText text)
holder_text_decided text =
    Decides-like (is_holder_text text)
    (λ h. record { size = h.0.0; digits = h.0.1; positive = h.1 })
    (λ h. ((h.size, h.digits), h.positive))
    (Decides-and _ _ (Decides-and _ _ (Decides-eqb (length text) 6) (digits_decided text)) (le_decided 1 (digits_value text)))

pub form_decided : (text : List ℕ) → Decides (has_form text) (HasForm text)
form_decided text =
    Decides-like (has_form text)
    (λ h. record { year = h.0.0.0; country = h.0.0.1; identifier = h.0.1; last = h.1 })
    (λ h. (((h.year, h.country), h.identifier), h.last))
    (Decides-and _ _ (Decides-and _ _ (Decides-and _ _ (digits_decided (take 2 text)) (capitals_decided (country_of text)))
    (marks_decided (identifier_of text))) (digits_decided (drop (length text - 1) text)))

pub check_decided : (text : List ℕ) → Decides (has_check_digit text) (HasCheckDigit text)
check_decided text = some_decided (slice_get text (length text - 1)) (48 + check_of (front_of text))

pub reference_text_decided : (places : ℕ) (text : List ℕ) → Decides (is_reference_text places text) (IsReferenceText places text)
reference_text_decided places text =
    Decides-like (is_reference_text places text)
    (λ h. record { size = h.0.0; form = h.0.1; check = h.1 })
    (λ h. ((h.size, h.form), h.check))
    (Decides-and _ _ (Decides-and _ _ (Decides-eqb (length text) places) (form_decided text)) (check_decided text))

-- the first fault is told
pub first_fault_is : (places : ℕ) (text : List ℕ) (e : RefFault) → IsFirstFault places text e → e ≡ first_fault places text
first_fault_is places text Length h = rw ((Decides-not _ (Decides-eqb (length text) places)).1 h) refl
first_fault_is places text Form h = rw ((Decides-eqb (length text) places).1 h.0, (Decides-not _ (form_decided text)).1 h.1) refl
first_fault_is places text CheckDigit h = rw ((Decides-eqb (length text) places).1 h.0, (form_decided text).1 h.1) refl

-- what a text is read as, where it is a reference or has this first fault
pub reference_read_is : (places : ℕ) (text : List ℕ) (r : Result (List ℕ) RefFault) → OkIff r (IsReferenceText places text) text → IfErr r (IsFirstFault places text) → r ≡ reference_read places text
reference_read_is places text (Ok x) h first = rw ((reference_text_decided places text).1 h.0) (ap Ok h.1)
reference_read_is places text (Err e) h first =
    let none : is_reference_text places text ≡ false = not-true _ ((Decides-not _ (reference_text_decided places text)).1 h) in
    rw none (ap Err (first_fault_is places text e first))

-- what a text is read as, where it is a holder's number or isn't
pub holder_read_is : (text : List ℕ) (r : Option ℕ) → SomeIff r (IsHolderText text) (digits_value text) → r ≡ holder_read text
holder_read_is text r h = some_where (is_holder_text text) r (digits_value text) (holder_text_decided text) h
