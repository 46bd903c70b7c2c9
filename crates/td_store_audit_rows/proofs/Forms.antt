-- The tests of fields tell their facts.
use Rattle.std.proofs.Common.{ℕ, ◌+◌, ◌-◌, ◌^◌, ◌<◌, List, length, take, drop, arith}
use Rattle.std.proofs.lemmas.Bool.Decides.{nat_tests, Decides-and, Decides-or, Decides-eqb, Decides-like}
use Rattle.std.specs.Prelude.{nat_lt}
use Rattle.std.specs.Bool.{Decides}
use Rattle.std.specs.List.{slice_get}
use Rattle.ascii_text.proofs.Decided.{le_decided, range_decided, all_decided, some_decided, one_of_four, digits_decided, capitals_decided, marks_decided}
use Rattle.td_base.specs.References.{check_of, front_of, country_of, identifier_of, HasForm, IsReferenceText, has_form, is_reference_text}
use Rattle.td_base.specs.Codes.{IsAccessCode, IsOfficeNo, IsLrn, IsLrnCharacter, is_access_code, is_office_no, is_lrn, is_lrn_character, IsEori, is_eori, IsHolderNumber, is_holder_number}
use Rattle.td_money.specs.Money.{IsCover, is_cover}

pub eori_decided : (text : List ℕ) → Decides (is_eori text) (IsEori text)
eori_decided text =
    Decides-like (is_eori text)
    (λ h. record { low = h.0.0.0; high = h.0.0.1; country = h.0.1; marks = h.1 })
    (λ h. (((h.low, h.high), h.country), h.marks))
    (Decides-and _ _ (Decides-and _ _ (Decides-and _ _ (le_decided 3 (length text)) (le_decided (length text) 17))
    (capitals_decided (take 2 text))) (marks_decided (drop 2 text)))

pub code_decided : (text : List ℕ) → Decides (is_access_code text) (IsAccessCode text)
code_decided text =
    Decides-like (is_access_code text) (λ h. record { size = h.0; marks = h.1 }) (λ h. (h.size, h.marks))
    (Decides-and _ _ (Decides-eqb (length text) 4) (marks_decided text))

pub office_decided : (text : List ℕ) → Decides (is_office_no text) (IsOfficeNo text)
office_decided text =
    Decides-like (is_office_no text) (λ h. record { size = h.0.0; country = h.0.1; marks = h.1 }) (λ h. ((h.size, h.country), h.marks))
    (Decides-and _ _ (Decides-and _ _ (Decides-eqb (length text) 8) (capitals_decided (take 2 text))) (marks_decided (drop 2 text)))

character_decided : (c : ℕ) → Decides (is_lrn_character c) (IsLrnCharacter c)
character_decided c =
    one_of_four _ _ _ _ (Decides-or _ _ (Decides-or _ _ (range_decided 48 57 c) (range_decided 65 90 c)) (range_decided 97 122 c))
    (Decides-eqb c 45) (Decides-eqb c 47) (Decides-eqb c 46)

pub lrn_decided : (text : List ℕ) → Decides (is_lrn text) (IsLrn text)
lrn_decided text =
    Decides-like (is_lrn text) (λ h. record { low = h.0.0; high = h.0.1; characters = h.1 }) (λ h. ((h.low, h.high), h.characters))
    (Decides-and _ _ (Decides-and _ _ (le_decided 1 (length text)) (le_decided (length text) 22)) (all_decided is_lrn_character IsLrnCharacter character_decided text))

form_decided : (text : List ℕ) → Decides (has_form text) (HasForm text)
form_decided text =
    Decides-like (has_form text) (λ h. record { year = h.0.0.0; country = h.0.0.1; identifier = h.0.1; last = h.1 })
    (λ h. (((h.year, h.country), h.identifier), h.last))
    (Decides-and _ _ (Decides-and _ _ (Decides-and _ _ (digits_decided (take 2 text)) (capitals_decided (country_of text)))
    (marks_decided (identifier_of text))) (digits_decided (drop (length text - 1) text)))

pub reference_decided : (places : ℕ) (text : List ℕ) → Decides (is_reference_text places text) (IsReferenceText places text)
reference_decided places text =
    Decides-like (is_reference_text places text) (λ h. record { size = h.0.0; form = h.0.1; check = h.1 }) (λ h. ((h.size, h.form), h.check))
    (Decides-and _ _ (Decides-and _ _ (Decides-eqb (length text) places) (form_decided text)) (some_decided (slice_get text (length text - 1)) (48 + check_of (front_of text))))

pub holder_decided : (n : ℕ) → Decides (is_holder_number n) (IsHolderNumber n)
holder_decided n = range_decided 1 999999 n

pub serial_decided : (n : ℕ) → Decides (nat_lt n (2 ^ 32)) (n < 2 ^ 32)
serial_decided n = (λ h. grind (arith, nat_tests), λ h. grind (arith, nat_tests))

pub cover_decided : (n : ℕ) → Decides (is_cover n) (IsCover n)
cover_decided n = one_of_four _ _ _ _ (Decides-eqb n 100) (Decides-eqb n 50) (Decides-eqb n 30) (Decides-eqb n 0)
