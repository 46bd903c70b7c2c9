-- What a made reference is, and what it says.
use Rattle.std.proofs.Common.{◌≡◌, ℕ, ◌+◌, ◌^◌, ◌<◌, true, false, List, [], ◌∷◌, ◌++◌, length, Some, arith, refl, ap, sym, ◌∙◌, subst, inl, inr}
use Rattle.std.proofs.lemmas.Bool.{false≢true}
use Rattle.std.proofs.lemmas.Option.{slice_get_past}
use Rattle.ascii_text.specs.Digits.{fixed_decimal}
use Rattle.td_base.specs.Codes.{IsCountry, IsHolderNumber}
use Rattle.td_base.specs.References.{check_of, owner_of, serial_of, reference_text, procedure_letter, mrn_text, older_mrn_text, identifier_of, is_lettered, IsGrn, IsMrn, IsMrnTextOf, IsReferenceText}
use Rattle.td_base.proofs.Identifiers.{numbers, numbers_digits, length-numbers, length-with_behind, plain, lettered, no_letter, letter_seen}
use Rattle.td_base.proofs.Numbered.{numbered_parts, numbered_is_reference, numbered_owner, numbered_serial_is, numbered_apart}
use Rattle.td_base.proofs.Owners.{length-identifier}
use Rattle.td_base.proofs.ReferenceParts.{IsMadeOf}

-- a reference with so many digits of serial
abbrev pub made : ℕ → ℕ → List ℕ → ℕ → ℕ → List ℕ
made width year country holder serial = reference_text year country (numbers width holder serial)

-- the parts of a made reference
pub made_parts : (width year : ℕ) (country : List ℕ) (holder serial : ℕ) → IsCountry country → let front = fixed_decimal 2 year ++ country ++ numbers width holder serial in IsMadeOf (fixed_decimal 2 year) country (numbers width holder serial) (48 + check_of front) (made width year country holder serial)
made_parts width year country holder serial form = numbered_parts year country (numbers width holder serial) form

-- it is a reference
pub made_is_reference : (width year : ℕ) (country : List ℕ) (holder serial : ℕ) → IsCountry country → IsReferenceText (width + 11) (made width year country holder serial)
made_is_reference width year country holder serial form =
    let size : length (numbers width holder serial) + 5 ≡ width + 11 = omega (arith, length-numbers width holder serial) in
    subst (λ n. IsReferenceText n (made width year country holder serial)) size (numbered_is_reference year country (numbers width holder serial) form (plain width holder serial).marks)

-- its owner is the holder
pub made_owner : (width year : ℕ) (country : List ℕ) (holder serial : ℕ) → IsCountry country → IsHolderNumber holder → owner_of country (made width year country holder serial) ≡ Some holder
made_owner width year country holder serial form number =
    numbered_owner width year country holder serial (numbers width holder serial) form number (plain width holder serial)

-- and its serial that serial
pub made_serial_is : (width year : ℕ) (country : List ℕ) (holder serial : ℕ) → IsCountry country → IsHolderNumber holder → serial < 10 ^ width → serial_of country (made width year country holder serial) ≡ Some serial
made_serial_is width year country holder serial form number small =
    numbered_serial_is width year country holder serial (numbers width holder serial) form number small (plain width holder serial)

-- holder and serial are known from it
pub made_apart : (width year year' : ℕ) (country country' : List ℕ) (holder holder' serial serial' : ℕ) → IsCountry country → IsCountry country' → IsHolderNumber holder → IsHolderNumber holder' → serial < 10 ^ width → serial' < 10 ^ width → made width year country holder serial ≡ made width year' country' holder' serial' → (holder ≡ holder') × (serial ≡ serial')
made_apart width year year' country country' holder holder' serial serial' form form' number number' small small' e =
    numbered_apart width year year' country country' holder holder' serial serial' (numbers width holder serial) (numbers width holder' serial') form form' number number' small small'
    (plain width holder serial) (plain width holder' serial') e

-- the identifier of a new MRN
abbrev with_letter : ℕ → ℕ → List ℕ
with_letter holder serial = numbers 6 holder serial ++ procedure_letter ∷ []

-- a new MRN has the letter
pub made_lettered : (year : ℕ) (country : List ℕ) (holder serial : ℕ) → IsCountry country → is_lettered (mrn_text year country holder serial) ≡ true
made_lettered year country holder serial form =
    let parts = numbered_parts year country (with_letter holder serial) form in
    rw parts.identifier (letter_seen (numbers 6 holder serial) (length-numbers 6 holder serial))

-- an older one hasn't
pub made_unlettered : (year : ℕ) (country : List ℕ) (holder serial : ℕ) → IsCountry country → is_lettered (older_mrn_text year country holder serial) ≡ false
made_unlettered year country holder serial form =
    let parts = made_parts 7 year country holder serial form in
    rw parts.identifier (no_letter (numbers 7 holder serial) (numbers_digits 7 holder serial))

-- holder and serial are known from a new one
pub lettered_apart : (year year' : ℕ) (country country' : List ℕ) (holder holder' serial serial' : ℕ) → IsCountry country → IsCountry country' → IsHolderNumber holder → IsHolderNumber holder' → serial < 10 ^ 6 → serial' < 10 ^ 6 → mrn_text year country holder serial ≡ mrn_text year' country' holder' serial' → (holder ≡ holder') × (serial ≡ serial')
lettered_apart year year' country country' holder holder' serial serial' form form' number number' small small' e =
    numbered_apart 6 year year' country country' holder holder' serial serial' (with_letter holder serial) (with_letter holder' serial') form form' number number' small small'
    (lettered holder serial) (lettered holder' serial') e

-- a GRN has no place for the letter
pub no_grn_lettered : (text : List ℕ) → IsGrn text → is_lettered text ≡ false
no_grn_lettered text is =
    let none = slice_get_past (identifier_of text) 12 (omega (arith, length-identifier text (omega (arith, is.size)), is.size)) in
    rw none refl

-- no MRN has both forms
pub made_either : (year year' : ℕ) (country country' : List ℕ) (holder holder' serial serial' : ℕ) → IsCountry country → IsCountry country' → mrn_text year country holder serial ≡ older_mrn_text year' country' holder' serial' → ⊥
made_either year year' country country' holder holder' serial serial' form form' e =
    false≢true (sym (made_unlettered year' country' holder' serial' form') ∙ sym (ap is_lettered e) ∙ made_lettered year country holder serial form)

-- what an MRN in either form is, and what it says
pub record IsReadBack (country : List ℕ) (holder serial : ℕ) (text : List ℕ) : Type 0 where
  pub form : IsMrn text
  pub owner : owner_of country text ≡ Some holder
  pub number : serial_of country text ≡ Some serial

-- a new one is an MRN
pub lettered_form : (year : ℕ) (country : List ℕ) (holder serial : ℕ) → IsCountry country → IsMrn (mrn_text year country holder serial)
lettered_form year country holder serial form =
    let identifier = with_letter holder serial in
    let size : length identifier + 5 ≡ 18 = omega (arith, length-with_behind 6 holder serial (procedure_letter ∷ [])) in
    subst (λ n. IsReferenceText n (reference_text year country identifier)) size (numbered_is_reference year country identifier form (lettered holder serial).marks)

-- its owner is the holder
pub lettered_owner : (year : ℕ) (country : List ℕ) (holder serial : ℕ) → IsCountry country → IsHolderNumber holder → owner_of country (mrn_text year country holder serial) ≡ Some holder
lettered_owner year country holder serial form number =
    numbered_owner 6 year country holder serial (with_letter holder serial) form number (lettered holder serial)

-- and its serial that serial
pub lettered_serial_is : (year : ℕ) (country : List ℕ) (holder serial : ℕ) → IsCountry country → IsHolderNumber holder → serial < 10 ^ 6 → serial_of country (mrn_text year country holder serial) ≡ Some serial
lettered_serial_is year country holder serial form number small =
    numbered_serial_is 6 year country holder serial (with_letter holder serial) form number small (lettered holder serial)

-- with the letter
new_read_back : (year : ℕ) (country : List ℕ) (holder serial : ℕ) → IsCountry country → IsHolderNumber holder → serial < 10 ^ 6 → IsReadBack country holder serial (mrn_text year country holder serial)
new_read_back year country holder serial form number small = record {
  form = lettered_form year country holder serial form;
  owner = lettered_owner year country holder serial form number;
  number = lettered_serial_is year country holder serial form number small;
}

-- and without
older_read_back : (year : ℕ) (country : List ℕ) (holder serial : ℕ) → IsCountry country → IsHolderNumber holder → serial < 10 ^ 7 → IsReadBack country holder serial (older_mrn_text year country holder serial)
older_read_back year country holder serial form number small = record {
  form = made_is_reference 7 year country holder serial form;
  owner = made_owner 7 year country holder serial form number;
  number = made_serial_is 7 year country holder serial form number small;
}

-- in either
pub either_read_back : (year : ℕ) (country : List ℕ) (holder serial : ℕ) (text : List ℕ) → IsCountry country → IsHolderNumber holder → IsMrnTextOf year country holder serial text → IsReadBack country holder serial text
either_read_back year country holder serial text form number either = elim either [
  | inl new ↦ subst (IsReadBack country holder serial) (sym new.1) (new_read_back year country holder serial form number (omega (arith, new.0)))
  | inr older ↦ subst (IsReadBack country holder serial) (sym older.1) (older_read_back year country holder serial form number (omega (arith, older.0)))
]
