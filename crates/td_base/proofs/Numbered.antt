-- What a reference is in whose identifier a holder and a serial stand, and what it says.
use Rattle.std.proofs.Common.{◌≡◌, ℕ, ◌+◌, ◌^◌, ◌<◌, ◌≤◌, true, List, [], ◌++◌, length, drop, All, Some, arith, ap, sym, ◌∙◌, mod-eq_of_lt}
use Rattle.std.specs.Char.{IsAsciiDigit}
use Rattle.std.proofs.lemmas.List.{drop_at}
use Rattle.std.proofs.lemmas.List.Elements.{All-nil, All-cons}
use Rattle.ascii_text.specs.Digits.{fixed_decimal, IsMark}
use Rattle.ascii_text.proofs.Decimals.{length-fixed_decimal, fixed_decimal_digits, digits_value-fixed_decimal}
use Rattle.td_base.specs.Codes.{IsCountry, IsHolderNumber}
use Rattle.td_base.specs.References.{check_of, IsCheckable, holder_part, serial_part, is_owned, owner_of, serial_of, reference_text, IsReferenceText}
use Rattle.td_base.proofs.Checked.{check_small, front_checkable}
use Rattle.td_base.proofs.Identifiers.{numbers, numbers_digits, IsIdentifierOf}
use Rattle.td_base.proofs.Owners.{owned_from, owner_is, serial_is}
use Rattle.td_base.proofs.ReferenceParts.{IsMadeOf, made_of}

-- the parts of a made reference
pub numbered_parts : (year : ℕ) (country identifier : List ℕ) → IsCountry country → let front = fixed_decimal 2 year ++ country ++ identifier in IsMadeOf (fixed_decimal 2 year) country identifier (48 + check_of front) (reference_text year country identifier)
numbered_parts year country identifier form =
    made_of (fixed_decimal 2 year) country identifier _ (length-fixed_decimal 2 year) form.size

-- it is a reference
pub numbered_is_reference : (year : ℕ) (country identifier : List ℕ) → IsCountry country → All IsMark identifier → IsReferenceText (length identifier + 5) (reference_text year country identifier)
numbered_is_reference year country identifier form marks =
    let parts = numbered_parts year country identifier form in
    let digit = check_small (fixed_decimal 2 year ++ country ++ identifier) in
    record {
      size = parts.size;
      form = record {
        year = rw parts.year (fixed_decimal_digits 2 year);
        country = rw parts.country form.letters;
        identifier = rw parts.identifier marks;
        last = rw parts.last (All-cons IsAsciiDigit _ [] (omega arith, omega arith) (All-nil IsAsciiDigit));
      };
      check = rw parts.front parts.check;
    }

-- all before its check digit has one
pub numbered_checkable : (year : ℕ) (country identifier : List ℕ) → IsCountry country → All IsMark identifier → length identifier ≤ 36 → IsCheckable (fixed_decimal 2 year ++ country ++ identifier)
numbered_checkable year country identifier form marks small =
    let text = numbered_is_reference year country identifier form marks in
    let parts = numbered_parts year country identifier form in
    rw (← parts.front) (front_checkable (reference_text year country identifier) (omega (arith, text.size)) (omega (arith, text.size)) text.form)

-- the holder in it
pub numbered_holder : (width year : ℕ) (country : List ℕ) (holder serial : ℕ) (identifier : List ℕ) → IsCountry country → IsHolderNumber holder → IsIdentifierOf width holder serial identifier → holder_part (reference_text year country identifier) ≡ holder
numbered_holder width year country holder serial identifier form number is =
    let parts = numbered_parts year country identifier form in
    rw (parts.identifier, is.first, digits_value-fixed_decimal) (omega arith)

-- the serial, where its digits are enough
pub numbered_serial : (width year : ℕ) (country : List ℕ) (holder serial : ℕ) (identifier : List ℕ) → IsCountry country → serial < 10 ^ width → IsIdentifierOf width holder serial identifier → serial_part (reference_text year country identifier) ≡ serial
numbered_serial width year country holder serial identifier form small is =
    let parts = numbered_parts year country identifier form in
    let rest : drop 6 (numbers width holder serial) ≡ fixed_decimal width serial = drop_at (fixed_decimal 6 holder) (fixed_decimal width serial) 6 (length-fixed_decimal 6 holder) in
    rw (parts.identifier, is.all, rest, digits_value-fixed_decimal) (mod-eq_of_lt small)

-- it is the holder's
pub numbered_owned : (width year : ℕ) (country : List ℕ) (holder serial : ℕ) (identifier : List ℕ) → IsCountry country → IsHolderNumber holder → IsIdentifierOf width holder serial identifier → is_owned country (reference_text year country identifier) ≡ true
numbered_owned width year country holder serial identifier form number is =
    let parts = numbered_parts year country identifier form in
    owned_from country (reference_text year country identifier) parts.country (rw (parts.identifier, is.all) (numbers_digits width holder serial))
    (omega (arith, numbered_holder width year country holder serial identifier form number is))

-- its owner is the holder
pub numbered_owner : (width year : ℕ) (country : List ℕ) (holder serial : ℕ) (identifier : List ℕ) → IsCountry country → IsHolderNumber holder → IsIdentifierOf width holder serial identifier → owner_of country (reference_text year country identifier) ≡ Some holder
numbered_owner width year country holder serial identifier form number is =
    owner_is country (reference_text year country identifier) (numbered_owned width year country holder serial identifier form number is)
    ∙ ap Some (numbered_holder width year country holder serial identifier form number is)

-- and its serial that serial
pub numbered_serial_is : (width year : ℕ) (country : List ℕ) (holder serial : ℕ) (identifier : List ℕ) → IsCountry country → IsHolderNumber holder → serial < 10 ^ width → IsIdentifierOf width holder serial identifier → serial_of country (reference_text year country identifier) ≡ Some serial
numbered_serial_is width year country holder serial identifier form number small is =
    serial_is country (reference_text year country identifier) (numbered_owned width year country holder serial identifier form number is)
    ∙ ap Some (numbered_serial width year country holder serial identifier form small is)

-- holder and serial are known from it
pub numbered_apart : (width year year' : ℕ) (country country' : List ℕ) (holder holder' serial serial' : ℕ) (identifier identifier' : List ℕ) → IsCountry country → IsCountry country' → IsHolderNumber holder → IsHolderNumber holder' → serial < 10 ^ width → serial' < 10 ^ width
    → IsIdentifierOf width holder serial identifier → IsIdentifierOf width holder' serial' identifier' → reference_text year country identifier ≡ reference_text year' country' identifier' → (holder ≡ holder') × (serial ≡ serial')
numbered_apart width year year' country country' holder holder' serial serial' identifier identifier' form form' number number' small small' is is' e = (
  sym (numbered_holder width year country holder serial identifier form number is) ∙ ap holder_part e ∙ numbered_holder width year' country' holder' serial' identifier' form' number' is',
  sym (numbered_serial width year country holder serial identifier form small is) ∙ ap serial_part e ∙ numbered_serial width year' country' holder' serial' identifier' form' small' is',
)
