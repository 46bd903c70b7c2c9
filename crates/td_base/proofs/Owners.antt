-- Who owns a reference, by its text.
use Rattle.std.proofs.Common.{◌≡◌, ℕ, ◌+◌, ◌-◌, ◌<◌, ◌≤◌, Bool, true, false, not, if◌then◌else◌, List, [], ◌∷◌, length, take, drop, All, Option, Some, None, arith, refl, ap, sym, subst, ◌∙◌, inl, inr}
use Rattle.std.specs.Char.{IsAsciiDigit, is_ascii_digit}
use Rattle.std.specs.Option.{SomeIff}
use Rattle.std.specs.Str.{bytes_eq, all_ascii_digits}
use Rattle.std.proofs.lemmas.Bool.{cases_Bool, lt-ltb, ltb-true, leb-true, le-leb, and_from, and_parts, false≢true, not-false}
use Rattle.std.proofs.lemmas.List.{length-take-le, length-drop, take-take, take_all}
use Rattle.std.proofs.lemmas.List.Elements.{All-nil, All-cons, All-head, All-tail, All-take}
use Rattle.std.proofs.lemmas.Slice.Eq.{bytes_eq-Decides}
use Rattle.td_base.specs.Codes.{IsHolderText}
use Rattle.td_base.specs.References.{country_of, identifier_of, has_letter, numbers_of, holder_part, serial_part, is_owned, owner_of, serial_of}

-- the test of digits, as a fact
digits_from_test : (text : List ℕ) → all_ascii_digits text ≡ true → All IsAsciiDigit text
digits_from_test [] e = All-nil IsAsciiDigit
digits_from_test (c ∷ text) e =
    let parts = and_parts (is_ascii_digit c) (all_ascii_digits text) e in
    let ends = and_parts _ _ parts.0 in
    All-cons IsAsciiDigit c text (leb-true _ _ ends.0, leb-true _ _ ends.1) (digits_from_test text parts.1)

-- and the fact, as a test
digits_pass : (text : List ℕ) → All IsAsciiDigit text → all_ascii_digits text ≡ true
digits_pass [] h = refl
digits_pass (c ∷ text) h =
    let first = All-head IsAsciiDigit c text h in
    and_from _ _ (and_from _ _ (le-leb 48 c first.0) (le-leb c 57 first.1)) (digits_pass text (All-tail IsAsciiDigit c text h))

-- where a reference is owned, and where it isn't
pub owned_from : (country text : List ℕ) → country_of text ≡ country → All IsAsciiDigit (numbers_of (identifier_of text)) → 0 < holder_part text → is_owned country text ≡ true
owned_from country text same digits positive =
    and_from _ _ (and_from _ _ ((bytes_eq-Decides (country_of text) country).1 same) (digits_pass (numbers_of (identifier_of text)) digits)) (lt-ltb 0 (holder_part text) positive)

-- what an owned reference shows
pub owned_gives : (country text : List ℕ) → is_owned country text ≡ true → (country_of text ≡ country) × All IsAsciiDigit (numbers_of (identifier_of text)) × (0 < holder_part text)
owned_gives country text e =
    let parts = and_parts _ _ e in
    let front = and_parts _ _ parts.0 in
    ((bytes_eq-Decides (country_of text) country).0 front.0, digits_from_test (numbers_of (identifier_of text)) front.1, ltb-true 0 (holder_part text) parts.1)

-- the owner of an owned reference
pub owner_is : (country text : List ℕ) → is_owned country text ≡ true → owner_of country text ≡ Some (holder_part text)
owner_is country text e = rw e refl

-- and its serial
pub serial_is : (country text : List ℕ) → is_owned country text ≡ true → serial_of country text ≡ Some (serial_part text)
serial_is country text e = rw e refl

-- a reference that isn't owned has no owner
pub no_owner : (country text : List ℕ) → (is_owned country text ≡ true → ⊥) → None ≡ owner_of country text
no_owner country text never =
    elim (cases_Bool (is_owned country text)) [ inl own ↦ absurd (never own) | inr foreign ↦ rw foreign refl ]

-- something isn't nothing
unlike : (x : ℕ) → Some x ≡ None → ⊥
unlike x e = cc

-- one that has an owner is owned
pub owned_since : (country text : List ℕ) (x : ℕ) → Some x ≡ owner_of country text → is_owned country text ≡ true
owned_since country text x e =
    elim (cases_Bool (is_owned country text)) [ inl own ↦ own | inr foreign ↦ absurd (unlike x (rw foreign at e)) ]

-- what stands in the first six places is the same where the letter is taken off
pub same_holder : (text : List ℕ) → take 6 (take 12 text) ≡ take 6 text
same_holder text = take-take 6 12 text (omega arith)

-- the first six places of an identifier whose numbers are digits
pub first_digits : (identifier : List ℕ) → All IsAsciiDigit (numbers_of identifier) → All IsAsciiDigit (take 6 identifier)
first_digits identifier digits = by_letter (has_letter identifier) (All-take IsAsciiDigit 6 (numbers_of identifier) digits)
  where
    by_letter : (b : Bool) → All IsAsciiDigit (take 6 (if b then take 12 identifier else identifier)) → All IsAsciiDigit (take 6 identifier)
    by_letter true first = subst (λ l. All IsAsciiDigit l) (same_holder identifier) first
    by_letter false first = first

-- one without an owner has no serial
pub no_serial : (country text : List ℕ) → None ≡ owner_of country text → None ≡ serial_of country text
no_serial country text none =
    elim (cases_Bool (is_owned country text)) [
      | inl own ↦ absurd (unlike (holder_part text) (sym (owner_is country text own) ∙ sym none))
      | inr foreign ↦ rw foreign refl
    ]

-- the holder that is read in the first six digits is the owner
pub owner_read : (country text : List ℕ) (r : Option ℕ) → 6 ≤ length (identifier_of text) → country_of text ≡ country → All IsAsciiDigit (numbers_of (identifier_of text)) → SomeIff r (IsHolderText (take 6 (identifier_of text))) (holder_part text) → r ≡ owner_of country text
owner_read country text None long same digits h =
    no_owner country text (λ e. h (record { size = length-take-le 6 (identifier_of text) long; digits = first_digits (identifier_of text) digits; positive = (owned_gives country text e).2 }))
owner_read country text (Some x) long same digits h =
    ap Some h.1 ∙ sym (owner_is country text (owned_from country text same digits h.0.positive))

-- what stands behind the first six of a text
pub behind_six : (text : List ℕ) → take (length text - 6) (drop 6 text) ≡ drop 6 text
behind_six text = take_all (length text - 6) (drop 6 text) (omega (arith, length-drop 6 text))

-- an identifier has twelve numbers, or thirteen
pub twelve_numbers : (identifier : List ℕ) → 12 ≤ length identifier → length identifier ≤ 13 → (12 ≤ length (numbers_of identifier)) × (length (numbers_of identifier) ≤ 13)
twelve_numbers identifier long short = by_letter (has_letter identifier)
  where
    by_letter : (b : Bool) → (12 ≤ length (if b then take 12 identifier else identifier)) × (length (if b then take 12 identifier else identifier) ≤ 13)
    by_letter true = let size = length-take-le 12 identifier long in (omega arith, omega arith)
    by_letter false = (long, short)

-- the identifier's length
pub length-identifier : (text : List ℕ) → 5 ≤ length text → length (identifier_of text) + 5 ≡ length text
length-identifier text some =
    let rest = length-drop 4 text in
    omega (arith, length-take-le (length text - 1 - 4) (drop 4 text) (omega arith))

-- what a comparison of the country says
pub other_country : (a b : List ℕ) → true ≡ not (bytes_eq a b) → a ≡ b → ⊥
other_country a b e same = false≢true (rw ((bytes_eq-Decides a b).1 same) at (sym e))

-- the country is this one
pub same_country : (a b : List ℕ) → false ≡ not (bytes_eq a b) → a ≡ b
same_country a b e = (bytes_eq-Decides a b).0 (not-false (bytes_eq a b) (sym e))
