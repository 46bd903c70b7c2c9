-- What stands between the country of a made reference and its check digit.
use Rattle.std.proofs.Common.{◌≡◌, ℕ, ◌+◌, true, false, List, [], ◌∷◌, ◌++◌, length, take, All, Some, arith, refl, ap, ◌∙◌, inl, inr, append_assoc, slice_get}
use Rattle.std.specs.Char.{IsAsciiDigit}
use Rattle.std.proofs.lemmas.Bool.{cases_Bool}
use Rattle.std.proofs.lemmas.List.{take_at, length-append}
use Rattle.std.proofs.lemmas.List.Elements.{All-nil, All-cons, All-append, All-weaker}
use Rattle.std.proofs.lemmas.Option.{slice_get-get_or, slice_get_within, get_or_from_slice_get}
use Rattle.std.proofs.Math.Seq.{get_or-append_seam}
use Rattle.ascii_text.specs.Digits.{fixed_decimal, IsMark}
use Rattle.ascii_text.proofs.Decided.{some_decided}
use Rattle.ascii_text.proofs.Decimals.{length-fixed_decimal, fixed_decimal_digits}
use Rattle.td_base.specs.References.{procedure_letter, has_letter, numbers_of}

-- holder and serial in digits
abbrev pub numbers : ℕ → ℕ → ℕ → List ℕ
numbers width holder serial = fixed_decimal 6 holder ++ fixed_decimal width serial

-- how long they are
pub length-numbers : (width holder serial : ℕ) → length (numbers width holder serial) ≡ width + 6
length-numbers width holder serial =
    omega (arith, length-append (fixed_decimal 6 holder) (fixed_decimal width serial), length-fixed_decimal 6 holder, length-fixed_decimal width serial)

-- they are digits
pub numbers_digits : (width holder serial : ℕ) → All IsAsciiDigit (numbers width holder serial)
numbers_digits width holder serial =
    All-append IsAsciiDigit (fixed_decimal 6 holder) (fixed_decimal width serial) (fixed_decimal_digits 6 holder) (fixed_decimal_digits width serial)

-- and so marks
numbers_marks : (width holder serial : ℕ) → All IsMark (numbers width holder serial)
numbers_marks width holder serial =
    All-weaker IsAsciiDigit IsMark (λ c h. inl h) (numbers width holder serial) (numbers_digits width holder serial)

-- numbers with something behind them
abbrev pub with_behind : ℕ → ℕ → ℕ → List ℕ → List ℕ
with_behind width holder serial behind = numbers width holder serial ++ behind

-- how long they are
pub length-with_behind : (width holder serial : ℕ) (behind : List ℕ) → length (with_behind width holder serial behind) ≡ width + 6 + length behind
length-with_behind width holder serial behind =
    omega (arith, length-append (numbers width holder serial) behind, length-numbers width holder serial)

-- they are marks where that is
pub marks_behind : (width holder serial : ℕ) (behind : List ℕ) → All IsMark behind → All IsMark (with_behind width holder serial behind)
marks_behind width holder serial behind marks =
    All-append IsMark (numbers width holder serial) behind (numbers_marks width holder serial) marks

-- an identifier of marks, whose numbers are those of a holder and a serial in so many digits
pub record IsIdentifierOf (width holder serial : ℕ) (identifier : List ℕ) : Type 0 where
  pub marks : All IsMark identifier
  pub first : take 6 identifier ≡ fixed_decimal 6 holder
  pub all : numbers_of identifier ≡ numbers width holder serial

-- digits have no letter
pub no_letter : (text : List ℕ) → All IsAsciiDigit text → has_letter text ≡ false
no_letter text digits = elim (cases_Bool (has_letter text)) [
  | inl there ↦
      let at = (some_decided (slice_get text 12) procedure_letter).0 there in
      let digit = digits 12 0 (slice_get_within text 12 procedure_letter at) in
      absurd (omega (arith, digit, get_or_from_slice_get text 12 procedure_letter 0 at))
  | inr none ↦ none
]

-- twelve characters and the letter have it
pub letter_seen : (text : List ℕ) → length text ≡ 12 → has_letter (text ++ procedure_letter ∷ []) ≡ true
letter_seen text size =
    let all = text ++ procedure_letter ∷ [] in
    let long : length all ≡ 13 = omega (arith, length-append text (procedure_letter ∷ [])) in
    (some_decided (slice_get all 12) procedure_letter).1
    (slice_get-get_or all 12 0 (omega arith) ∙ ap Some (rw (← size) (get_or-append_seam text procedure_letter [] 0)))

-- the letter is a mark
pub letter_is_mark : All IsMark (procedure_letter ∷ [])
letter_is_mark = All-cons IsMark procedure_letter [] (inr (omega arith, omega arith)) (All-nil IsMark)

-- the identifier of digits alone
pub plain : (width holder serial : ℕ) → IsIdentifierOf width holder serial (numbers width holder serial)
plain width holder serial =
    let none = no_letter (numbers width holder serial) (numbers_digits width holder serial) in
    record {
      marks = numbers_marks width holder serial;
      first = take_at (fixed_decimal 6 holder) (fixed_decimal width serial) 6 (length-fixed_decimal 6 holder);
      all = rw none refl;
    }

-- the identifier with the letter
pub lettered : (holder serial : ℕ) → IsIdentifierOf 6 holder serial (with_behind 6 holder serial (procedure_letter ∷ []))
lettered holder serial =
    let digits = numbers 6 holder serial in
    let size = length-numbers 6 holder serial in
    let there = letter_seen digits size in
    record {
      marks = marks_behind 6 holder serial (procedure_letter ∷ []) letter_is_mark;
      first = rw append_assoc (take_at (fixed_decimal 6 holder) (fixed_decimal 6 serial ++ procedure_letter ∷ []) 6 (length-fixed_decimal 6 holder));
      all = rw there (take_at digits (procedure_letter ∷ []) 12 size);
    }
