-- Texts that JSON writes as they are.
use Rattle.std.proofs.Common.{◌≡◌, ℕ, ◌+◌, ◌-◌, ◌/◌, ◌%◌, ◌≤◌, List, length, take, drop, true, refl, sym, arith, inl, inr}
use Rattle.std.proofs.lemmas.List.{take-append-drop}
use Rattle.std.proofs.lemmas.List.Elements.{All-append, All-same, All-weaker}
use Rattle.std.specs.Char.{IsAsciiDigit, IsAsciiUppercase}
use Rattle.serde_json.specs.Data.{string}
use Rattle.serde_json.specs.Written.{compact_text}
use Rattle.td_answers.specs.Unescaped.{in_quotes, is_unescaped}
use Rattle.td_answers.proofs.Texts.{between, beyond, written_class, written_text}
use Rattle.td_base.specs.Codes.{IsLrn, IsLrnCharacter, IsEori, holder_text}
use Rattle.td_base.specs.Digits.{IsMark}
use Rattle.td_base.specs.References.{front_of, IsReferenceText}
use Rattle.td_base.proofs.Checked.{front_marks}

-- ---- characters

-- digits and capital letters are written as they are
pub mark_unescaped : (c : ℕ) → IsMark c → is_unescaped c ≡ true
mark_unescaped c (inl digit) = between c (omega (arith, digit.0)) (omega (arith, digit.1))
mark_unescaped c (inr letter) = between c (omega (arith, letter.0)) (omega (arith, letter.1))

-- so are the characters of an LRN
lrn_unescaped : (c : ℕ) → IsLrnCharacter c → is_unescaped c ≡ true
lrn_unescaped c (inl (inl (inl digit))) = between c (omega (arith, digit.0)) (omega (arith, digit.1))
lrn_unescaped c (inl (inl (inr capital))) = between c (omega (arith, capital.0)) (omega (arith, capital.1))
lrn_unescaped c (inl (inr letter)) = beyond c (omega (arith, letter.0))
lrn_unescaped c (inr (inl dash)) = rw dash refl
lrn_unescaped c (inr (inr (inl slash))) = rw slash refl
lrn_unescaped c (inr (inr (inr point))) = rw point refl

-- ---- texts

-- an EORI is written as it is
pub written_eori : (text : List ℕ) → IsEori text → compact_text (string text) ≡ in_quotes text
written_eori text h =
    let letters = All-weaker IsAsciiUppercase IsMark (λ c h. inr h) (take 2 text) h.country in
    let all = All-append IsMark (take 2 text) (drop 2 text) letters h.marks in
    written_class IsMark mark_unescaped text (All-same IsMark text _ (sym (take-append-drop 2 text)) all)

-- so is a digit of a number
pub digit_unescaped : (n : ℕ) → is_unescaped (48 + n % 10) ≡ true
digit_unescaped n = between (48 + n % 10) (omega arith) (omega arith)

-- so is a holder's number
pub written_holder : (n : ℕ) → compact_text (string (holder_text n)) ≡ in_quotes (holder_text n)
written_holder n =
    written_text (holder_text n) (rw (digit_unescaped (n / 100000), digit_unescaped (n / 10000), digit_unescaped (n / 1000), digit_unescaped (n / 100), digit_unescaped (n / 10), digit_unescaped n) refl)

-- so is a reference
pub written_reference : (places : ℕ) (text : List ℕ) → 5 ≤ places → IsReferenceText places text → compact_text (string text) ≡ in_quotes text
written_reference places text some h =
    let last = All-weaker IsAsciiDigit IsMark (λ c h. inl h) (drop (length text - 1) text) h.form.last in
    let all = All-append IsMark (front_of text) (drop (length text - 1) text) (front_marks text (omega (arith, h.size)) h.form) last in
    written_class IsMark mark_unescaped text (All-same IsMark text _ (sym (take-append-drop (length text - 1) text)) all)

-- so is an LRN
pub written_lrn : (text : List ℕ) → IsLrn text → compact_text (string text) ≡ in_quotes text
written_lrn text h = written_class IsLrnCharacter lrn_unescaped text h.characters
