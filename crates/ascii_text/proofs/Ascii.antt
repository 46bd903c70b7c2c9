-- Texts of digits and letters are ASCII.
use Rattle.std.proofs.Common.{ℕ, ◌<◌, List, length, take, drop, All, arith, inl, inr, sym, lit<}
use Rattle.std.specs.Char.{IsAsciiUppercase}
use Rattle.std.specs.Str.{IsAscii}
use Rattle.std.proofs.lemmas.Bool.{cases_lt}
use Rattle.std.proofs.lemmas.List.{take-append-drop, get_or_past}
use Rattle.std.proofs.lemmas.List.Elements.{All-append, All-same, All-weaker}
use Rattle.ascii_text.specs.Digits.{IsMark}

-- a text of characters below 128
pub IsAscii-from : (P : ℕ → Type 0) → ((c : ℕ) → P c → c < 128) → (text : List ℕ) → All P text → IsAscii text
IsAscii-from P small text all i =
    elim (cases_lt i (length text)) [ inl lt ↦ small _ (all i 0 lt) | inr ge ↦ rw (get_or_past text i 0 ge) (lit< tt) ]

-- digits and capital letters are below 128
pub mark_small : (c : ℕ) → IsMark c → c < 128
mark_small c (inl digit) = omega arith
mark_small c (inr letter) = omega arith

-- capital letters in front, and digits or capital letters behind
pub IsAscii-from_letters : (n : ℕ) (text : List ℕ) → All IsAsciiUppercase (take n text) → All IsMark (drop n text) → IsAscii text
IsAscii-from_letters n text front back =
    let letters = All-weaker IsAsciiUppercase IsMark (λ c h. inr h) (take n text) front in
    let all = All-append IsMark (take n text) (drop n text) letters back in
    IsAscii-from IsMark mark_small text (All-same IsMark text _ (sym (take-append-drop n text)) all)
