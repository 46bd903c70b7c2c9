-- References are ASCII.
use Rattle.std.proofs.Common.{ℕ, ◌-◌, ◌≤◌, List, length, drop, inl, sym}
use Rattle.std.specs.Char.{IsAsciiDigit}
use Rattle.std.specs.Str.{IsAscii}
use Rattle.std.proofs.lemmas.List.{take-append-drop}
use Rattle.std.proofs.lemmas.List.Elements.{All-append, All-same, All-weaker}
use Rattle.ascii_text.specs.Digits.{IsMark}
use Rattle.ascii_text.proofs.Ascii.{IsAscii-from, mark_small}
use Rattle.td_base.specs.References.{HasForm, front_of}
use Rattle.td_base.proofs.Checked.{front_marks}

-- a reference: its front, and a digit
pub IsAscii-from_form : (text : List ℕ) → 5 ≤ length text → HasForm text → IsAscii text
IsAscii-from_form text some form =
    let last = All-weaker IsAsciiDigit IsMark (λ c h. inl h) (drop (length text - 1) text) form.last in
    let all = All-append IsMark (front_of text) (drop (length text - 1) text) (front_marks text some form) last in
    IsAscii-from IsMark mark_small text (All-same IsMark text _ (sym (take-append-drop (length text - 1) text)) all)
