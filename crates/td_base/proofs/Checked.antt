-- The check digit of a reference.
use Rattle.std.proofs.Common.{◌≡◌, ℕ, ◌+◌, ◌-◌, ◌%◌, ◌<◌, ◌≤◌, ◌==◌, true, false, not, List, ◌++◌, if◌then◌else◌, length, take, drop, get_or, All, Option, Some, None, nat_eq, arith, ap, sym, ◌∙◌, inl, inr, add-zero}
use Rattle.std.specs.Char.{IsAsciiDigit, IsAsciiUppercase}
use Rattle.std.specs.Option.{SomeIff, option_eq}
use Rattle.std.proofs.lemmas.Bool.{not-false, not-true, eqb-true, eq-eqb, false≢true}
use Rattle.std.proofs.lemmas.Bool.Decides.{nat_tests}
use Rattle.std.proofs.lemmas.List.{length-take-le, length-drop, get_or-drop, drop-drop}
use Rattle.std.proofs.lemmas.List.Elements.{All-append, All-same, All-weaker}
use Rattle.std.proofs.lemmas.Option.{slice_get-get_or, get_or_from_slice_get}
use Rattle.std.proofs.Math.Seq.{take-add}
use Rattle.ascii_text.specs.Digits.{IsMark}
use Rattle.td_base.specs.References.{check_of, weighted_sum, IsCheckable, front_of, country_of, identifier_of, HasForm, HasCheckDigit}

-- a check digit is one digit
small_rest : (rest : ℕ) → rest < 11 → (if rest == 10 then 0 else rest) ≤ 9
small_rest rest small = grind (arith, nat_tests)

-- 10 is written 0, so one digit is enough
pub check_small : (text : List ℕ) → check_of text ≤ 9
check_small text = small_rest (weighted_sum 0 text % 11) (omega arith)

-- what stands before the check digit
pub front_parts : (text : List ℕ) → 5 ≤ length text → front_of text ≡ take 2 text ++ (country_of text ++ identifier_of text)
front_parts text some =
    let places : length text - 1 ≡ 2 + (2 + (length text - 1 - 4)) = omega arith in
    let rest : take (2 + (length text - 1 - 4)) (drop 2 text) ≡ country_of text ++ identifier_of text = take-add 2 (length text - 1 - 4) (drop 2 text) ∙ ap (λ (ys : List ℕ). country_of text ++ take (length text - 1 - 4) ys) (drop-drop 2 2 text) in
    ap (λ (n : ℕ). take n text) places ∙ take-add 2 _ text ∙ ap (λ (ys : List ℕ). take 2 text ++ ys) rest

-- all before the check digit are digits and capital letters
pub front_marks : (text : List ℕ) → 5 ≤ length text → HasForm text → All IsMark (front_of text)
front_marks text some form =
    let year = All-weaker IsAsciiDigit IsMark (λ c h. inl h) (take 2 text) form.year in
    let country = All-weaker IsAsciiUppercase IsMark (λ c h. inr h) (country_of text) form.country in
    let behind = All-append IsMark (country_of text) (identifier_of text) country form.identifier in
    let all = All-append IsMark (take 2 text) (country_of text ++ identifier_of text) year behind in
    All-same IsMark (front_of text) _ (front_parts text some) all

-- so they have a check digit
pub front_checkable : (text : List ℕ) → 5 ≤ length text → length text ≤ 41 → HasForm text → IsCheckable (front_of text)
front_checkable text some short form = record {
  size = omega (arith, length-take-le (length text - 1) text (omega arith));
  marks = front_marks text some form;
}

-- the last character is a digit
pub last_is_digit : (text : List ℕ) → 1 ≤ length text → HasForm text → IsAsciiDigit (get_or text (length text - 1) 0)
last_is_digit text some form =
    let at = form.last 0 0 (omega (arith, length-drop (length text - 1) text)) in
    rw (get_or-drop, add-zero) at at

-- what a comparison with the check digit says
pub some_of : {T : Type 0} (r : Option T) (P : Type 0) (v : T) → SomeIff r P v → P → r ≡ Some v
some_of None P v h p = absurd (h p)
some_of (Some x) P v h p = ap Some h.1

-- the last character is the check digit
pub check_fits : (text : List ℕ) (r : Option ℕ) → 5 ≤ length text → length text ≤ 41 → HasForm text → SomeIff r (IsCheckable (front_of text)) (check_of (front_of text)) → false ≡ not (option_eq nat_eq r (Some (get_or text (length text - 1) 0 - 48))) → HasCheckDigit text
check_fits text r some short form found e =
    let known = some_of r _ _ found (front_checkable text some short form) in
    let same = eqb-true _ _ (not-false _ (sym (rw known at e))) in
    let digit = last_is_digit text (omega arith) form in
    slice_get-get_or text (length text - 1) 0 (omega arith) ∙ ap Some (omega arith)

-- or it isn't
pub check_differs : (text : List ℕ) (r : Option ℕ) → 5 ≤ length text → length text ≤ 41 → HasForm text → SomeIff r (IsCheckable (front_of text)) (check_of (front_of text)) → true ≡ not (option_eq nat_eq r (Some (get_or text (length text - 1) 0 - 48))) → ¬ (HasCheckDigit text)
check_differs text r some short form found e check =
    let known = some_of r _ _ found (front_checkable text some short form) in
    let last = get_or_from_slice_get text (length text - 1) (48 + check_of (front_of text)) 0 check in
    let same : check_of (front_of text) ≡ get_or text (length text - 1) 0 - 48 = omega arith in
    let different = not-true _ (sym (rw known at e)) in
    false≢true (sym different ∙ eq-eqb _ _ same)
