-- What widths write: a text at the left of its places, or at their right.
use Rattle.std.proofs.Common.{◌≡◌, ◌∙◌, ℕ, zero, suc, ◌+◌, ◌-◌, ◌/◌, ◌%◌, ◌^◌, ◌<◌, List, [], ◌∷◌, ◌++◌, length, replicate, ne_eqb, refl, ap, arith, append-nil, append_assoc}
use Rattle.std.proofs.lemmas.List.{length-append}
use Rattle.std.specs.Char.{encode_utf8}
use Rattle.std.specs.Fmt.{char_count, take_chars, padded, padded_integral, styled_text, styled_decimal, format_spec, decimal}
use Rattle.std.specs.List.{repeat}
use Rattle.td_movement.specs.declared.state.State.{State}
use Rattle.td_movement.specs.declared.state.State.TheVariants.{Accepted, Cancelled, Released, Enquired, Arrived, Discrepant, Cleared, WrittenOff}
use Rattle.td_movement.specs.States.{state_name}
use Rattle.td_reports.specs.Texts.{amount_text, left_in, right_in}

-- so many spaces
spaces_are : (n : ℕ) → repeat {A = ℕ} n (32 ∷ []) ≡ replicate n 32
spaces_are zero = refl
spaces_are (suc n) = ap (λ l. 32 ∷ l) (spaces_are n)

-- a number at the right of its places
pub styled_number : (places n : ℕ) → 0 < places
    → styled_decimal (format_spec 32 3 0 places (2 ^ 64 - 1)) n ≡ right_in places (decimal n)
unfolding padded_integral char_count encode_utf8
styled_number places n some =
    let short : places - length (decimal n) - 0 - 0 ≡ places - length (decimal n) = omega arith in
    let none : places - length (decimal n) - (places - length (decimal n)) ≡ 0 = omega arith in
    rw (ne_eqb places 0 (omega arith), short, none, spaces_are (places - length (decimal n))) (simp append-nil)

-- an amount is its whole units at the right of fourteen places, and a point and the cents behind them
pub amount_parts : (n : ℕ) → right_in 14 (decimal (n / 100)) ++ 46 ∷ (48 + n / 10 % 10) ∷ (48 + n % 10) ∷ [] ≡ amount_text n
amount_parts n =
    let whole = decimal (n / 100) in
    let rest : List ℕ = 46 ∷ (48 + n / 10 % 10) ∷ (48 + n % 10) ∷ [] in
    append_assoc (replicate (14 - length whole) 32) whole rest ∙ ap (λ k. replicate k 32 ++ (whole ++ rest)) (omega (arith, length-append whole rest))

-- the name of a state at the left of eight places
pub styled_state : (state : State) → styled_text (format_spec 32 1 0 8 (2 ^ 64 - 1)) (state_name state) ≡ left_in 8 (state_name state)
unfolding padded take_chars char_count encode_utf8
styled_state Accepted = refl
styled_state Cancelled = refl
styled_state Released = refl
styled_state Enquired = refl
styled_state Arrived = refl
styled_state Discrepant = refl
styled_state Cleared = refl
styled_state WrittenOff = refl
