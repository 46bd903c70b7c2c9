-- The rules of a declaration: what its LRN says of it, and the tests of its lines.
-- The rules of a release for transit: its limit, and the tests of the movement's lines.
use Rattle.std.specs.Prelude.{ℕ, Bool, ◌&&◌, ◌==◌, not, if◌then◌else◌, List, [], ◌∷◌, Option, Some, None, ◌+◌, ◌-◌, nat_le}
use Rattle.std.specs.Str.{bytes_eq}
use Rattle.std.specs.List.{list_any}
use Rattle.std.specs.Cmp.Lexicographic.{pointwise}
use Rattle.td_movement.specs.declared.line.Line.{Line}
use Rattle.td_guarantee.specs.declared.guarantee.Guarantee.{Guarantee}
use Rattle.td_movement.specs.declared.movement.Movement.{Movement}
use Rattle.td_commands.specs.declared.said.Refusal.{Refusal}
use Rattle.td_commands.specs.declared.said.Refusal.TheVariants.{NoGuarantee, BadCode, GuaranteeEnded, OverReference}
use Rattle.td_guarantee.specs.Usage.{has_ended, is_within}
use Rattle.td_model.specs.Account.{guarantee_by_grn}

-- two lines on one guarantee, of one amount
abbrev pub is_same_line : Line → Line → Bool
is_same_line a b = bytes_eq a.grn b.grn && (a.cents == b.cents)

-- The movement has the contents of a declaration: the offices, and the lines one by one in their order.
-- Codes are no part of it.
abbrev pub has_contents : List ℕ → List ℕ → List Line → Movement → Bool
has_contents departure destination lines movement =
    bytes_eq movement.departure departure && bytes_eq movement.destination destination
    && pointwise is_same_line movement.lines lines

-- the first of a line's tests that refuses it: its guarantee, the code, the guarantee's end
abbrev pub guarantee_refusal : ℕ → List ℕ → Option Guarantee → Option Refusal
guarantee_refusal day code None = Some NoGuarantee
guarantee_refusal day code (Some g) =
    if not (list_any (λ c. bytes_eq c code) g.codes) then Some BadCode
    else (if has_ended day g.ends then Some GuaranteeEnded else None)

-- the refusal of a line on that day
abbrev pub line_refusal : ℕ → List Guarantee → Line × List ℕ → Option Refusal
line_refusal day guarantees l = guarantee_refusal day l.1 (guarantee_by_grn l.0.grn guarantees)

-- this refusal, else that one
abbrev pub refusal_or : Option Refusal → Option Refusal → Option Refusal
refusal_or None later = later
refusal_or (Some refusal) later = Some refusal

-- the refusal of the first line that is refused: all tests of a line come before those of the next
abbrev pub first_refusal : ℕ → List Guarantee → List (Line × List ℕ) → Option Refusal
first_refusal day guarantees [] = None
first_refusal day guarantees (l ∷ lines) =
    refusal_or (line_refusal day guarantees l) (first_refusal day guarantees lines)

-- the limit is from the day itself to the 365th day after
abbrev pub is_limit : ℕ → ℕ → Bool
is_limit day limit = nat_le day limit && nat_le limit (day + 365)

-- The first of a line's tests that refuses its release: the guarantee's end, and what is free on it beside
-- the amount in use. Nothing is released on a guarantee that isn't there.
abbrev pub cover_refusal : ℕ → ℕ → Option (Guarantee × ℕ) → Option Refusal
cover_refusal day cents None = Some NoGuarantee
cover_refusal day cents (Some e) =
    if has_ended day e.0.ends then Some GuaranteeEnded
    else (if is_within e.0.reference e.1 cents then None
    else Some (OverReference (e.0.reference - e.1) e.0.grn))

-- the refusal of the first line that is refused, where the guarantees and the amounts in use on them are
-- these: each line is tested against what is in use before the release
abbrev pub first_uncovered : ℕ → (List ℕ → Option (Guarantee × ℕ)) → List Line → Option Refusal
first_uncovered day entry [] = None
first_uncovered day entry (l ∷ lines) =
    refusal_or (cover_refusal day l.cents (entry l.grn)) (first_uncovered day entry lines)
