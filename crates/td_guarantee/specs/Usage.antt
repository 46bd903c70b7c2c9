-- The amount in use on a guarantee: the sum of the amounts that movements have taken up on it and not given back.
-- The terms of a guarantee.
use Rattle.std.specs.Prelude.{ℕ, if◌then◌else◌, List, ◌+◌, nat_le, Bool, false, Option, Some, None}
use Rattle.std.specs.List.{sum_by}
use Rattle.std.specs.Str.{bytes_eq}
use Rattle.td_movement.specs.declared.line.Line.{Line}
use Rattle.td_movement.specs.declared.movement.Movement.{Movement}
use Rattle.td_movement.specs.States.{is_counting}

-- what a line takes up on the guarantee with this GRN
abbrev pub cents_on : List ℕ → Line → ℕ
cents_on grn line = if bytes_eq line.grn grn then line.cents else 0

-- what lines take up on it
abbrev pub lines_on : List ℕ → List Line → ℕ
lines_on grn lines = sum_by (cents_on grn) lines

-- what a movement has in use on it: its lines' amounts from its release to its write-off
abbrev pub movement_on : List ℕ → Movement → ℕ
movement_on grn m = if is_counting m.state then lines_on grn m.lines else 0

-- the amount in use, over a holder's movements
abbrev pub used_on : List ℕ → List Movement → ℕ
used_on grn movements = sum_by (movement_on grn) movements

-- an amount fits beside what is in use: equality fits
abbrev pub is_within : ℕ → ℕ → ℕ → Bool
is_within reference used cents = nat_le (used + cents) reference

-- from the end day on nothing is lodged or released on a guarantee
abbrev pub has_ended : ℕ → Option ℕ → Bool
has_ended day None = false
has_ended day (Some end) = nat_le end day
