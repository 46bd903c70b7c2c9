use Rattle.std.proofs.Common.{ℕ, ◌-◌, ◌≤◌, length, map}
use Rattle.td_table_model.specs.Gathering.{of_key, place}
use Rattle.td_store_rows.specs.CodeTable.{code_row_of}
use Rattle.td_store_audit.specs.Found.{serial_of_code}
use Rattle.td_store_audit.specs.InPlace.{AreOneToTwenty, AreSerialsWithin, IsBySerial}
use Rattle.td_store_audit.proofs.Runs.{IsSplit}
use Rattle.td_store_audit.proofs.codes_in_place.codes_within_are_in_place.Given as goal

-- the codes of the guarantees before stand before the start, and each of those guarantees in the range has 1 to 20
abbrev pub invariant-loop-before : goal.invariant-loop-before
invariant-loop-before l =
    (l.start ≤ length l.rows) × (l.first - 1 ≤ l.before)
    × (IsBySerial (map code_row_of l.rows) → AreSerialsWithin l.first l.end (map code_row_of l.rows) → IsSplit serial_of_code l.before l.start l.rows
    × ((n : ℕ) → 1 ≤ n → l.first ≤ n → n ≤ l.before → AreOneToTwenty (of_key place n (map code_row_of l.rows))))
