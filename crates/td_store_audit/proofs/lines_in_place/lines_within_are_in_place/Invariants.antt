use Rattle.std.proofs.Common.{ℕ, ◌-◌, ◌≤◌, length, map}
use Rattle.td_store_audit_rows.specs.InPlace.{AreLinesInPlace}
use Rattle.td_table_model.specs.Gathering.{in_order, no_of, of_key, place}
use Rattle.td_store_rows.specs.LineTable.{line_row_of}
use Rattle.td_store_audit.specs.Found.{serial_of_line}
use Rattle.td_store_audit.specs.InPlace.{AreNumbersApart, AreSerialsWithin, IsByNumber, IsBySerial}
use Rattle.td_store_audit.proofs.Runs.{IsSplit}
use Rattle.td_store_audit.proofs.lines_in_place.lines_within_are_in_place.Given as goal

-- the lines of the movements before stand before the start, and those of each of them are in their places
abbrev pub invariant-loop-before : goal.invariant-loop-before
invariant-loop-before l =
    (l.start ≤ length l.rows) × (l.first - 1 ≤ l.before)
    × (IsBySerial (map line_row_of l.rows) → IsByNumber (map line_row_of l.rows) → AreNumbersApart (map line_row_of l.rows)
    → AreSerialsWithin l.first l.end (map line_row_of l.rows)
    → IsSplit serial_of_line l.before l.start l.rows
    × ((n : ℕ) → 1 ≤ n → l.first ≤ n → n ≤ l.before → AreLinesInPlace l.guarantees (in_order no_of (of_key place n (map line_row_of l.rows)))))
