-- What a holder's lines on a guarantee add up to, of those of the movements that count, and where that is kept for each guarantee.
use Rattle.std.specs.Prelude.{ℕ, ◌<◌, ◌==◌, List, Option, Some, SomeIff, get_or, is_some, length, if◌then◌else◌}
use Rattle.std.specs.List.{sum_by}
use Rattle.keyed_rows.specs.Rows.{row_at}
use Rattle.td_base.specs.Money.{IsCents}
use Rattle.td_table_model.specs.Tables.{Keyed, LineCells}
use Rattle.td_store_rows.specs.LineTable.{line_row_of}
use Rattle.td_store_rows.specs.MovementTable.{serial_of_stored}
use Rattle.td_store_rows.specs.declared.movements.stored.MovementSerial.{MovementSerial}
use Rattle.td_store_rows.specs.declared.lines.stored.StoredLine.{StoredLine}
use Rattle.td_store_audit.specs.declared.totals.Totals.{Totals}

-- what the row of a line adds to the amount in use: its cents, where its movement's serial is one of these
abbrev pub counted : List MovementSerial → Keyed LineCells → ℕ
counted serials l = if is_some (row_at serial_of_stored l.serial serials) then l.row.cents else 0

-- what those rows add up to that are on guarantee n
abbrev pub sum_on : ℕ → List MovementSerial → List (Keyed LineCells) → ℕ
sum_on n serials rows = sum_by (λ l. if l.row.guarantee == n then counted serials l else 0) rows

-- what a line adds to what is on guarantee n, and what lines add up to on it
abbrev pub added_to : ℕ → List MovementSerial → StoredLine → ℕ
added_to n serials line = if line.guarantee == n then counted serials (line_row_of line) else 0

abbrev pub total_on : ℕ → List MovementSerial → List StoredLine → ℕ
total_on n serials lines = sum_by (added_to n serials) lines

-- a sum of cents as an amount: none where it is above the greatest one
abbrev pub IsAmount : ℕ → Option ℕ → Type 0
IsAmount sum amount = SomeIff amount (IsCents sum) sum

-- what is kept of guarantee n: nothing, where none has its serial
abbrev pub kept_on : ℕ → Totals → Option ℕ
kept_on n totals = get_or totals.each.items n (Some 0)

-- what is kept of each guarantee is this sum
abbrev pub AreTotals : (ℕ → ℕ) → Totals → Type 0
AreTotals sums totals = (n : ℕ) → IsAmount (sums n) (kept_on n totals)

-- totals are kept of all guarantees with serials up to this
abbrev pub AreKeptUpTo : ℕ → Totals → Type 0
AreKeptUpTo last totals = last < length totals.each.items
