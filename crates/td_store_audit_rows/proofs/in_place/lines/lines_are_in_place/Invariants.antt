use Rattle.std.proofs.Common.{◌≢◌, ℕ, ◌<◌, get_or}
use Rattle.td_table_model.specs.Gathering.{no_of}
use Rattle.td_store_rows.specs.LineTable.{line_row_of}
use Rattle.td_store_rows.specs.declared.lines.stored.StoredLine.{StoredLine}
use Rattle.td_store_audit_rows.specs.InPlace.{IsLineInPlace}
use Rattle.td_store_audit_rows.proofs.Placed.{IsPlaced}
use Rattle.td_store_audit_rows.proofs.in_place.lines.lines_are_in_place.Given as goal

-- those before are in place, and no two of them are on one guarantee
abbrev pub invariant-loop-i : goal.invariant-loop-i
invariant-loop-i l = record {
  placed : (j : ℕ) (d : StoredLine) → j < l.i → IsPlaced line_row_of no_of (IsLineInPlace l.guarantees) 0 l.rows j d;
  apart : (j k : ℕ) (d : StoredLine) → j < k → k < l.i → (get_or l.rows j d).guarantee ≢ (get_or l.rows k d).guarantee;
}
