use Rattle.std.proofs.Common.{◌≡◌, ℕ, ◌<◌, ◌≤◌, get_or}
use Rattle.td_store_rows.specs.declared.codes.stored.StoredCode.{StoredCode}
use Rattle.td_store_audit.proofs.codes_in_place.end_of_run.Given as goal

-- those from the start on have the serial
abbrev pub invariant-loop-i : goal.invariant-loop-i
invariant-loop-i l = (j : ℕ) (d : StoredCode) → l.start ≤ j → j < l.i → (get_or l.rows j d).serial ≡ l.serial
