use Rattle.std.proofs.Common.{ℕ, ◌<◌}
use Rattle.td_table_model.specs.Gathering.{place}
use Rattle.td_store_audit_rows.specs.InPlace.{IsMovementInPlace}
use Rattle.td_store_rows.specs.MovementTable.{movement_row_of}
use Rattle.td_store_rows.specs.declared.movements.stored.StoredMovement.{StoredMovement}
use Rattle.td_store_audit_rows.proofs.Placed.{IsPlaced}
use Rattle.td_store_audit_rows.proofs.in_place.movements.movements_are_in_place.Given as goal

-- those before are in place
abbrev pub invariant-loop-i : goal.invariant-loop-i
invariant-loop-i l = (j : ℕ) (d : StoredMovement) → j < l.i → IsPlaced movement_row_of place (IsMovementInPlace l.country) l.before l.rows j d
