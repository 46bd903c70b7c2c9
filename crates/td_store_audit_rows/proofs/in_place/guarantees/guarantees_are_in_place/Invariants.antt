use Rattle.std.proofs.Common.{ℕ, ◌<◌}
use Rattle.td_table_model.specs.Gathering.{place}
use Rattle.td_store_audit_rows.specs.InPlace.{IsGuaranteeInPlace}
use Rattle.td_store_rows.specs.GuaranteeTable.{guarantee_row_of}
use Rattle.td_store_rows.specs.declared.guarantees.stored.StoredGuarantee.{StoredGuarantee}
use Rattle.td_store_audit_rows.proofs.Placed.{IsPlaced}
use Rattle.td_store_audit_rows.proofs.in_place.guarantees.guarantees_are_in_place.Given as goal

-- those before are in place
abbrev pub invariant-loop-i : goal.invariant-loop-i
invariant-loop-i l = (j : ℕ) (d : StoredGuarantee) → j < l.i → IsPlaced guarantee_row_of place (IsGuaranteeInPlace l.country) l.before l.rows j d
