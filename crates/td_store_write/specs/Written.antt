-- What the statements of a change do to the tables of a store's file.
use Rattle.std.specs.Prelude.{◌≡◌, ℕ, if◌then◌else◌, List, map}
use Rattle.sqlite.specs.State.{State}
use Rattle.td_guarantee.specs.declared.guarantee.Guarantee.{Guarantee}
use Rattle.td_movement.specs.declared.movement.Movement.{Movement}
use Rattle.td_model.specs.declared.change.Change.{Change}
use Rattle.td_model.specs.declared.change.NewStatus.{NewStatus}
use Rattle.td_model.specs.declared.change.NewTerms.{NewTerms}
use Rattle.td_table_model.specs.Tables.{Keyed, Kept, Tables}
use Rattle.td_table_model.specs.Changes.{tables_after, with_row, with_use_after}
use Rattle.td_table_model.specs.Looking.{MayBeAskedByKey, movement_no}
use Rattle.td_model.specs.declared.holder_row.HolderRow.{HolderRow}
use Rattle.typed_sql.specs.Writing.{HasSchema}
use Rattle.td_schema.specs.Layouts.{IsNewest, schema_of}
use Rattle.td_schema.specs.declared.layout.Layout.{Layout}
use Rattle.td_store_rows.specs.MovementTable.{has_mrn, with_new_status}
use Rattle.td_store_rows.specs.GuaranteeTable.{has_grn}
use Rattle.td_store_rows.specs.KeptTable.{has_kept_grn, with_new_kept_terms, with_new_terms}
use Rattle.td_store_rows.specs.StoreTables.{AreAllTyped, HasTables, tables_in}
use Rattle.td_store_write.specs.InUse.{FitsChange}

-- the status is put into the row of the holder's movement that has this serial and the status's MRN
abbrev pub status_by_key : ℕ → ℕ → NewStatus → Keyed Movement → Keyed Movement
status_by_key H n status m = if has_mrn H n status.mrn m then with_new_status status m else m

-- the terms are put into the row of the holder's guarantee that has this serial and the terms' GRN
abbrev pub terms_by_key : ℕ → ℕ → NewTerms → Keyed Guarantee → Keyed Guarantee
terms_by_key H n terms g = if has_grn H n terms.grn g then with_new_terms terms g else g

abbrev pub kept_terms_by_key : ℕ → ℕ → NewTerms → Keyed Kept → Keyed Kept
kept_terms_by_key H n terms k = if has_kept_grn H n terms.grn k then with_new_kept_terms terms k else k

-- a movement's new status in the tables of an office of this country, without what it does to the amounts in use, and
-- with it
abbrev pub with_status_set : List ℕ → HolderRow → NewStatus → Tables → Tables
with_status_set country row status t = record t {
  holders = map (with_row row) t.holders;
  movements = map (status_by_key row.holder (movement_no country status.mrn) status) t.movements;
}

abbrev pub with_move : List ℕ → HolderRow → NewStatus → Tables → Tables
with_move country row status t = record t {
  holders = map (with_row row) t.holders;
  movements = map (status_by_key row.holder (movement_no country status.mrn) status) t.movements;
  kept = map (with_use_after row.holder (movement_no country status.mrn) status.state t) t.kept;
}

-- The statements of a change wrote it: in tables of the newest version and of this country, whose references tell their
-- keys and whose amounts in use fit the change, they did what the change says.
abbrev pub WritesChange : List ℕ → Change → State → State → Type 0
WritesChange country change old new =
    (l : Layout) → IsNewest l → HasSchema old (schema_of l) → AreAllTyped l old.now.trees → (tables_in l old.now.trees).country ≡ country
    → MayBeAskedByKey (tables_in l old.now.trees) → FitsChange change (tables_in l old.now.trees)
    → HasTables l (tables_after change) old new
