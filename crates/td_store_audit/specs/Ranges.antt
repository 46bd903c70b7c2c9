-- A holder's movements and guarantees with serials below one, and which movements in rows count.
use Rattle.std.specs.Prelude.{◌≡◌, ℕ, List, filter, map}
use Rattle.sqlite_trees.specs.Tree.{Trees}
use Rattle.td_guarantee.specs.declared.guarantee.Guarantee.{Guarantee}
use Rattle.td_movement.specs.declared.movement.Movement.{Movement}
use Rattle.td_table_model.specs.Gathering.{guarantees_by, movements_by, place}
use Rattle.td_table_model.specs.Tables.{Keyed}
use Rattle.td_schema.specs.declared.layout.Layout.{Layout}
use Rattle.td_store_rows.specs.MovementTable.{serial_of_stored}
use Rattle.td_store_rows.specs.Ranges.{rows_below}
use Rattle.td_store_rows.specs.StoreTables.{tables_in}
use Rattle.td_store_rows.specs.declared.movements.stored.MovementSerial.{MovementSerial}
use Rattle.td_store_audit.specs.Tallies.{is_counting_row}

-- the movements of a holder with serials below one, in their order
abbrev pub movements_below : Layout → Trees → ℕ → ℕ → List (Keyed Movement)
movements_below layout trees H n = rows_below n (movements_by H (tables_in layout trees))

-- the guarantees
abbrev pub guarantees_below : Layout → Trees → ℕ → ℕ → List (Keyed Guarantee)
guarantees_below layout trees H n = rows_below n (guarantees_by H (tables_in layout trees))

-- these are the serials of the movements in rows that count, in their order
abbrev pub AreSerialsIn : List (Keyed Movement) → List MovementSerial → Type 0
AreSerialsIn rows serials = map serial_of_stored serials ≡ map place (filter is_counting_row rows)
