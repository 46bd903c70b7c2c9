-- The columns of a movement are stored as they are, and read back as the movement.
use Rattle.std.proofs.Common.{[], refl, ◌≡◌}
use Rattle.std.specs.Prelude.{codes, pos, ◌||◌}
use Rattle.std.specs.Str.{bytes_eq}
use Rattle.sqlite_rules.specs.Cast.{cast_all}
use Rattle.sqlite_typed.proofs.TestLemmas.{then_value}
use Rattle.td_movement.specs.States.{is_counting, state_name}
use Rattle.td_movement.specs.declared.movement.Movement.{Movement}
use Rattle.td_movement.specs.declared.state.State.{State}
use Rattle.td_movement.specs.declared.state.State.TheVariants.{Accepted, Arrived, Cancelled, Cleared, Discrepant, Enquired, Released, WrittenOff}
use Rattle.td_store_rows.specs.Columns.{movement_cells, movement_from, movements_table, state_in}
use Rattle.typed_sql.proofs.Columns.{cast_number_if, cast_text_if, number_back, text_back}
use Rattle.typed_sql.proofs.Effects.{cast_int}
use Rattle.td_table_model.specs.Tables.{Keyed}

-- the movement without its lines
abbrev pub bare : Keyed Movement → Keyed Movement
bare m = record m { row = record m.row { lines = [] } }

state_back : (s : State) → state_in (state_name s) ≡ s
state_back Accepted = refl
state_back Cancelled = refl
state_back Released = refl
state_back Enquired = refl
state_back Arrived = refl
state_back Discrepant = refl
state_back Cleared = refl
state_back WrittenOff = refl

pub back : (m : Keyed Movement) → movement_from (movement_cells m) ≡ bare m
back m = rw (state_back m.row.state, number_back m.row.limit, number_back m.row.arrival, text_back m.row.actual)
    refl

pub cells_stored : (m : Keyed Movement) → cast_all movements_table.columns (movement_cells m) ≡ movement_cells m
cells_stored m =
    then_value (cast_int (pos m.holder))
    (then_value (cast_int (pos m.serial)) (then_value refl (then_value refl (then_value refl (then_value refl
    (then_value (cast_int (pos m.row.accepted))
    (then_value refl (then_value (cast_number_if m.row.limit) (then_value (cast_number_if m.row.arrival)
    (then_value (cast_text_if m.row.actual) refl))))))))))

-- a movement counts where its state has one of five names
pub counting_names : (s : State)
    → ((bytes_eq (state_name s) (codes "released") || bytes_eq (state_name s) (codes "enquired"))
    || (bytes_eq (state_name s) (codes "arrived") ||
    (bytes_eq (state_name s) (codes "discrepant") || bytes_eq (state_name s) (codes "cleared"))))
    ≡ is_counting s
counting_names Accepted = refl
counting_names Cancelled = refl
counting_names Released = refl
counting_names Enquired = refl
counting_names Arrived = refl
counting_names Discrepant = refl
counting_names Cleared = refl
counting_names WrittenOff = refl
