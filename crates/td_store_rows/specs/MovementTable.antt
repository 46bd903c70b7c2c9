-- What is asked of the movements in a store's file, and what is said anew of one.
use Rattle.std.specs.Prelude.{◌≡◌, [], ◌∷◌, ℕ, ◌==◌, Bool, ◌&&◌, List, filter, map, Option}
use Rattle.std.specs.List.Sorted.{IsPermutation, IsSorted}
use Rattle.std.specs.Option.{option_map, option_to_list}
use Rattle.std.specs.Ordering.{nat_cmp}
use Rattle.std.specs.Str.{bytes_eq}
use Rattle.td_movement.specs.States.{is_counting, state_name}
use Rattle.td_movement.specs.declared.movement.Movement.{Movement}
use Rattle.td_commands.specs.declared.lists.ListedMovement.{ListedMovement}
use Rattle.td_model.specs.Table.{listed}
use Rattle.td_model.specs.Changes.{with_status}
use Rattle.td_model.specs.declared.change.NewStatus.{NewStatus}
use Rattle.td_table_model.specs.Tables.{Keyed}
use Rattle.td_schema.specs.Layouts.{schema_of}
use Rattle.td_schema.specs.declared.layout.Layout.{Layout}
use Rattle.typed_sql.specs.Typed.{AreThose, AreTyped, IsFirst, Turns, typed_rows}
use Rattle.typed_sql.specs.Writing.{HasSchema}
use Rattle.td_table_model.specs.Gathering.{IsApart, in_order, place}
use Rattle.typed_sql.specs.Values.{number_if, number_in, number_value, number_or_null, text_in, text_or_null}
use Rattle.sqlite_value.specs.declared.value.Value.TheVariants.{Text}
use Rattle.sqlite_value.specs.Order.{Row, column}
use Rattle.sqlite.specs.State.{State}
use Rattle.td_store_rows.specs.Columns.{movement_typing, state_in}
use Rattle.td_store_rows.specs.Places.{by_place}
use Rattle.td_store_rows.specs.declared.movements.stored.MovementDeadlines.{MovementDeadlines}
use Rattle.td_store_rows.specs.declared.movements.stored.MovementInList.{MovementInList}
use Rattle.td_store_rows.specs.declared.movements.stored.MovementSerial.{MovementSerial}
use Rattle.td_store_rows.specs.declared.movements.stored.StoredMovement.{StoredMovement}

-- a movement that was found, as its row
abbrev pub movement_row_of : StoredMovement → Keyed Movement
movement_row_of m = record { holder = m.holder; serial = m.serial; row = m.movement }

-- the movement of a holder with a serial and an MRN; with an LRN; each of the holder that counts
abbrev pub has_mrn : ℕ → ℕ → List ℕ → Keyed Movement → Bool
has_mrn H n mrn m = m.holder == H && (m.serial == n && bytes_eq m.row.mrn mrn)

abbrev pub has_lrn : ℕ → List ℕ → Keyed Movement → Bool
has_lrn H lrn m = m.holder == H && bytes_eq m.row.lrn lrn

abbrev pub counts_for : ℕ → Keyed Movement → Bool
counts_for H m = m.holder == H && is_counting m.row.state

-- the movement in its new state
abbrev pub with_new_status : NewStatus → Keyed Movement → Keyed Movement
with_new_status status m = record m { row = with_status status m.row }

-- the statement turned the movements into what f makes of them
abbrev pub TurnsMovements : (List (Keyed Movement) → List (Keyed Movement)) → State → State → Type 0
TurnsMovements f old new = (l : Layout) → Turns movement_typing (schema_of l) f old new

-- these are the movements that pass the test
abbrev pub AreMovements : (Keyed Movement → Bool) → State → List StoredMovement → Type 0
AreMovements p state found = (l : Layout) → AreThose movement_typing (schema_of l) p state (map movement_row_of found)

-- where no two of them have one serial, these are they by their serials
abbrev pub AreBySerial : (Keyed Movement → Bool) → State → List StoredMovement → Type 0
AreBySerial p state found =
    (l : Layout) → HasSchema state (schema_of l) → AreTyped movement_typing state.now.trees
    → IsApart place (filter p (typed_rows movement_typing state.now.trees))
    → map movement_row_of found ≡ in_order place (filter p (typed_rows movement_typing state.now.trees))

-- this is the first of the movements that pass the test, by holder and then by serial; none: none of them passes
abbrev pub IsFirstMovement : (Keyed Movement → Bool) → State → Option StoredMovement → Type 0
IsFirstMovement p state found = (l : Layout) → IsFirst movement_typing (schema_of l) p by_place state (option_map movement_row_of found)

-- what a holder's movement says of its deadlines, and what five columns are read as
abbrev pub deadlines_of : ℕ → Movement → MovementDeadlines
deadlines_of H m = record { holder = H; mrn = m.mrn; state = m.state; limit = m.limit; arrival = m.arrival }

abbrev pub deadlines_from : Row → MovementDeadlines
deadlines_from cells = record {
  holder = number_in (column cells 0);
  mrn = text_in (column cells 1);
  state = state_in (text_in (column cells 2));
  limit = number_if (column cells 3);
  arrival = number_if (column cells 4);
}

-- what a list shows of a movement in its row, and what three columns are read as
abbrev pub shown_of : Keyed Movement → ListedMovement
shown_of m = listed m.row

abbrev pub shown_in_list : MovementInList → ListedMovement
shown_in_list m = m.shown

abbrev pub listed_from : Row → ListedMovement
listed_from cells = record { mrn = text_in (column cells 0); lrn = text_in (column cells 1); state = state_in (text_in (column cells 2)) }

-- where no two of the movements that pass the test have one serial, this is what a list shows of them by their serials
abbrev pub AreListedBySerial : (Keyed Movement → Bool) → State → List MovementInList → Type 0
AreListedBySerial p state found =
    (l : Layout) → HasSchema state (schema_of l) → AreTyped movement_typing state.now.trees
    → IsApart place (filter p (typed_rows movement_typing state.now.trees))
    → map shown_in_list found ≡ map shown_of (in_order place (filter p (typed_rows movement_typing state.now.trees)))

-- a serial that was found
abbrev pub serial_of_stored : MovementSerial → ℕ
serial_of_stored s = s.serial

-- where the table's rows are typed, these are the serials of the movements that pass the test, each as often as a movement
-- has it; and they don't fall
abbrev pub AreSerialsOf : (Keyed Movement → Bool) → State → List MovementSerial → Type 0
AreSerialsOf p state found =
    (l : Layout) → HasSchema state (schema_of l) → AreTyped movement_typing state.now.trees
    → IsPermutation (map place (filter p (typed_rows movement_typing state.now.trees))) (map serial_of_stored found)

abbrev pub AreSerialsInOrder : State → List MovementSerial → Type 0
AreSerialsInOrder state found =
    (l : Layout) → HasSchema state (schema_of l) → AreTyped movement_typing state.now.trees → IsSorted nat_cmp (map serial_of_stored found)

-- this is the movement that passes the test, or there is none
abbrev pub IsTheMovement : (Keyed Movement → Bool) → State → Option StoredMovement → Type 0
IsTheMovement p state found = AreMovements p state (option_to_list found)

-- what a new status is written by: the holder, the serial and the MRN, and then the new columns
abbrev pub status_values : ℕ → ℕ → NewStatus → Row
status_values H n status =
    number_value H ∷ number_value n ∷ Text status.mrn ∷ Text (state_name status.state)
    ∷ number_or_null status.limit
    ∷ number_or_null status.arrival ∷ text_or_null status.actual ∷ []
