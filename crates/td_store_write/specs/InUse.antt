-- What a movement that comes into a state does to the amounts in use on the guarantees of its lines, in a store's file.
use Rattle.std.specs.Prelude.{◌≤◌, ◌<◌, ◌^◌, ◌+◌, ◌==◌, ℕ, Bool, true, false, List, if◌then◌else◌}
use Rattle.std.specs.List.{sum_by}
use Rattle.sqlite.specs.State.{State as FileState}
use Rattle.td_movement.specs.declared.state.State.{State}
use Rattle.td_movement.specs.declared.state.State.TheVariants.{Released, WrittenOff}
use Rattle.td_model.specs.declared.change.Change.{Change}
use Rattle.td_model.specs.declared.change.Change.TheVariants.{Moved}
use Rattle.td_table_model.specs.Tables.{Keyed, Kept, Tables, with_amount, without_amount}
use Rattle.td_table_model.specs.Changes.{used_after}
use Rattle.td_table_model.specs.Looking.{amount_between, movement_no}
use Rattle.typed_sql.specs.Writing.{HasSchema}
use Rattle.td_schema.specs.Layouts.{IsNewest, schema_of}
use Rattle.td_schema.specs.declared.layout.Layout.{Layout}
use Rattle.td_store_rows.specs.GuaranteeTable.{has_serial}
use Rattle.td_store_rows.specs.KeptTable.{MayChange}
use Rattle.td_store_rows.specs.StoreTables.{AreAllTyped, HasTables, tables_in}
use Rattle.td_store_rows.specs.declared.lines.stored.StoredLine.{StoredLine}

-- the state is one that changes the amounts in use: they are taken up at the release, and given back at the write-off
abbrev pub changes_use : State → Bool
changes_use Released = true
changes_use WrittenOff = true
changes_use state = false

-- So many cents may be put to an amount in use, or taken off it, as the state asks: the sum is an integer of SQL, and
-- no more is taken off than is in use.
abbrev pub MayFollow : State → ℕ → ℕ → Type 0
MayFollow Released cents used = used + cents < 2 ^ 63
MayFollow WrittenOff cents used = (cents ≤ used) × (used < 2 ^ 63)
MayFollow state cents used = Unit {0}

-- a guarantee's row after a movement with so many cents on it came into the state
abbrev pub with_change : State → ℕ → Keyed Kept → Keyed Kept
with_change state cents k = with_amount (used_after state cents k.row.used) (without_amount k)

-- that of the holder's guarantee n, where it is this one
abbrev pub change_at : State → ℕ → ℕ → ℕ → Keyed Kept → Keyed Kept
change_at state H n cents k = if has_serial H n k then with_change state cents k else k

-- what lines have on guarantee n
abbrev pub cents_at : ℕ → StoredLine → ℕ
cents_at n line = if n == line.guarantee then line.cents else 0

abbrev pub amount_on : ℕ → List StoredLine → ℕ
amount_on n lines = sum_by (cents_at n) lines

-- the row of a holder's guarantee after these are the lines of a movement that came into the state
abbrev pub with_lines : ℕ → State → List StoredLine → Keyed Kept → Keyed Kept
with_lines H state lines k = if k.holder == H then with_change state (amount_on k.serial lines) k else k

-- a row of the holder
abbrev pub is_of : {R : Type 0} → ℕ → Keyed R → Bool
is_of H r = r.holder == H

-- each of the holder's guarantees may follow: these lines, and movement m
abbrev pub FitLines : ℕ → State → List StoredLine → Tables → Type 0
FitLines H state lines t = MayChange (is_of H) (λ k. MayFollow state (amount_on k.serial lines) k.row.used) t.kept

abbrev pub FitsMovement : ℕ → ℕ → State → Tables → Type 0
FitsMovement H m state t = MayChange (is_of H) (λ k. MayFollow state (amount_between H m k.serial t) k.row.used) t.kept

-- what a change asks of the amounts in use so that its statements can be run
abbrev pub FitsChange : Change → Tables → Type 0
FitsChange (Moved row status) t = FitsMovement row.holder (movement_no t.country status.mrn) status.state t
FitsChange change t = Unit {0}

-- where the rows of a store's tables of the newest version were typed, and this was so of the tables, they are now what
-- f makes of them
abbrev pub TurnsFitting : (Tables → Type 0) → (Tables → Tables) → FileState → FileState → Type 0
TurnsFitting Fits f old new =
    (l : Layout) → IsNewest l → HasSchema old (schema_of l) → AreAllTyped l old.now.trees → Fits (tables_in l old.now.trees)
    → HasTables l f old new
