-- A walk along a desk's rows, of which one is asked for after another: where it stands, what it is still to give, and what a call of
-- `next` gives.
use Rattle.std.specs.Prelude.{◌≡◌, ◌<◌, ◌⊎◌, ℕ, List, [], ◌∷◌, map, Option, Some, None, Result, Ok, Err, is_ok}
use Rattle.std.specs.Option.{option_map}
use Rattle.sqlite_trees.specs.declared.store.Store.{Ghosts}
use Rattle.sqlite.specs.Held.{Held}
use Rattle.td_guarantee.specs.declared.guarantee.Guarantee.{Guarantee}
use Rattle.td_movement.specs.declared.movement.Movement.{Movement}
use Rattle.td_model.specs.Content.{Content}
use Rattle.td_desk.specs.View.{DeskView}
use Rattle.td_desk.specs.declared.fault.Fault.{Fault}
use Rattle.td_table_model.specs.Tables.{Keyed}
use Rattle.td_store_load.specs.Placed.{behind, guarantees_placed, movements_placed, with_holder}
use Rattle.td_store.specs.Kept.{sql_view}
use Rattle.td_store.specs.Looked.{HasLooked}
use Rattle.td_store.specs.Standing.{guarantee_given}
use Rattle.td_store.specs.declared.rows.Place.{Place}
use Rattle.td_store.specs.declared.rows.Place.TheVariants.{After, Ended, Failed}
use Rattle.td_store.specs.declared.rows.GuaranteeRows.{GuaranteeRows}
use Rattle.td_store.specs.declared.rows.MovementRows.{MovementRows}

-- where a walk stands, and the desk along whose rows it goes
pub record Walk (D : Type 0) : Type 0 where
  pub at : Place
  pub desk : D

abbrev pub movement_walk : {S : Type 0} {g : Ghosts S} → MovementRows S g → Walk (Held S)
movement_walk rows = record { at = rows.at; desk = rows.desk.now }

abbrev pub guarantee_walk : {S : Type 0} {g : Ghosts S} → GuaranteeRows S g → Walk (Held S)
guarantee_walk rows = record { at = rows.at; desk = rows.desk.now }

-- it has given all; a call of it failed so
abbrev pub HasEnded : {D : Type 0} → Walk D → Type 0
HasEnded w = w.at ≡ Ended

abbrev pub HasFailed : {D : Type 0} → Fault → Walk D → Type 0
HasFailed fault w = w.at ≡ Failed fault

-- what of all that is listed it is still to give: that behind where it stands, each with its holder's number
abbrev pub left_at : {X : Type 0} → Place → List (Keyed X) → List (Keyed X)
left_at (After H n) all = behind H n all
left_at Ended all = []
left_at (Failed fault) all = []

abbrev pub left_of : {D X : Type 0} → DeskView D → (Content → List (Keyed X)) → Walk D → List (ℕ × X)
left_of view all w = map with_holder (left_at w.at (all (view.content w.desk)))

abbrev pub movements_left : {S : Type 0} (g : Ghosts S) → MovementRows S g → List (ℕ × Movement)
movements_left g rows = left_of (sql_view g) movements_placed (movement_walk rows)

abbrev pub guarantees_left : {S : Type 0} (g : Ghosts S) → GuaranteeRows S g → List (ℕ × (Guarantee × ℕ))
guarantees_left g rows = left_of (sql_view g) guarantees_placed (guarantee_walk rows)

-- a call gave the first of what was left, or nothing was; where it failed, it gave nothing
abbrev pub Gives : {X : Type 0} → List X → Result (Option X) Fault → List X → Type 0
Gives old (Ok (Some x)) new = old ≡ x ∷ new
Gives old (Ok None) new = (old ≡ []) × (new ≡ [])
Gives old (Err fault) new = Unit {0}

-- it stands behind where it stood, under that holder's number
abbrev pub MovesOn : Place → ℕ → Place → Type 0
MovesOn (After H n) holder (After H' n') = (H' ≡ holder) × ((H < H') ⊎ ((H ≡ H') × (n < n')))
MovesOn _ holder _ = ⊥

-- what a call gave of guarantees
abbrev pub guarantees_given : Result (Option (ℕ × Guarantee × ℕ)) Fault → Result (Option (ℕ × (Guarantee × ℕ))) Fault
guarantees_given (Ok given) = Ok (option_map guarantee_given given)
guarantees_given (Err fault) = Err fault

-- a call of `next`, of a walk along what is listed: what it says of the walk before it and after it, and its answer
pub record IsNext {D X : Type 0} (view : DeskView D) (all : Content → List (Keyed X)) (old : Walk D) (result : Result (Option (ℕ × X)) Fault)
    (new : Walk D) : Type 0 where
  pub looked : HasLooked view (is_ok result) old.desk new.desk
  pub gave : view.is_clean new.desk → view.is_live old.desk → Gives (left_of view all old) result (left_of view all new)
  pub ended : HasEnded old → (result ≡ Ok None) × (new ≡ old)
  pub ends : result ≡ Ok None → HasEnded new
  pub failed : (fault : Fault) → HasFailed fault old → (result ≡ Err fault) × (new ≡ old)
  pub fails : (fault : Fault) → result ≡ Err fault → HasFailed fault new
