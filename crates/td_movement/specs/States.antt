-- The states of a movement and their names, and which of them count.
-- The table of moves of a movement.
use Rattle.std.specs.Prelude.{◌≡◌, ℕ, Bool, true, false, List, codes, Option, Some, None}
use Rattle.td_movement.specs.declared.state.State.{State}
use Rattle.td_movement.specs.declared.state.State.TheVariants.{Accepted, Cancelled, Released, Enquired, Arrived, Discrepant, Cleared, WrittenOff}
use Rattle.td_movement.specs.declared.state.Control.{Control}
use Rattle.td_movement.specs.declared.state.Control.TheVariants.{A1, A2, B1}
use Rattle.td_movement.specs.declared.state.Ground.{Ground}
use Rattle.td_movement.specs.declared.state.Ground.TheVariants.{Results, Proof}
use Rattle.td_movement.specs.declared.moves.Move.{Move}
use Rattle.td_movement.specs.declared.moves.Move.TheVariants.{Cancel, Release, Arrive, Judge, WriteOff, Enquire}

abbrev pub state_name : State → List ℕ
state_name Accepted = codes "accepted"
state_name Cancelled = codes "cancelled"
state_name Released = codes "released"
state_name Enquired = codes "enquired"
state_name Arrived = codes "arrived"
state_name Discrepant = codes "discrepant"
state_name Cleared = codes "cleared"
state_name WrittenOff = codes "written-off"

abbrev pub control_name : Control → List ℕ
control_name A1 = codes "A1"
control_name A2 = codes "A2"
control_name B1 = codes "B1"

abbrev pub ground_name : Ground → List ℕ
ground_name Results = codes "results"
ground_name Proof = codes "proof"

-- A movement counts from its release to its write-off: its lines are in use on their guarantees.
abbrev pub is_counting : State → Bool
is_counting Accepted = false
is_counting Cancelled = false
is_counting Released = true
is_counting Enquired = true
is_counting Arrived = true
is_counting Discrepant = true
is_counting Cleared = true
is_counting WrittenOff = false

-- no two states, results or grounds have one name
pub record NamesDiffer : Type 0 where
  pub states : (a b : State) → state_name a ≡ state_name b → a ≡ b
  pub controls : (a b : Control) → control_name a ≡ control_name b → a ≡ b
  pub grounds : (a b : Ground) → ground_name a ≡ ground_name b → a ≡ b

-- The state that a move leads to: these pairs, and no other.
abbrev pub state_after : State → Move → Option State
state_after Accepted Cancel = Some Cancelled
state_after Accepted Release = Some Released
state_after Released Arrive = Some Arrived
state_after Enquired Arrive = Some Arrived
state_after Arrived (Judge A1) = Some Cleared
state_after Arrived (Judge A2) = Some Cleared
state_after Arrived (Judge B1) = Some Discrepant
state_after Discrepant (Judge A1) = Some Cleared
state_after Discrepant (Judge A2) = Some Cleared
state_after Discrepant (Judge B1) = Some Discrepant
state_after Cleared (WriteOff Results) = Some WrittenOff
state_after Enquired (WriteOff Proof) = Some WrittenOff
state_after Released Enquire = Some Enquired
state_after state move = None
