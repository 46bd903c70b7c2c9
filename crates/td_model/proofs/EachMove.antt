-- What each move asks of the state before it, and what it leaves of the days and offices of a movement.
use Rattle.std.proofs.Common.{◌≡◌, true, Some, refl, sym, ◌∙◌}
use Rattle.std.specs.Prelude.{IsSome}
use Rattle.td_movement.specs.declared.movement.Movement.{Movement}
use Rattle.td_movement.specs.declared.moves.Move.TheVariants.{Cancel, Release, Arrive, Judge, WriteOff, Enquire}
use Rattle.td_movement.specs.declared.state.Control.{Control}
use Rattle.td_movement.specs.declared.state.Control.TheVariants.{A1, A2, B1}
use Rattle.td_movement.specs.declared.state.Ground.{Ground}
use Rattle.td_movement.specs.declared.state.Ground.TheVariants.{Results, Proof}
use Rattle.td_movement.specs.declared.state.State.{State}
use Rattle.td_movement.specs.declared.state.State.TheVariants.{Accepted, Cancelled, Released, Enquired, Arrived, Discrepant, Cleared, WrittenOff}
use Rattle.td_movement.specs.States.{state_after, is_counting}
use Rattle.td_movement.specs.Status.{HasDaysOf, HasArrived}
use Rattle.td_model.specs.Effects.{judged}

-- only an accepted declaration is cancelled
pub cancelled_from : (s n : State) → state_after s Cancel ≡ Some n → (n ≡ Cancelled) × (s ≡ Accepted)
cancelled_from Accepted n is = (cc, refl)
cancelled_from Cancelled n is = cc
cancelled_from Released n is = cc
cancelled_from Enquired n is = cc
cancelled_from Arrived n is = cc
cancelled_from Discrepant n is = cc
cancelled_from Cleared n is = cc
cancelled_from WrittenOff n is = cc

-- only an accepted declaration is released
pub released_from : (s n : State) → state_after s Release ≡ Some n → (n ≡ Released) × (s ≡ Accepted)
released_from Accepted n is = (cc, refl)
released_from Cancelled n is = cc
released_from Released n is = cc
released_from Enquired n is = cc
released_from Arrived n is = cc
released_from Discrepant n is = cc
released_from Cleared n is = cc
released_from WrittenOff n is = cc

-- what arrives was released
pub arrived_from : (s n : State) → state_after s Arrive ≡ Some n → (n ≡ Arrived) × (is_counting s ≡ true) × ((m : Movement) → HasDaysOf s m → IsSome m.limit)
arrived_from Accepted n is = cc
arrived_from Cancelled n is = cc
arrived_from Released n is = (cc, refl, λ m days. days.0)
arrived_from Enquired n is = (cc, refl, λ m days. days.0)
arrived_from Arrived n is = cc
arrived_from Discrepant n is = cc
arrived_from Cleared n is = cc
arrived_from WrittenOff n is = cc

-- an office asks after a released movement
pub enquired_from : (s n : State) → state_after s Enquire ≡ Some n → (n ≡ Enquired) × (s ≡ Released)
enquired_from Accepted n is = cc
enquired_from Cancelled n is = cc
enquired_from Released n is = (cc, refl)
enquired_from Enquired n is = cc
enquired_from Arrived n is = cc
enquired_from Discrepant n is = cc
enquired_from Cleared n is = cc
enquired_from WrittenOff n is = cc

-- the result of a control is that of a movement that has arrived
pub judged_from : (s n : State) (r : Control) → state_after s (Judge r) ≡ Some n → (n ≡ judged r) × (is_counting s ≡ true) × ((m : Movement) → HasDaysOf s m → HasArrived m)
judged_from Accepted n A1 is = cc
judged_from Accepted n A2 is = cc
judged_from Accepted n B1 is = cc
judged_from Cancelled n A1 is = cc
judged_from Cancelled n A2 is = cc
judged_from Cancelled n B1 is = cc
judged_from Released n A1 is = cc
judged_from Released n A2 is = cc
judged_from Released n B1 is = cc
judged_from Enquired n A1 is = cc
judged_from Enquired n A2 is = cc
judged_from Enquired n B1 is = cc
judged_from Arrived n A1 is = (cc, refl, λ m days. days)
judged_from Arrived n A2 is = (cc, refl, λ m days. days)
judged_from Arrived n B1 is = (cc, refl, λ m days. days)
judged_from Discrepant n A1 is = (cc, refl, λ m days. days)
judged_from Discrepant n A2 is = (cc, refl, λ m days. days)
judged_from Discrepant n B1 is = (cc, refl, λ m days. days)
judged_from Cleared n A1 is = cc
judged_from Cleared n A2 is = cc
judged_from Cleared n B1 is = cc
judged_from WrittenOff n A1 is = cc
judged_from WrittenOff n A2 is = cc
judged_from WrittenOff n B1 is = cc

-- what is written off was cleared, or asked after
pub written_off_from : (s n : State) (g : Ground) → state_after s (WriteOff g) ≡ Some n → (n ≡ WrittenOff) × ((m : Movement) → HasDaysOf s m → HasDaysOf WrittenOff m)
written_off_from Accepted n Results is = cc
written_off_from Accepted n Proof is = cc
written_off_from Cancelled n Results is = cc
written_off_from Cancelled n Proof is = cc
written_off_from Released n Results is = cc
written_off_from Released n Proof is = cc
written_off_from Enquired n Results is = cc
written_off_from Enquired n Proof is = (cc, λ m days. (days.0, rw (days.1.0, days.1.1) refl))
written_off_from Arrived n Results is = cc
written_off_from Arrived n Proof is = cc
written_off_from Discrepant n Results is = cc
written_off_from Discrepant n Proof is = cc
written_off_from Cleared n Results is = (cc, λ m days. (days.0, days.1 ∙ sym days.2))
written_off_from Cleared n Proof is = cc
written_off_from WrittenOff n Results is = cc
written_off_from WrittenOff n Proof is = cc
