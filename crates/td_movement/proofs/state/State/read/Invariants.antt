use Rattle.std.proofs.Common.{◌≢◌, ℕ, ◌<◌, get_or}
use Rattle.td_movement.specs.States.{state_name}
use Rattle.td_movement.specs.declared.state.State.TheVariants.{Accepted}
use Rattle.td_movement.specs.declared.state.TheConstants.{STATES}
use Rattle.td_movement.proofs.state.State.read.Given as goal

-- no state so far has the name
abbrev pub invariant-states : goal.invariant-states
invariant-states l = (i : ℕ) → i < l.state-index → state_name (get_or STATES i Accepted) ≢ l.text
