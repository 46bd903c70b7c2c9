-- The days and offices that a movement has in each state.
-- The days by which something is due for a movement, by their numbers.
use Rattle.std.specs.Prelude.{◌≡◌, None, IfSome, IsSome, ℕ, ◌+◌, nat_lt, nat_le, Bool, if◌then◌else◌, Option, Some}
use Rattle.std.specs.Option.{is_some}
use Rattle.td_base.specs.Codes.{IsOfficeNo}
use Rattle.td_base.specs.Days.{IsDay}
use Rattle.td_movement.specs.declared.movement.Movement.{Movement}
use Rattle.td_movement.specs.declared.state.State.{State}
use Rattle.td_movement.specs.declared.state.State.TheVariants.{Accepted, Cancelled, Released, Enquired, Arrived, Discrepant, Cleared, WrittenOff}
use Rattle.td_movement.specs.declared.times.Overdue.{Overdue}
use Rattle.td_movement.specs.declared.times.Overdue.TheVariants.{Arrival, Control}

-- it has neither arrived
abbrev pub IsUnderWay : Movement → Type 0
IsUnderWay m = (m.arrival ≡ None) × (m.actual ≡ None)

-- nor been released
abbrev pub IsUnreleased : Movement → Type 0
IsUnreleased m = (m.limit ≡ None) × IsUnderWay m

-- it was released and has arrived
abbrev pub HasArrived : Movement → Type 0
HasArrived m = IsSome m.limit × IsSome m.arrival × IsSome m.actual

-- The limit comes with the release, the day and office of arrival with the arrival. What is written off was
-- released, and has arrived or was asked after.
abbrev pub HasDaysOf : State → Movement → Type 0
HasDaysOf Accepted m = IsUnreleased m
HasDaysOf Cancelled m = IsUnreleased m
HasDaysOf Released m = IsSome m.limit × IsUnderWay m
HasDaysOf Enquired m = IsSome m.limit × IsUnderWay m
HasDaysOf Arrived m = HasArrived m
HasDaysOf Discrepant m = HasArrived m
HasDaysOf Cleared m = HasArrived m
HasDaysOf WrittenOff m = IsSome m.limit × (is_some m.arrival ≡ is_some m.actual)

-- the days and offices are those that the state asks for, and in their ranges
pub record IsStatus (m : Movement) : Type 0 where
  pub days : HasDaysOf m.state m
  pub limit : IfSome m.limit IsDay
  pub arrival : IfSome m.arrival IsDay
  pub actual : IfSome m.actual IsOfficeNo

-- from the seventh day after the limit on an office may ask after a movement
abbrev pub enquiry_is_open : ℕ → ℕ → Bool
enquiry_is_open limit day = nat_le (limit + 7) day

-- arrival is overdue after the limit
abbrev pub overdue_arrival : Option ℕ → ℕ → Option Overdue
overdue_arrival None report = None
overdue_arrival (Some limit) report = if nat_lt limit report then Some (Arrival limit) else None

-- control is due on the sixth day after the arrival, and overdue after it
abbrev pub overdue_control : Option ℕ → ℕ → Option Overdue
overdue_control None report = None
overdue_control (Some arrival) report = if nat_lt (arrival + 6) report then Some (Control (arrival + 6)) else None

-- what a movement in that state is overdue for on the day of a report
abbrev pub overdue : State → Option ℕ → Option ℕ → ℕ → Option Overdue
overdue Released limit arrival report = overdue_arrival limit report
overdue Enquired limit arrival report = overdue_arrival limit report
overdue Arrived limit arrival report = overdue_control arrival report
overdue state limit arrival report = None
