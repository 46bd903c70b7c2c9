-- A job that is done at a desk once the desk has followed a journal.
use Rattle.std.specs.Prelude.{◌≡◌, ℕ, List, Option, Result, Ok, Err}
use Rattle.counted_io.specs.declared.counted.Counted.{Counted}
use Rattle.td_desk.specs.View.{DeskView}
use Rattle.td_jobs.specs.Jobs.{JobState, state_of}
use Rattle.td_replay.specs.Following.{Follows}
use Rattle.td_replay.specs.declared.following.FollowFault.{FollowFault}

-- The rows of a journal that came by the input were followed to its end, and then the other job was done, at the desk as they left it
-- and with what was left of the input. Or they weren't followed to the end, for this fault, and the other job wasn't begun: nothing was
-- printed, and nothing asked of the machine.
abbrev pub DoesAfter : {D R W M End : Type 0} → DeskView D → (R → Option (List ℕ)) → JobState D R W M → JobState D R W M
    → (JobState D R W M → End → Type 0) → Result End FollowFault → Type 0
DoesAfter {D} {R} view remaining old new did (Ok end) =
    (begun : D) × (read : Counted R) × (count : ℕ) × Follows view remaining old.desk old.input begun read (Ok count)
    × did (state_of begun read old.output old.machine) end
DoesAfter view remaining old new did (Err why) =
    (new.output ≡ old.output) × (new.machine ≡ old.machine) × Follows view remaining old.desk old.input new.desk new.input (Err why)
