-- What a journal has after a job that was done at a desk which keeps it.
use Rattle.std.specs.Prelude.{ℕ, ℤ, List, map, zip, Option, Result}
use Rattle.std.specs.declared.io.Error.{Error}
use Rattle.http_wire.specs.declared.stream.StreamEnd.{StreamEnd}
use Rattle.sqlite_disk.specs.declared.Disk.{Ghosts}
use Rattle.td_batch.specs.Runs.{IsBatchDone, outcomes_of, tried}
use Rattle.td_batch.specs.declared.running.BatchRun.{BatchRun}
use Rattle.td_commands.specs.declared.command.Command.{Command}
use Rattle.td_model.specs.Content.{IsSound}
use Rattle.td_desk.specs.View.{DeskView}
use Rattle.td_jobs.specs.Batched.{HasDoneRows, header_of, result_line}
use Rattle.td_jobs.specs.Jobs.{DeskAndMachine, JobState}
use Rattle.td_jobs.specs.Listening.{HasServed, ServingState}
use Rattle.td_jobs.specs.Piped.{IsPiped}
use Rattle.td_journal.specs.Growth.{HasGrown, answered, answered_over, answered_rows}
use Rattle.td_journal.specs.Journaled.{journaled}
use Rattle.td_journal.specs.declared.desk.JournaledDesk.{JournaledDesk}
use Rattle.td_machine.specs.Machine.{Around}
use Rattle.td_words.specs.declared.words.BatchKind.{BatchKind}

-- What was said of a desk that keeps a journal: it began with sound content, and in the end it is clean, and no fault has shut it.
pub record EndsWell {D F : Type 0} {g : Ghosts F} (view : DeskView D) (begun stopped : JournaledDesk D F g) : Type 0 where
  pub sound : IsSound (view.content begun.desk)
  pub clean : view.is_clean stopped.desk
  pub live : (journaled view).is_live stopped

-- The journal grew by the rows of the accepted changes among a stream's answered requests.
abbrev pub StreamIsKept : {D F R W C : Type 0} (g : Ghosts F) → DeskView D → (R → Option (List ℕ)) → (W → Option (List ℕ)) → (C → ℤ → C → Type 0) → Type 0
StreamIsKept {D} {F} {R} {W} {C} g view remaining contents ticks =
    (old new : JobState (JournaledDesk D F g) R W C) (end : StreamEnd) → (piped : IsPiped (journaled view) remaining contents ticks old new end)
    → EndsWell view old.desk new.desk → HasGrown view (answered 0 piped.served.run.exchanges) old.desk new.desk

-- By those among the answered requests of all connections, in the order in which they were served.
abbrev pub ServingIsKept : {D F M L Reads Writes C : Type 0} (g : Ghosts F) → DeskView D → Around M L Reads Writes → (C → ℤ → C → Type 0) → Type 0
ServingIsKept {D} {F} {L = L} {C = C} g view around ticks =
    (connections : ℕ) (old new : ServingState L C (JournaledDesk D F g)) (answer : Result Unit Error)
    → (served : HasServed (journaled view) around ticks connections old new answer)
    → EndsWell view old.desk new.desk
    → HasGrown view (answered_over (map (λ connection. connection.exchanges) served.served.all_served)) old.desk new.desk

-- By those among the rows of a batch that were answered, at the batch's moment.
abbrev pub BatchIsKept : {D F M : Type 0} (g : Ghosts F) → DeskView D → (M → ℤ → M → Type 0) → Type 0
BatchIsKept {D} {F} {M} g view ticks =
    (at : Option ℤ) (which : BatchKind) (commands : List Command) (old new : DeskAndMachine (JournaledDesk D F g) M) (r : BatchRun)
    → (rows : HasDoneRows (journaled view) ticks at which commands old new r)
    → (done : IsBatchDone (journaled view) (result_line which) (header_of which) rows.moment commands r old.desk new.desk)
    → EndsWell view old.desk new.desk
    → HasGrown view (answered_rows rows.moment (zip (tried commands done.said r.stopped) (outcomes_of done.said r.stopped))) old.desk new.desk
