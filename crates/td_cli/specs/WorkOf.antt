-- The parts of the work that a job did at a desk, by what is said of the job.
use Rattle.std.proofs.Common.{inl, inr}
use Rattle.std.specs.Prelude.{ℕ, ℤ, List, [], ◌∷◌, ◌++◌, map, Option, None, Some, Result, Ok, Err}
use Rattle.std.specs.declared.io.Error.{Error}
use Rattle.counted_io.specs.declared.counted.Counted.{Counted}
use Rattle.http_wire.specs.declared.stream.StreamEnd.{StreamEnd}
use Rattle.td_desk.specs.View.{DeskView}
use Rattle.td_desk.specs.declared.running.Outcome.TheVariants as outcome
use Rattle.td_batch.specs.Runs.{IsRunOf}
use Rattle.td_batch.specs.declared.running.BatchRun.{BatchRun}
use Rattle.td_commands.specs.declared.command.Command.{Command}
use Rattle.td_commands.specs.declared.said.Said.{Said}
use Rattle.td_jobs.specs.Jobs.{JobState, KnownJob, state_of}
use Rattle.td_jobs.specs.Listening.{HasServedAt, PrintingState, ServerState, ServesAs, ServesThere, ServingState, listening_from}
use Rattle.td_jobs.specs.Piped.{IsPipedAt}
use Rattle.td_jobs.specs.declared.serving.ServingEnd.{ServingEnd}
use Rattle.td_jobs.specs.declared.serving.ServingEnd.TheVariants.{Done, NoMemory, Socket, Write}
use Rattle.td_journal_jobs.specs.Following.{DoesAfter}
use Rattle.td_journal_jobs.specs.Standby.{said_to}
use Rattle.td_journal_lines.specs.Lines.{Numbered}
use Rattle.td_machine.specs.Machine.{Around}
use Rattle.td_replay.specs.Following.{AreToldAgain, Follows, RowFails}
use Rattle.td_replay.specs.Replays.{IsReplayOf, stamped_of, tried_rows}
use Rattle.td_replay.specs.declared.following.FollowFault.{FollowFault}
use Rattle.td_replay.specs.declared.following.FollowFault.TheVariants.{BadRow, Misplaced, Differs, Unread, Failed}
use Rattle.td_replay.specs.declared.replaying.ReplayRun.{ReplayRun}
use Rattle.td_words.specs.declared.words.Listening.{Listening}
use Rattle.td_cli.specs.BatchLaws.{commands_tried, outcomes_tried}
use Rattle.td_cli.specs.Parts.{Part, rows, stream}

-- the stream that was served
abbrev pub part_piped : {D R W M L Reads Writes : Type 0} (view : DeskView D) (known : KnownJob R W M L Reads Writes) (at : Option ℤ)
    (old new : JobState D R W M) (end : StreamEnd) → IsPipedAt view known at old new end → List Part
part_piped view known (Some at) old new end piped = stream piped.1.1.served.run.exchanges ∷ []
part_piped view known None old new end piped = stream piped.served.run.exchanges ∷ []

-- those of the connections that were served
abbrev pub parts_served : {D M L Reads Writes : Type 0} (view : DeskView D) (around : Around M L Reads Writes) (at : Option ℤ) (connections : ℕ)
    (old new : ServingState L M D) (answer : Result Unit Error) → HasServedAt view around at connections old new answer → List Part
parts_served view around (Some at) connections old new answer served =
    map (λ es. stream es) (map (λ connection. connection.exchanges) served.1.1.served.all_served)
parts_served view around None connections old new answer served =
    map (λ es. stream es) (map (λ connection. connection.exchanges) served.served.all_served)

module _ {D R W M L Reads Writes : Type 0} (view : DeskView D) (known : KnownJob R W M L Reads Writes) (at : Option ℤ) (listening : Listening) where
  abbrev pub parts_there : (end : ServingEnd) (old new : PrintingState L M D W)
      → ServesThere view known.contents known.around at listening end old new → List Part
  parts_there Done old new serves = parts_served view known.around at listening.connections _ _ _ serves.1.1
  parts_there NoMemory old new serves = []
  parts_there Socket old new serves = parts_served view known.around at listening.connections _ _ _ serves.1.1
  parts_there Write old new (inl cut) = []
  parts_there Write old new (inr serves) = parts_served view known.around at listening.connections _ _ _ serves.1.1

  abbrev pub parts_listened : (end : ServingEnd) (old new : ServerState D W M)
      → ServesAs view known.contents known.around at listening end old new → List Part
  parts_listened end old new (inl not) = []
  parts_listened end old new (inr listened) =
      parts_there end (listening_from listened.came listened.begun old) (listening_from listened.gone listened.ended new) listened.serves

-- the rows of a batch that were tried
abbrev pub part_batched : {D : Type 0} {view : DeskView D} {line : Command → Said → List ℕ} {header : List ℕ} {old new : D}
    (at : ℤ) (commands : List Command) (r : BatchRun) → IsRunOf view line header at commands r old new → List Part
part_batched at commands r ran = rows (commands_tried at commands r ran) (outcomes_tried at commands r ran) ∷ []

-- the rows of a journal that were tried, done again
abbrev pub part_replayed : {D : Type 0} (view : DeskView D) (numbered : List Numbered) (run : ReplayRun) (old new : D)
    → IsReplayOf view numbered run old new → List Part
part_replayed view numbered run old new (inl not) = []
part_replayed view numbered run old new (inr done) = rows (tried_rows numbered done.outcomes) done.outcomes ∷ []

module _ {D : Type 0} (view : DeskView D) where
  -- the rows of a journal that were followed
  abbrev pub part_followed : (opened desk : D) (numbered : List Numbered) → AreToldAgain view numbered opened desk → Part
  part_followed opened desk numbered told = rows (map stamped_of numbered) (said_to told.said)

  -- and the one behind them that wasn't told what it has
  abbrev pub parts_failed : (r : Numbered) (old new : D) (why : FollowFault) → RowFails view r old new why → List Part
  parts_failed r old new (Differs n) fails = rows (stamped_of r ∷ []) (outcome.Said fails.1.words ∷ []) ∷ []
  parts_failed r old new (Failed why) fails = rows (stamped_of r ∷ []) (fails.outcome_is ∷ []) ∷ []
  parts_failed r old new (BadRow n) fails = []
  parts_failed r old new (Misplaced n) fails = []
  parts_failed r old new Unread fails = []

  abbrev pub parts_followed : {R : Type 0} (remaining : R → Option (List ℕ)) (opened left : D) (reader reader_left : Counted R) (end : Result ℕ FollowFault)
      → Follows view remaining opened reader left reader_left end → List Part
  parts_followed remaining opened left reader reader_left (Ok count) all = part_followed opened left all.rows all.followed.done ∷ []
  parts_followed remaining opened left reader reader_left (Err why) (inl stops) = part_followed opened left stops.rows stops.followed.done ∷ []
  parts_followed remaining opened left reader reader_left (Err why) (inr (inl stops)) =
      part_followed opened stops.desk stops.rows stops.followed.done ∷ parts_failed stops.row stops.desk left why stops.fails
  parts_followed remaining opened left reader reader_left (Err why) (inr (inr stops)) = part_followed opened left stops.rows stops.followed.done ∷ []

  -- the rows that were followed, and what was done after them
  abbrev pub parts_after : {R W M End : Type 0} (remaining : R → Option (List ℕ)) (old new : JobState D R W M)
      (did : JobState D R W M → End → Type 0) → ((begun : JobState D R W M) (end : End) → did begun end → List Part)
      → (end : Result End FollowFault) → DoesAfter view remaining old new did end → List Part
  parts_after remaining old new did parts (Ok end) is =
      parts_followed remaining old.desk is.0 old.input is.1 (Ok is.2) is.3 ++ parts (state_of is.0 is.1 old.output old.machine) end is.4
  parts_after remaining old new did parts (Err why) is = parts_followed remaining old.desk new.desk old.input new.input (Err why) is.2
