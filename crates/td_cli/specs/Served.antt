-- A stream served at a desk, and connections to a port: at once, or by a standby desk, once it has followed a journal.
use Rattle.std.specs.Prelude.{◌≡◌, ℕ, Bool, true, false, Result}
use Rattle.td_desk.specs.View.{DeskView}
use Rattle.td_files.specs.declared.desks.DeskFault.{DeskFault}
use Rattle.http_wire.specs.declared.stream.StreamEnd.{StreamEnd}
use Rattle.td_jobs.specs.Jobs.{JobState}
use Rattle.td_jobs.specs.Listening.{ServerState, ServesAs, server_of, without_input}
use Rattle.td_jobs.specs.Piped.{IsPipedAt}
use Rattle.td_jobs.specs.declared.serving.ServingEnd.{ServingEnd}
use Rattle.td_journal_jobs.specs.Following.{DoesAfter}
use Rattle.td_replay.specs.declared.following.FollowFault.{FollowFault}
use Rattle.td_words.specs.declared.words.Listening.{Listening}
use Rattle.td_cli.specs.Exits.{IsEnded, of_job, of_serving, of_standby, of_stream}
use Rattle.td_cli.specs.Journaled.{NamedDesk, WithJournal}
use Rattle.td_cli.specs.WorkOf.{part_piped, parts_after, parts_listened}
use Rattle.td_cli.specs.Worked.{IfClean, Work}
use Rattle.td_cli.specs.World.{IsIdle, Lent, World, job_at, known_job}

module _ (lent : Lent) where
  -- what a serving has of the world
  abbrev pub server_at : {D : Type 0} → D → World lent → ServerState D lent.Output lent.Machine
  server_at desk world = server_of desk world.output world.machine

  -- connections were served after what was begun
  abbrev pub ServesAfter : {D : Type 0} → NamedDesk → Listening → DeskView D → D → World lent
      → JobState D lent.Input lent.Output lent.Machine → ServingEnd → Type 0
  ServesAfter desk listening view left new begun end =
      (new.input ≡ begun.input)
      × ServesAs view lent.output lent.machine desk.office.at listening end (without_input begun) (server_at left new)

module _ (lent : Lent) (Says : Work → Type 0) where
  -- What a job leaves that serves one stream at the office's desk whose records stand there, and which keeps this journal, if one is named.
  -- Where there was a desk, the stream was served, and `Says` is said of that work.
  abbrev pub PipesAs : NamedDesk → World lent → World lent → Result StreamEnd DeskFault → Type 0
  PipesAs desk old new end =
      WithJournal lent desk
      (λ D view opened left end. (piped : IsPipedAt view (known_job lent) desk.office.at (job_at lent opened old) (job_at lent left new) end)
      × IfClean Says view opened left (part_piped view (known_job lent) desk.office.at (job_at lent opened old) (job_at lent left new) end piped))
      (IsIdle lent old new) old new end

  -- a stream was served, and how it ended was told
  abbrev pub IsPipeDone : NamedDesk → World lent → World lent → ℕ → Type 0
  IsPipeDone desk old new status =
      (end : Result StreamEnd DeskFault) × PipesAs desk old new end
      × IsEnded lent.errors (of_job of_stream end) old.errors new.errors status

  -- What a serving leaves at the office's desk whose records stand there, and which keeps this journal, if one is named: the input isn't
  -- read, and where there was a desk, this is said of how the serving ended, and `Says` of its work.
  abbrev pub IsServing : NamedDesk → Listening → World lent → World lent → Result ServingEnd DeskFault → Type 0
  IsServing desk listening old new end =
      WithJournal lent desk
      (λ D view opened left end.
      (new.input ≡ old.input)
      × (served : ServesAs view lent.output lent.machine desk.office.at listening end (server_at lent opened old) (server_at lent left new))
      × IfClean Says view opened left (parts_listened view (known_job lent) desk.office.at listening end (server_at lent opened old) (server_at lent left new) served))
      (IsIdle lent old new) old new end

  -- What a standby desk leaves. Where there was a desk, it followed the journal that came by the input to its end, and then served, from
  -- where the rows had left it; or it didn't follow it to the end, and then nothing was printed or asked of the machine, so that no port
  -- was opened. `Says` is said of the rows and of what was served.
  abbrev pub StandsBy : NamedDesk → Listening → World lent → World lent → Result (Result ServingEnd FollowFault) DeskFault → Type 0
  StandsBy desk listening old new end =
      WithJournal lent desk
      (λ D view opened left end.
      (stood : DoesAfter view lent.input (job_at lent opened old) (job_at lent left new) (ServesAfter lent desk listening view left new) end)
      × IfClean Says view opened left (parts_after view lent.input (job_at lent opened old) (job_at lent left new) (ServesAfter lent desk listening view left new)
      (λ begun end served. parts_listened view (known_job lent) desk.office.at listening end (without_input begun) (server_at lent left new) served.1) end stood))
      (IsIdle lent old new) old new end

  -- connections were served, once a journal was followed or at once, and how that ended was told
  abbrev pub IsServingDone : Bool → NamedDesk → Listening → World lent → World lent → ℕ → Type 0
  IsServingDone false desk listening old new status =
      (end : Result ServingEnd DeskFault) × IsServing desk listening old new end
      × IsEnded lent.errors (of_job of_serving end) old.errors new.errors status
  IsServingDone true desk listening old new status =
      (end : Result (Result ServingEnd FollowFault) DeskFault) × StandsBy desk listening old new end
      × IsEnded lent.errors (of_job of_standby end) old.errors new.errors status
