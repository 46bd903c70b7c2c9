-- The work of a job keeps the headline, wherever the desk's records stand: each desk is ready as the job begins.
use Rattle.std.proofs.Common.{ℕ, List, true, false, Bool, Option, None, Some, Result, Ok, Err, sym, subst, inl, inr}
use Rattle.std.specs.Prelude.{option_map, string_bytes}
use Rattle.http_wire.specs.declared.stream.StreamEnd.{StreamEnd}
use Rattle.sqlite.specs.Files.{image_of}
use Rattle.sqlite_disk.specs.declared.Disk.{Ghosts}
use Rattle.td_base.specs.Codes.{IsCountry}
use Rattle.td_commands.specs.declared.command.Command.{Command}
use Rattle.td_model.proofs.Kept.{empty_sound}
use Rattle.td_model.specs.Content.{IsSound}
use Rattle.td_desk.specs.View.{DeskView}
use Rattle.td_desk.specs.declared.plain.PlainDesk.{PlainDesk}
use Rattle.td_files.specs.Found.{FileHeld, FileSeen, over_file}
use Rattle.td_files.specs.declared.desks.DeskFault.{DeskFault}
use Rattle.td_jobs.specs.Batched.{commands_of, kind_of}
use Rattle.td_jobs.specs.Desks.{BeginsEmpty, IsReady, in_memory}
use Rattle.td_jobs.specs.Listening.{without_input}
use Rattle.td_jobs.specs.declared.serving.ServingEnd.{ServingEnd}
use Rattle.td_journal.specs.Journaled.{journaled}
use Rattle.td_journal_jobs.proofs.Ready.{begun_ready}
use Rattle.td_journal_jobs.specs.Journaling.{DeskAndFile, HasJournaled, HasJournaledTo}
use Rattle.td_journal_lines.specs.Lines.{Numbered}
use Rattle.td_journal_start.specs.declared.refused.StartFault.{StartFault}
use Rattle.td_machine.specs.Drive.{KnownDrive}
use Rattle.td_replay.specs.declared.following.FollowFault.{FollowFault}
use Rattle.td_words.specs.Words.{AsksFor}
use Rattle.td_words.specs.declared.words.BatchKind.{BatchKind}
use Rattle.td_words.specs.declared.words.Job.{Job}
use Rattle.td_words.specs.declared.words.Job.TheVariants as job
use Rattle.td_words.specs.declared.words.Listening.{Listening}
use Rattle.td_words.specs.declared.words.Office.{Office}
use Rattle.td_words.specs.declared.words.Records.{Records}
use Rattle.td_words.specs.declared.words.Records.TheVariants.{Memory, File, NewFile}
use Rattle.td_words.specs.declared.words.Task.{Task}
use Rattle.td_words.specs.declared.words.Task.TheVariants.{Serve, Pipe, Batch, Replay, Report, Check}
use Rattle.td_cli.specs.AtDesk.{AtDesk}
use Rattle.td_cli.specs.Batched.{IsBatchAtDesk, IsBatched}
use Rattle.td_cli.specs.Journaled.{NamedDesk, WithJournal, WithJournalAt, named_desk}
use Rattle.td_cli.specs.Parts.{Part}
use Rattle.td_cli.specs.Performed.{IsDoneAsAsked, IsJobDone, IsPerformed, IsTaskDone}
use Rattle.td_cli.specs.Replayed.{IsJournalReplayed, IsReplayAtDesk}
use Rattle.td_cli.specs.Served.{IsServing, PipesAs, ServesAfter, StandsBy, server_at}
use Rattle.td_cli.specs.WorkOf.{parts_listened}
use Rattle.td_cli.specs.Worked.{AnyWork, IfClean, KeepsHeadline}
use Rattle.td_cli.specs.World.{Lent, World, job_at, known_job}
use Rattle.td_cli.proofs.Desks.{kept_ready, made_ready}
use Rattle.td_cli.proofs.WorkTold.{IsWorkTold, after_told, batch_told, headline, listened_back, listened_told, pipe_told, replay_told}

-- ---- at a desk

-- a desk in memory is ready
empty_ready : (country : List ℕ) (d : PlainDesk) → IsCountry country → BeginsEmpty country d → IsReady in_memory d
empty_ready country d form empty clean =
    (tt, subst IsSound (sym empty) (empty_sound country form))

module _ {End : Type 0} (did said : (D : Type 0) → DeskView D → D → D → End → Type 0)
    (says : (D : Type 0) (view : DeskView D) (opened left : D) (end : End) → IsReady view opened → did D view opened left end → said D view opened left end) where
  at_desk_as : {V S : Type 0} {disk : Ghosts S} (drive : KnownDrive V S) (country : List ℕ) (untouched : Type 0) (before file : FileHeld V disk)
      → IsCountry country → (records : Records) (end : Result End DeskFault)
      → AtDesk drive country records did untouched before file end → AtDesk drive country records said untouched before file end
  at_desk_as drive country untouched before file form Memory (Ok end) at =
      ((at.0.0, at.0.1, at.0.2, says PlainDesk in_memory at.0.0 at.0.1 end (empty_ready country at.0.0 form at.0.2) at.0.3), at.1)
  at_desk_as {S = S} {disk = disk} drive country untouched before file form (File path) (Ok end) at =
      let (files, opens, kept) = at.4 in
      (at.0, at.1, at.2, at.3, at.4, says (FileSeen disk) over_file at.0 at.1 end (kept_ready (image_of disk files) country at.0 kept) at.5)
  at_desk_as {S = S} {disk = disk} drive country untouched before file form (NewFile path) (Ok end) at =
      let (files, opens, made) = at.4 in
      (at.0, at.1, at.2, at.3, at.4, says (FileSeen disk) over_file at.0 at.1 end (made_ready (image_of disk files) country at.0 made) at.5)
  at_desk_as drive country untouched before file form Memory (Err why) at = at
  at_desk_as drive country untouched before file form (File path) (Err why) at = at
  at_desk_as drive country untouched before file form (NewFile path) (Err why) at = at

  journaled_as : {D F : Type 0} (g : Ghosts F) (view : DeskView D) (untouched : Type 0) (old new : DeskAndFile D F) → IsReady view old.desk
      → (end : Result End StartFault) → HasJournaledTo g view did untouched old new end → HasJournaledTo g view said untouched old new end
  journaled_as g view untouched old new ready (Ok end) (begun, stopped, begins, done, desk, is) =
      (begun, stopped, begins, says _ (journaled view) begun stopped end (begun_ready view old.desk old.file begun begins ready) done, desk, is)
  journaled_as g view untouched old new ready (Err why) is = is

module _ {End : Type 0} (lent : Lent) (desk : NamedDesk) (did said : (D : Type 0) → DeskView D → D → D → End → Type 0)
    (says : (D : Type 0) (view : DeskView D) (opened left : D) (end : End) → IsReady view opened → did D view opened left end → said D view opened left end)
    (untouched : Type 0) (old new : World lent) (form : IsCountry desk.office.country) where
  with_as_at : (journal : Option (List ℕ)) (end : Result End DeskFault) → WithJournalAt lent desk journal did untouched old new end
      → WithJournalAt lent desk journal said untouched old new end
  with_as_at None end is = (is.0, at_desk_as did said says lent.drive desk.office.country untouched old.file new.file form desk.records end is.1)
  with_as_at (Some path) end (inl none) = inl none
  with_as_at (Some path) end (inr at) = inr (record {
    journal = at.journal;
    opened = at.opened;
    at = at.at;
    ended = at.ended;
    done = at_desk_as (λ D view begun left ended. HasJournaled lent.other_disk view begun left at.journal did untouched ended)
        (λ D view begun left ended. HasJournaled lent.other_disk view begun left at.journal said untouched ended)
        (λ D view begun left ended ready is. journaled_as did said says lent.other_disk view untouched
        (record { desk = begun; file = at.journal }) (record { desk = left; file = ended.file }) ready ended.end is)
        lent.drive desk.office.country untouched old.file new.file form desk.records at.ended at.done;
    file_is = at.file_is;
    drive_is = at.drive_is;
    connection = at.connection;
    unopened = at.unopened;
    end_is = at.end_is;
  })

  with_as : (end : Result End DeskFault) → WithJournal lent desk did untouched old new end → WithJournal lent desk said untouched old new end
  with_as end is = with_as_at desk.journal end is

-- ---- each job

-- what is shown of work is the headline
keeps : {D : Type 0} (view : DeskView D) (opened left : D) (parts : List Part) → (IsReady view opened → IfClean IsWorkTold view opened left parts)
    → IsReady view opened → IfClean KeepsHeadline view opened left parts
keeps view opened left parts shows ready clean = headline _ (shows ready clean)

module _ (lent : Lent) where
  pipe_keeps : (desk : NamedDesk) (old new : World lent) → IsCountry desk.office.country → (end : Result StreamEnd DeskFault)
      → PipesAs lent AnyWork desk old new end → PipesAs lent KeepsHeadline desk old new end
  pipe_keeps desk old new form end is =
      with_as lent desk _ _
      (λ D view opened left end ready (piped, any). (
        piped,
        keeps view opened left _ (pipe_told view (known_job lent) desk.office.at (job_at lent opened old) (job_at lent left new) end piped) ready,
      ))
      _ old new form end is

  serving_keeps : (desk : NamedDesk) (listening : Listening) (old new : World lent) → IsCountry desk.office.country → (end : Result ServingEnd DeskFault)
      → IsServing lent AnyWork desk listening old new end → IsServing lent KeepsHeadline desk listening old new end
  serving_keeps desk listening old new form end is =
      with_as lent desk _ _
      (λ D view opened left end ready (unread, served, any). (
        unread,
        served,
        keeps view opened left _ (listened_told view (known_job lent) desk.office.at listening end (server_at lent opened old) (server_at lent left new) served) ready,
      ))
      _ old new form end is

  standby_keeps : (desk : NamedDesk) (listening : Listening) (old new : World lent) → IsCountry desk.office.country
      → (end : Result (Result ServingEnd FollowFault) DeskFault) → StandsBy lent AnyWork desk listening old new end
      → StandsBy lent KeepsHeadline desk listening old new end
  standby_keeps desk listening old new form end is =
      with_as lent desk _ _
      (λ D view opened left end ready (stood, any). (
        stood,
        keeps view opened left _
            (after_told view lent.input (job_at lent opened old) (job_at lent left new) (ServesAfter lent desk listening view left new)
            (λ begun end served. parts_listened view (known_job lent) desk.office.at listening end (without_input begun) (server_at lent left new) served.1)
            (λ begun end served. listened_told view (known_job lent) desk.office.at listening end (without_input begun) (server_at lent left new) served.1)
            (λ begun end served. listened_back view (known_job lent) desk.office.at listening end (without_input begun) (server_at lent left new) served.1)
            end stood)
            ready,
      ))
      _ old new form end is

  batch_keeps : (desk : NamedDesk) (which : BatchKind) (commands : List Command) (old new : World lent) (status : ℕ) → IsCountry desk.office.country
      → IsBatchAtDesk lent AnyWork desk which commands old new status → IsBatchAtDesk lent KeepsHeadline desk which commands old new status
  batch_keeps desk which commands old new status form (end, done, told) = (
    end,
    with_as lent desk _ _
        (λ D view opened left r ready (rows, any). (rows, keeps view opened left _ (batch_told view rows.moment commands r opened left rows.ran) ready))
        _ old new form end done,
    told,
  )

  batched_keeps : (desk : NamedDesk) (which : BatchKind) (csv : List ℕ) (old new : World lent) (status : ℕ) → IsCountry desk.office.country
      → IsBatched lent AnyWork desk which csv old new status → IsBatched lent KeepsHeadline desk which csv old new status
  batched_keeps desk which csv old new status form (unread, Err why, read, are, none) = (unread, Err why, read, are, none)
  batched_keeps desk which csv old new status form (unread, Ok rows, read, are, done) =
      (unread, Ok rows, read, are, batch_keeps desk (kind_of rows) (commands_of rows) (record old { machine = read }) new status form done)

  replay_keeps : (desk : NamedDesk) (numbered : List Numbered) (old new : World lent) (status : ℕ) → IsCountry desk.office.country
      → IsReplayAtDesk lent AnyWork desk numbered old new status → IsReplayAtDesk lent KeepsHeadline desk numbered old new status
  replay_keeps desk numbered old new status form (end, done, told) = (
    end,
    at_desk_as _ _ (λ D view opened left run ready (replayed, any). (replayed, keeps view opened left _ (replay_told view numbered run opened left replayed) ready))
        lent.drive desk.office.country (Unit {0}) old.file new.file form desk.records end done,
    told,
  )

  replayed_keeps : (desk : NamedDesk) (csv : List ℕ) (part : Bool) (old new : World lent) (status : ℕ) → IsCountry desk.office.country
      → IsJournalReplayed lent AnyWork desk csv part old new status → IsJournalReplayed lent KeepsHeadline desk csv part old new status
  replayed_keeps desk csv part old new status form (inl none) = inl none
  replayed_keeps desk csv part old new status form (inr (bytes, read, has, (opens, inl none))) = inr (bytes, read, has, (opens, inl none))
  replayed_keeps desk csv part old new status form (inr (bytes, read, has, (opens, inr (numbered, are, done)))) =
      inr (bytes, read, has, (opens, inr (numbered, are, replay_keeps desk numbered (record old { machine = read }) new status form done)))

  task_keeps : (office : Office) (task : Task) (old new : World lent) (status : ℕ) → IsCountry office.country
      → IsTaskDone lent AnyWork office task old new status → IsTaskDone lent KeepsHeadline office task old new status
  task_keeps office (Pipe records journal) old new status form (end, pipes, ended) =
      (end, pipe_keeps (named_desk office records (option_map string_bytes journal)) old new form end pipes, ended)
  task_keeps office (Serve listening records journal false) old new status form (end, serves, ended) =
      (end, serving_keeps (named_desk office records (option_map string_bytes journal)) listening old new form end serves, ended)
  task_keeps office (Serve listening records journal true) old new status form (end, stands, ended) =
      (end, standby_keeps (named_desk office records (option_map string_bytes journal)) listening old new form end stands, ended)
  task_keeps office (Batch which csv path journal) old new status form done =
      batched_keeps (named_desk office (File path) (option_map string_bytes journal)) which (string_bytes csv) old new status form done
  task_keeps office (Replay csv part records) old new status form done =
      replayed_keeps (named_desk office records None) (string_bytes csv) part old new status form done
  task_keeps office (Report kind path) old new status form done = done
  task_keeps office (Check path) old new status form done = done

  job_keeps : (words : List (List ℕ)) (asked : Job) (old new : World lent) (status : ℕ) → AsksFor words asked
      → IsJobDone lent AnyWork asked old new status → IsJobDone lent KeepsHeadline asked old new status
  job_keeps words (job.AtDesk office task) old new status asks done = task_keeps office task old new status asks.is.1.country.form done
  job_keeps words (job.Migrate path) old new status asks done = done
  job_keeps words (job.Transfer country what) old new status asks done = done

  -- what is done as the words ask is done with the headline
  pub performed : (words : List (List ℕ)) (old new : World lent) (status : ℕ) → IsDoneAsAsked lent AnyWork words old new status
      → IsPerformed lent words old new status
  performed words old new status (inl (asked, asks, done)) = inl (asked, asks, job_keeps words asked old new status asks done)
  performed words old new status (inr none) = inr none
