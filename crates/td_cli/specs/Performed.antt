-- What the program does with its words, its input and its outputs.
use Rattle.std.specs.Prelude.{◌≡◌, ◌≢◌, ◌⊎◌, ℕ, List, codes, string_bytes, None, Option, Some, option_map}
use Rattle.std.specs.IoError.{error_kind}
use Rattle.std.specs.declared.io.Error.{Error}
use Rattle.std.specs.declared.io.ErrorKind.TheVariants.{OutOfMemory}
use Rattle.counted_io.specs.declared.counted.Counted.{Counted}
use Rattle.td_words.specs.declared.words.Job.{Job}
use Rattle.td_words.specs.declared.words.Job.TheVariants.{AtDesk, Migrate, Transfer}
use Rattle.td_words.specs.declared.words.NoJob.{NoJob}
use Rattle.td_words.specs.declared.words.Office.{Office}
use Rattle.td_words.specs.declared.words.Records.TheVariants.{File}
use Rattle.td_words.specs.declared.words.Task.{Task}
use Rattle.td_words.specs.declared.words.Task.TheVariants.{Serve, Pipe, Batch, Replay, Report, Check}
use Rattle.td_words.specs.Words.{AsksFor, IsNoJob}
use Rattle.td_cli.specs.Batched.{IsBatched}
use Rattle.td_cli.specs.Checked.{IsChecked}
use Rattle.td_cli.specs.Journaled.{named_desk}
use Rattle.td_cli.specs.Migrated.{IsMigrated}
use Rattle.td_cli.specs.Replayed.{IsJournalReplayed}
use Rattle.td_cli.specs.Reported.{IsReportDone}
use Rattle.td_cli.specs.Served.{IsPipeDone, IsServingDone}
use Rattle.td_cli.specs.Exits.{IsEnded, IsWrittenOut}
use Rattle.td_cli.specs.Told.{IsAnswered}
use Rattle.td_cli.specs.Transferred.{IsTransferred}
use Rattle.td_cli.specs.Worked.{KeepsHeadline, Work}
use Rattle.td_cli.specs.World.{OpensNoFile, Lent, World}
use Rattle.td_cli.specs.declared.exits.Cause.TheVariants.{Of}
use Rattle.td_cli.specs.declared.exits.Word.TheVariants.{NoMemory}

module _ (lent : Lent) (Says : Work → Type 0) where
  -- A task was done at a desk of the office, and how it ended was told, with that status: one stream from the input to the output;
  -- connections; a file of rows; a journal again; a report; or a file was tested. The file is the one at the path that the task names, and
  -- the other that of a journal. `Says` is said of the work that was done at a desk; a report and a check ask nothing of one.
  abbrev pub IsTaskDone : Office → Task → World lent → World lent → ℕ → Type 0
  IsTaskDone office (Pipe records journal) old new status = IsPipeDone lent Says (named_desk office records (option_map string_bytes journal)) old new status
  IsTaskDone office (Serve listening records journal first) old new status =
      IsServingDone lent Says first (named_desk office records (option_map string_bytes journal)) listening old new status
  IsTaskDone office (Batch which csv path journal) old new status =
      IsBatched lent Says (named_desk office (File path) (option_map string_bytes journal)) which (string_bytes csv) old new status
  IsTaskDone office (Replay csv part records) old new status =
      IsJournalReplayed lent Says (named_desk office records None) (string_bytes csv) part old new status
  IsTaskDone office (Report kind path) old new status = IsReportDone lent office.country kind (File path) old new status
  IsTaskDone office (Check path) old new status = IsChecked lent office.country (File path) old new status

  -- A job was done: a task at a desk of an office; or a file was brought to the newest version; or rows were put from one file into
  -- another.
  abbrev pub IsJobDone : Job → World lent → World lent → ℕ → Type 0
  IsJobDone (AtDesk office task) old new status = IsTaskDone office task old new status
  IsJobDone (Migrate path) old new status = IsMigrated lent (string_bytes path) old new status
  IsJobDone (Transfer country what) old new status = IsTransferred lent what country old new status

  -- The words ask for a job, which was done. Or they were given none, for want of memory, or since they ask for help, or for no task at
  -- all: then nothing was read, no file was opened, nothing was asked of the machine, and they were answered.
  abbrev pub IsDoneAsAsked : List (List ℕ) → World lent → World lent → ℕ → Type 0
  IsDoneAsAsked words old new status =
      ((job : Job) × AsksFor words job × IsJobDone job old new status)
      ⊎ ((no_job : NoJob) × IsNoJob words no_job × OpensNoFile lent old new × IsAnswered lent no_job old new status)

-- It was done as the words ask, and the work at the desk keeps the headline, if the desk is clean in the end: its disk has returned what
-- was written.
abbrev pub IsPerformed : (lent : Lent) → List (List ℕ) → World lent → World lent → ℕ → Type 0
IsPerformed lent = IsDoneAsAsked lent KeepsHeadline

-- Words that couldn't be read: there was no memory for them, or they aren't text, and the error's kind says which.
abbrev pub IsUnread : {E : Type 0} → (E → Option (List ℕ)) → Error → Counted E → Counted E → ℕ → Type 0
IsUnread said error errors errors_left status =
    ((error_kind error ≡ OutOfMemory) × IsEnded said (Some (Of NoMemory)) errors errors_left status)
    ⊎ ((error_kind error ≢ OutOfMemory) × (status ≡ 2)
    × IsWrittenOut said errors errors_left (codes "error: the words of the command line aren't UTF-8 text\n"))
