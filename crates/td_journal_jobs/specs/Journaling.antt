-- A job that is done at a desk which keeps a journal.
use Rattle.std.specs.Prelude.{◌≡◌, true, None, Result, Ok, Err}
use Rattle.sqlite_disk.specs.declared.Disk.{Ghosts}
use Rattle.td_desk.specs.View.{DeskView}
use Rattle.td_journal.specs.Journal.{IsDurable, IsTight, is_open}
use Rattle.td_journal.specs.Journaled.{journaled, waiting}
use Rattle.td_journal.specs.declared.desk.JournaledDesk.{JournaledDesk}
use Rattle.td_journal_start.specs.Starts.{IsStartRefused, IsStarted}
use Rattle.td_journal_start.specs.declared.refused.StartFault.{StartFault}
use Rattle.td_journal_jobs.specs.declared.journaling.Journaled.{Journaled}

-- What a desk that keeps a journal begins with: its journal was started on the file, which has that text alone, on the disk; rows can
-- be written, and none waits to be.
pub record BeginsJournal {D F : Type 0} {g : Ghosts F} (view : DeskView D) (opened : D) (file : F) (begun : JournaledDesk D F g) : Type 0 where
  pub started : IsStarted view opened file begun
  pub open_is : is_open begun.journal ≡ true
  pub tight : IsTight begun.journal
  pub durable : IsDurable begun.journal
  pub none : waiting begun ≡ None

-- a desk and the file of its journal, handed in or handed back
pub record DeskAndFile (D F : Type 0) : Type 0 where
  pub desk : D
  pub file : F

module _ {D F End : Type 0} (g : Ghosts F) (view : DeskView D) (did : (E : Type 0) → DeskView E → E → E → End → Type 0) (untouched : Type 0)
    (old new : DeskAndFile D F) where
  -- The journal in the file was begun for the desk as it was opened, and the job was done at the desk around it; the desk and the file
  -- are handed back as that one left them. Or the journal wasn't begun, for this fault: then what the job works on is untouched.
  abbrev pub HasJournaledTo : Result End StartFault → Type 0
  HasJournaledTo (Ok end) =
      (begun : JournaledDesk D F g) × (stopped : JournaledDesk D F g) × BeginsJournal view old.desk old.file begun
      × did (JournaledDesk D F g) (journaled view) begun stopped end × (new.desk ≡ stopped.desk) × (new.file ≡ stopped.journal.file)
  HasJournaledTo (Err why) = untouched × IsStartRefused view g old.desk old.file why new.desk new.file

abbrev pub HasJournaled : {D F End : Type 0} (g : Ghosts F) → DeskView D → D → D → F → ((E : Type 0) → DeskView E → E → E → End → Type 0) → Type 0
    → Journaled End F → Type 0
HasJournaled g view opened left file did untouched ended =
    HasJournaledTo g view did untouched (record { desk = opened; file = file }) (record { desk = left; file = ended.file }) ended.end
