-- One way to a desk for every job that may keep a journal.
use Rattle.std.specs.Prelude.{◌≡◌, ◌⊎◌, ℕ, List, Option, None, Some, Result, Ok, Err}
use Rattle.td_desk.specs.View.{DeskView}
use Rattle.td_files.specs.Found.{FileHeld, HasNoJournal, IsJournalAt}
use Rattle.td_files.specs.declared.desks.DeskFault.{DeskFault}
use Rattle.td_journal_jobs.specs.Journaling.{HasJournaled}
use Rattle.td_journal_jobs.specs.declared.journaling.Journaled.{Journaled}
use Rattle.td_journal_start.specs.declared.refused.StartFault.{StartFault}
use Rattle.td_words.specs.declared.words.Office.{Office}
use Rattle.td_words.specs.declared.words.Records.{Records}
use Rattle.td_cli.specs.AtDesk.{AtDesk}
use Rattle.td_cli.specs.Exits.{of_start}
use Rattle.td_cli.specs.World.{Lent, World}

-- how a job ended, or why its journal wasn't begun
abbrev pub begun : {End : Type 0} → Result End StartFault → Result End DeskFault
begun (Ok end) = Ok end
begun (Err why) = Err (of_start why)

-- and why there was no desk for it at all
abbrev pub begun_journaled : {End F : Type 0} → Result (Journaled End F) DeskFault → Result End DeskFault
begun_journaled (Ok ended) = begun ended.end
begun_journaled (Err why) = Err why

-- what is kept of the journal's file: as the job left it; or as it was opened, where there was no desk
abbrev pub kept : {End F : Type 0} → F → Result (Journaled End F) DeskFault → F
kept file (Ok ended) = ended.file
kept file (Err why) = file

-- A desk that the words name: its office, where its records stand, and the path of its journal, if it keeps one.
pub record NamedDesk : Type 0 where
  pub office : Office
  pub records : Records
  pub journal : Option (List ℕ)

abbrev pub named_desk : Office → Records → Option (List ℕ) → NamedDesk
named_desk office records journal = record { office = office; records = records; journal = journal }

module _ {End : Type 0} (lent : Lent) (desk : NamedDesk) where
  -- The file at the path was opened on the other drive, for a journal; and there was a desk where the records stand, around which one that
  -- keeps the journal did the job, or the journal wasn't begun; or there was no desk. The journal's file is kept as it is left.
  pub record IsJournaledAt (path : List ℕ) (did : (D : Type 0) → DeskView D → D → D → End → Type 0) (untouched : Type 0)
      (old new : World lent) (end : Result End DeskFault) : Type 0 where
    pub journal : lent.OtherDisk
    pub opened : FileHeld lent.OtherDrive lent.other_disk
    pub at : IsJournalAt lent.other_drive path old.other opened journal
    pub ended : Result (Journaled End lent.OtherDisk) DeskFault
    pub done : AtDesk lent.drive desk.office.country desk.records
        (λ D view begun left ended. HasJournaled lent.other_disk view begun left journal did untouched ended) untouched old.file new.file ended
    pub file_is : new.other.journal ≡ Some (kept journal ended)
    pub drive_is : new.other.drive ≡ opened.drive
    pub connection : new.other.connection ≡ opened.connection
    pub unopened : new.other.unopened ≡ opened.unopened
    pub end_is : end ≡ begun_journaled ended

  -- What a job leaves whose desk's records stand there and which keeps this journal, if one is named; else it leaves the other file alone.
  -- Where the journal's file wasn't opened, the desk's wasn't either.
  abbrev pub WithJournalAt : Option (List ℕ) → ((D : Type 0) → DeskView D → D → D → End → Type 0) → Type 0
      → World lent → World lent → Result End DeskFault → Type 0
  WithJournalAt None did untouched old new end =
      (new.other ≡ old.other) × AtDesk lent.drive desk.office.country desk.records did untouched old.file new.file end
  WithJournalAt (Some path) did untouched old new end =
      ((why : DeskFault) × (end ≡ Err why) × HasNoJournal lent.other_drive path old.other new.other why × untouched × (new.file ≡ old.file))
      ⊎ IsJournaledAt path did untouched old new end

  abbrev pub WithJournal : ((D : Type 0) → DeskView D → D → D → End → Type 0) → Type 0 → World lent → World lent → Result End DeskFault → Type 0
  WithJournal = WithJournalAt desk.journal
