-- A journal, done again at a desk, and what was told of it.
use Rattle.std.specs.Prelude.{◌≡◌, ◌⊎◌, ℕ, Bool, true, false, List, Some, Result, Ok, Err, option_map}
use Rattle.td_files.specs.declared.desks.DeskFault.{DeskFault}
use Rattle.td_journal_lines.specs.Lines.{Numbered}
use Rattle.td_journal_rows.specs.declared.rows.JournalFault.{JournalFault}
use Rattle.td_machine.specs.Machine.{HasRead, IsNotRead}
use Rattle.td_machine.specs.declared.machine.ReadError.{ReadError}
use Rattle.td_replay.specs.Numbers.{AreCounted, AreRising, IsFirstNot}
use Rattle.td_replay.specs.Reading.{HasChanges, TellsJournal}
use Rattle.td_replay.specs.Replays.{IsReplayOf}
use Rattle.td_replay.specs.declared.replaying.ReplayRun.{ReplayRun}
use Rattle.td_cli.specs.AtDesk.{AtDesk}
use Rattle.td_cli.specs.Exits.{of_file, of_journal, of_read_error}
use Rattle.td_cli.specs.Journaled.{NamedDesk}
use Rattle.td_cli.specs.Told.{IsResultTold, IsToldAlone}
use Rattle.td_cli.specs.WorkOf.{part_replayed}
use Rattle.td_cli.specs.Worked.{IfClean, Work}
use Rattle.td_cli.specs.World.{OpensDeskFileAlone, Lent, World}
use Rattle.td_cli.specs.declared.exits.Cause.{Cause}
use Rattle.td_cli.specs.declared.exits.Cause.TheVariants.{Differs, ForeignRow}

-- the numbers of rows run from 1 on, or rise at least where the rows are a part of a journal
abbrev pub AreInOrder : Bool → List Numbered → Type 0
AreInOrder true rows = AreRising rows
AreInOrder false rows = AreCounted 1 rows

-- bytes are the lines of these rows, whose numbers are in order, and perhaps a torn one behind them
abbrev pub AreRowsOf : Bool → List ℕ → List Numbered → Type 0
AreRowsOf part bytes rows = ((torn : ℕ) × HasChanges bytes rows torn) × AreInOrder part rows

-- Why bytes aren't such rows: a line is none, or there was no memory; or a row isn't in order.
abbrev pub IsUnreadFor : Bool → List ℕ → Cause → Type 0
IsUnreadFor part bytes cause =
    ((why : JournalFault) × TellsJournal bytes why × (cause ≡ of_journal why))
    ⊎ ((rows : List Numbered) × (torn : ℕ) × (number : ℕ) × HasChanges bytes rows torn × IsFirstNot (AreInOrder part) rows number
    × (cause ≡ ForeignRow number))

module _ (lent : Lent) where
  -- what a replay left was told; or there was no desk for it, for this fault, which was told, and nothing was printed
  abbrev pub IsReplayTold : Result ReplayRun DeskFault → World lent → World lent → ℕ → Type 0
  IsReplayTold (Ok run) old new status = IsResultTold lent run.text.items run.stopped (option_map Differs run.differs) old new status
  IsReplayTold (Err why) old new status = IsToldAlone lent (Some (of_file why)) old new status

module _ (lent : Lent) (Says : Work → Type 0) where
  -- Rows were done again, each at its own moment, at the office's desk whose records stand there. `Says` is said of that work, and what became
  -- of the rows was told. Or there was no desk.
  abbrev pub IsReplayAtDesk : NamedDesk → List Numbered → World lent → World lent → ℕ → Type 0
  IsReplayAtDesk desk rows old new status =
      (end : Result ReplayRun DeskFault)
      × AtDesk lent.drive desk.office.country desk.records
      (λ D view opened left run. (done : IsReplayOf view rows run opened left) × IfClean Says view opened left (part_replayed view rows run opened left done))
      (Unit {0}) old.file new.file end
      × IsReplayTold lent end old new status

  -- What came of the bytes of a file. They aren't the rows of a journal: then nothing was printed, and the desk's file wasn't opened. Or
  -- they are these rows, which were done at the desk.
  abbrev pub AreRowsReplayed : NamedDesk → List ℕ → Bool → World lent → World lent → ℕ → Type 0
  AreRowsReplayed desk bytes part old new status =
      OpensDeskFileAlone lent old new
      × (((cause : Cause) × IsUnreadFor part bytes cause × (new.file ≡ old.file) × IsToldAlone lent (Some cause) old new status)
      ⊎ ((rows : List Numbered) × AreRowsOf part bytes rows × IsReplayAtDesk desk rows old new status))

  -- The journal in the file at this path was done again. It couldn't be read: then nothing was printed, and no other file was opened. Or
  -- these are its bytes, and this came of them, from the machine on as the reading left it.
  abbrev pub IsJournalReplayed : NamedDesk → List ℕ → Bool → World lent → World lent → ℕ → Type 0
  IsJournalReplayed desk csv part old new status =
      ((why : ReadError) × IsNotRead lent.machine.known csv old.machine new.machine why
      × (new.input ≡ old.input) × (new.file ≡ old.file) × (new.other ≡ old.other) × IsToldAlone lent (Some (of_read_error why)) old new status)
      ⊎ ((bytes : List ℕ) × (read : lent.Machine) × HasRead lent.machine.known csv old.machine bytes read
      × AreRowsReplayed desk bytes part (record old { machine = read }) new status)
