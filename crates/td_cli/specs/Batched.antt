-- A file of rows, done at a desk, and what was told of it.
use Rattle.std.specs.Prelude.{◌≡◌, ℕ, List, Some, None, Result, Ok, Err, if◌then◌else◌}
use Rattle.td_commands.specs.declared.command.Command.{Command}
use Rattle.td_files.specs.declared.desks.DeskFault.{DeskFault}
use Rattle.td_batch.specs.declared.running.BatchRun.{BatchRun}
use Rattle.td_batch.specs.Runs.{has_refusal}
use Rattle.td_words.specs.declared.words.BatchKind.{BatchKind}
use Rattle.td_jobs.specs.Jobs.{with_machine}
use Rattle.td_jobs.specs.Batched.{AreRead, HasDoneRows, commands_of, kind_of}
use Rattle.td_jobs.specs.declared.rows.Rows.{Rows}
use Rattle.td_jobs.specs.declared.rows.RowsFault.{RowsFault}
use Rattle.td_cli.specs.Journaled.{NamedDesk, WithJournal}
use Rattle.td_cli.specs.WorkOf.{part_batched}
use Rattle.td_cli.specs.Worked.{IfClean, Work}
use Rattle.td_cli.specs.World.{Lent, World}
use Rattle.td_cli.specs.Exits.{of_file, of_rows}
use Rattle.td_cli.specs.Told.{IsResultTold, IsToldAlone}
use Rattle.td_cli.specs.declared.exits.Cause.TheVariants.{RowsRefused}

module _ (lent : Lent) where
  -- what a run left was told; or there was no desk for it, for this fault, which was told, and nothing was printed
  abbrev pub IsBatchTold : Result BatchRun DeskFault → World lent → World lent → ℕ → Type 0
  IsBatchTold (Ok r) old new status = IsResultTold lent r.text.items r.stopped (if has_refusal r then Some RowsRefused else None) old new status
  IsBatchTold (Err why) old new status = IsToldAlone lent (Some (of_file why)) old new status

module _ (lent : Lent) (Says : Work → Type 0) where
  -- Rows were done at the office's desk whose records stand there, and which keeps this journal, if one is named; at the office's moment or
  -- at one of the machine's clock. `Says` is said of that work, and what became of the rows was told. Or there was no desk, and the clock
  -- wasn't asked.
  abbrev pub IsBatchAtDesk : NamedDesk → BatchKind → List Command → World lent → World lent → ℕ → Type 0
  IsBatchAtDesk desk which commands old new status =
      (end : Result BatchRun DeskFault)
      × WithJournal lent desk
      (λ D view opened left r. (done : HasDoneRows view lent.machine.ticks desk.office.at which commands
      (with_machine opened old.machine) (with_machine left new.machine) r)
      × IfClean Says view opened left (part_batched done.moment commands r done.ran))
      (new.machine ≡ old.machine) old new end
      × IsBatchTold lent end old new status

  -- What came of a file that was read so. There are no rows, for this fault, which was told: then nothing was printed, the clock wasn't
  -- asked, and neither the desk's file nor the other was opened. Or there are these rows, which were done at the desk.
  abbrev pub AreRowsBatched : NamedDesk → Result Rows RowsFault → World lent → World lent → ℕ → Type 0
  AreRowsBatched desk (Ok rows) old new status = IsBatchAtDesk desk (kind_of rows) (commands_of rows) old new status
  AreRowsBatched desk (Err why) old new status =
      (new.machine ≡ old.machine) × (new.file ≡ old.file) × (new.other ≡ old.other) × IsToldAlone lent (Some (of_rows why)) old new status

  -- The file of rows at this path was read, and this came of it, from the machine on as the reading left it. The input isn't read.
  abbrev pub IsBatched : NamedDesk → BatchKind → List ℕ → World lent → World lent → ℕ → Type 0
  IsBatched desk which csv old new status =
      (new.input ≡ old.input)
      × (rows : Result Rows RowsFault) × (read : lent.Machine) × AreRead lent.machine.known csv which old.machine read rows
      × AreRowsBatched desk rows (record old { machine = read }) new status
