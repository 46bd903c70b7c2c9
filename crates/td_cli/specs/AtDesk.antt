-- One way to a desk for every job: what it leaves, wherever the desk's records stand.
use Rattle.std.specs.Prelude.{◌≡◌, ℕ, true, false, List, string_bytes, Some, Result, Ok, Err}
use Rattle.sqlite_disk.specs.declared.Disk.{Ghosts}
use Rattle.td_desk.specs.View.{DeskView}
use Rattle.td_desk.specs.declared.plain.PlainDesk.{PlainDesk}
use Rattle.td_files.specs.Found.{FileHeld, FileSeen, FoundAt, HasNoDesk, HasNoNewDesk, IsKeptDesk, over_file}
use Rattle.td_files.specs.declared.desks.DeskFault.{DeskFault}
use Rattle.td_files.specs.declared.desks.DeskFault.TheVariants.{Refused}
use Rattle.td_files.specs.Faults as fault
use Rattle.td_words.specs.declared.words.Records.{Records}
use Rattle.td_words.specs.declared.words.Records.TheVariants.{Memory, File, NewFile}
use Rattle.td_jobs.specs.Desks.{BeginsEmpty, in_memory}
use Rattle.td_machine.specs.Drive.{KnownDrive}
use Rattle.td_cli.specs.Desks.{BeginsKept, BeginsMade}
use Rattle.td_cli.specs.declared.at_desk.Undone.{Undone}

-- What a job leaves whose desk's records stand there, in this country, and of the file that was lent to it. It was done at a desk that
-- was opened over the file at the path on its drive, or made in it, and the file's connection shows what the desk left, which is a desk's
-- file; or there was no desk for this fault, what the job works on is untouched, and the file is left as it was found. In memory that is
-- want of memory, and no file is opened.
abbrev pub AtDesk : {V S End : Type 0} {disk : Ghosts S} → KnownDrive V S → List ℕ → Records
    → ((D : Type 0) → DeskView D → D → D → End → Type 0) → Type 0
    → FileHeld V disk → FileHeld V disk → Result End DeskFault → Type 0
AtDesk drive country Memory did untouched before file (Ok end) =
    ((opened : PlainDesk) × (left : PlainDesk) × BeginsEmpty country opened × did PlainDesk in_memory opened left end) × (file ≡ before)
AtDesk {disk = disk} drive country (File path) did untouched before file (Ok end) =
    (opened : FileSeen disk) × (left : FileSeen disk) × (file.connection ≡ Some left) × IsKeptDesk left
    × FoundAt drive (string_bytes path) false before file (λ image. BeginsKept image country opened) × did (FileSeen disk) over_file opened left end
AtDesk {disk = disk} drive country (NewFile path) did untouched before file (Ok end) =
    (opened : FileSeen disk) × (left : FileSeen disk) × (file.connection ≡ Some left) × IsKeptDesk left
    × FoundAt drive (string_bytes path) true before file (λ image. BeginsMade image country opened) × did (FileSeen disk) over_file opened left end
AtDesk drive country Memory did untouched before file (Err why) = untouched × (why ≡ Refused fault.NoMemory) × (file ≡ before)
AtDesk drive country (File path) did untouched before file (Err why) =
    untouched × HasNoDesk drive country (string_bytes path) before file why
AtDesk drive country (NewFile path) did untouched before file (Err why) =
    untouched × HasNoNewDesk drive country (string_bytes path) before file why

-- how a job ended, or why there was no desk for it
abbrev pub without_job : {End J : Type 0} → Result End (Undone J) → Result End DeskFault
without_job (Ok end) = Ok end
without_job (Err undone) = Err undone.why
