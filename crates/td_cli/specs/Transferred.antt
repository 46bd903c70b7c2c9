-- What was done between two files, and what was told of it.
use Rattle.std.specs.Prelude.{◌≡◌, ℕ, List, string_bytes, Result}
use Rattle.td_files.specs.Found.{file_at}
use Rattle.td_files.specs.Extracted.{IsExtracted}
use Rattle.td_files.specs.Joined.{IsJoined}
use Rattle.td_files.specs.declared.desks.DeskFault.{DeskFault}
use Rattle.td_files.specs.declared.joins.JoinRefusal.{JoinRefusal}
use Rattle.td_words.specs.declared.words.Transfer.{Transfer}
use Rattle.td_words.specs.declared.words.Transfer.TheVariants.{Extract, Join}
use Rattle.td_cli.specs.Exits.{of_extract, of_job, of_joined}
use Rattle.td_cli.specs.Told.{IsToldAlone}
use Rattle.td_cli.specs.World.{Lent, World}

module _ (lent : Lent) where
  -- The rows of the holders of a range were copied into a new file, or all rows of a file were put into another; and how it ended was told.
  -- The files are those at the paths, each on its drive, that of `--db` first.
  abbrev pub IsTransferDone : Transfer → List ℕ → World lent → World lent → ℕ → Type 0
  IsTransferDone (Extract holders from into) country old new status =
      (end : Result (Unit {0}) DeskFault)
      × IsExtracted (file_at lent.drive (string_bytes from)) (file_at lent.other_drive (string_bytes into))
      (record { country = country; first = holders.first; last = holders.last }) old.file new.file old.other new.other end
      × IsToldAlone lent (of_job of_extract end) old new status
  IsTransferDone (Join into from) country old new status =
      (end : Result (Unit {0}) JoinRefusal)
      × IsJoined (file_at lent.drive (string_bytes into)) (file_at lent.other_drive (string_bytes from)) country old.file new.file old.other new.other end
      × IsToldAlone lent (of_joined end) old new status

  -- the same, for which nothing was read, and nothing asked of the machine
  abbrev pub IsTransferred : Transfer → List ℕ → World lent → World lent → ℕ → Type 0
  IsTransferred what country old new status = (new.input ≡ old.input) × (new.machine ≡ old.machine) × IsTransferDone what country old new status
