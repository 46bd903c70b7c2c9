-- A file that was to be brought to the newest version of the tables, and what was told of it.
use Rattle.std.specs.Prelude.{◌⊎◌, ℕ, List, ◌++◌, codes, None, Some, Result, Ok, Err}
use Rattle.std.specs.Fmt.{decimal}
use Rattle.td_files.specs.Upgraded.{IsUpgraded}
use Rattle.td_files.specs.declared.desks.DeskFault.{DeskFault}
use Rattle.td_cli.specs.Exits.{of_file}
use Rattle.td_cli.specs.Told.{IsPrinted, IsToldAlone}
use Rattle.td_cli.specs.World.{OpensDeskFileAlone, Lent, World}
use Rattle.td_cli.specs.declared.exits.Cause.TheVariants.{Of}
use Rattle.td_cli.specs.declared.exits.Word.TheVariants.{NoMemory}

-- the line of a version
abbrev pub message_of_version : ℕ → List ℕ
message_of_version version = codes "version " ++ (decimal version ++ codes "\n")

module _ (lent : Lent) where
  -- What was told: the version, or that there was no memory for its line; or why the file wasn't brought to it.
  abbrev pub IsMigrationTold : Result ℕ DeskFault → World lent → World lent → ℕ → Type 0
  IsMigrationTold (Ok version) old new status =
      IsPrinted lent (message_of_version version) None old new status ⊎ IsToldAlone lent (Some (Of NoMemory)) old new status
  IsMigrationTold (Err why) old new status = IsToldAlone lent (Some (of_file why)) old new status

  -- the file at the path was to be brought to the newest version, and what came of it was told
  abbrev pub IsMigrated : List ℕ → World lent → World lent → ℕ → Type 0
  IsMigrated path old new status =
      OpensDeskFileAlone lent old new
      × ((end : Result ℕ DeskFault) × IsUpgraded lent.drive path old.file new.file end × IsMigrationTold end old new status)
