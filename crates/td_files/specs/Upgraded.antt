-- What a file shows that was to be brought to the newest version of the tables.
use Rattle.std.specs.Prelude.{◌≡◌, ◌⊎◌, ℕ, false, List, IsTrue, IfErr, OnOk, Some, Result, Ok, Err}
use Rattle.sqlite_disk.specs.declared.Disk as disk
use Rattle.sqlite_wal.specs.Recovery.{Image}
use Rattle.sqlite.specs.Effect.{Database}
use Rattle.sqlite.specs.Files.{file_state}
use Rattle.typed_sql.specs.Outside.{CrashLeavesShown}
use Rattle.td_store_check.specs.declared.fault.OpenFault.{OpenFault}
use Rattle.td_store_check.specs.declared.fault.OpenFault.TheVariants as open_fault
use Rattle.td_migrate.specs.Upgraded.{LeavesReached, LeavesWithFault, TellsUpgrade}
use Rattle.td_migrate.specs.declared.fault.MigrateFault.{MigrateFault}
use Rattle.td_migrate.specs.declared.fault.MigrateFault.TheVariants.{Damaged, NoMemory, Store, UnknownVersion}
use Rattle.td_machine.specs.Drive.{KnownDrive}
use Rattle.td_files.specs.Found.{FileHeld, FileSeen, FoundAt, IsClean, IsFoundIn, IsUnopened}
use Rattle.td_files.specs.declared.desks.DeskFault.{DeskFault}
use Rattle.td_files.specs.declared.desks.DeskFault.TheVariants.{Refused}

-- what a file is refused for that isn't brought to the newest version, as an opening is refused
abbrev pub refused_as : MigrateFault → OpenFault
refused_as UnknownVersion = open_fault.UnknownVersion
refused_as (Damaged rule) = open_fault.Damaged rule
refused_as Store = open_fault.Store
refused_as NoMemory = open_fault.NoMemory

module _ {D : Type 0} {g : disk.Ghosts D} where
  -- A connection shows what came of an upgrade of what the file held. Without a fault it is open; with one it shows what
  -- was found, or what a first step made of that, as far as it is open. And a crash leaves what was found, or the file of
  -- the next version, or of the newest, with the same content; and no version before one that was reached.
  pub record ShowsUpgrade (image : Image) (c : FileSeen g) (result : Result ℕ MigrateFault) : Type 0 where
    pub db : Database
    pub found : IsFoundIn image db
    pub shown : OnOk result (IsTrue (file_state c).is_open)
    pub told : TellsUpgrade db (file_state c) result
    pub left : IsTrue (file_state c).is_open → IfErr result (LeavesWithFault db (file_state c).now)
    pub leaves : LeavesReached db (file_state c).may_leave
    pub settled : CrashLeavesShown (file_state c)

module _ {V D : Type 0} {g : disk.Ghosts D} where
  abbrev pub ShowsUpgradeAt : FileHeld V g → Result ℕ MigrateFault → Image → Type 0
  ShowsUpgradeAt left result image = (c : FileSeen g) × (left.connection ≡ Some c) × (IsClean c → ShowsUpgrade image c result)

  -- The file at the path was to be brought to the newest version, which was this before and is that after it. Or it wasn't opened.
  abbrev pub IsUpgraded : KnownDrive V D → List ℕ → FileHeld V g → FileHeld V g → Result ℕ DeskFault → Type 0
  IsUpgraded known path before left (Ok version) = FoundAt known path false before left (ShowsUpgradeAt left (Ok version))
  IsUpgraded known path before left (Err why) =
      IsUnopened known path false before left why
      ⊎ ((fault : MigrateFault) × (why ≡ Refused (refused_as fault)) × FoundAt known path false before left (ShowsUpgradeAt left (Err fault)))
