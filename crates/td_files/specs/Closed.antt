-- What a file that was open is closed to.
use Rattle.std.specs.Prelude.{Result, Ok, Err}
use Rattle.sqlite_disk.specs.declared.Disk as disk
use Rattle.sqlite_disk.specs.declared.Files.{Files}
use Rattle.sqlite_store.specs.declared.store.FileStore.{FileStore}
use Rattle.sqlite_wal.specs.Reads.{AreClean}
use Rattle.sqlite.specs.declared.error.Error.{Error}
use Rattle.sqlite.specs.Closing.{IsCopied}
use Rattle.sqlite.specs.Files.{IsClosed}
use Rattle.sqlite.specs.Held.{Held}

-- Where the disk stayed clean, the database file holds what was committed last, alone and with its log, now and after a crash.
-- Where it couldn't be copied, a crash leaves what it could before.
abbrev pub IsClosedFrom : {D : Type 0} {g : disk.Ghosts D} → Held (FileStore D g) → Result (Files D) (Error × FileStore D g) → Type 0
IsClosedFrom {D} {g} c (Ok files) = AreClean g files.log files.db → IsCopied c files
IsClosedFrom c (Err failed) = IsClosed c failed.1
