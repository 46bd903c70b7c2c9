-- What a job's desk over a file begins with.
use Rattle.std.specs.Prelude.{ℕ, Bool, true, false, List}
use Rattle.sqlite_wal.specs.Recovery.{Image}
use Rattle.sqlite_disk.specs.declared.Disk.{Ghosts}
use Rattle.td_files.specs.Found.{FileSeen, IsClean, IsOpenedDesk, IsCreatedDesk}

-- it has what the file held, as far as its disk is clean
abbrev pub BeginsKept : {S : Type 0} {disk : Ghosts S} → Image → List ℕ → FileSeen disk → Type 0
BeginsKept image country s = IsClean s → IsOpenedDesk image country s

-- and where the file was new it is empty
abbrev pub BeginsMade : {S : Type 0} {disk : Ghosts S} → Image → List ℕ → FileSeen disk → Type 0
BeginsMade image country s = IsClean s → IsCreatedDesk image country s

-- either of the two
abbrev pub BeginsIn : {S : Type 0} {disk : Ghosts S} → Bool → Image → List ℕ → FileSeen disk → Type 0
BeginsIn false = BeginsKept
BeginsIn true = BeginsMade
