-- What is known of a drive, which opens database files by their paths.
use Rattle.std.specs.Prelude.{ℕ, Bool, List}
use Rattle.sqlite_disk.specs.declared.Files.{Files}

-- A drive of type V, whose files are of type D.
pub record KnownDrive (V D : Type 0) : Type 1 where
  -- the file at a path was opened: the drive, the path, whether the file may be made, the database file and its log, the drive after it
  pub opens : V → List ℕ → Bool → Files D → V → Type 0
  -- it wasn't
  pub refuses : V → List ℕ → Bool → V → Type 0
