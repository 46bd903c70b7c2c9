-- What the next run begins with over a file that was brought to the newest version.
use Rattle.std.specs.Prelude.{◌⊎◌, ℕ, List, Ok}
use Rattle.sqlite_disk.specs.declared.Disk.{Ghosts}
use Rattle.sqlite_wal.specs.Recovery.{Image}
use Rattle.sqlite.specs.Effect.{Database}
use Rattle.td_model.specs.Content.{Content}
use Rattle.td_schema.specs.declared.layout.Layout.{Layout}
use Rattle.td_store_rows.specs.StoreTables.{AreTreesOf}
use Rattle.td_migrate.specs.Upgraded.{HeldEarlier}
use Rattle.td_files.specs.Found.{FileSeen, IsClean, over_file}
use Rattle.td_files.specs.Upgraded.{ShowsUpgrade}
use Rattle.td_cli.specs.Runs.{GoesOnFrom}

-- a database held this content: in tables of an earlier version, or in those of the newest
abbrev pub HeldContent : Database → Content → Type 0
HeldContent db c = ((l : Layout) × HeldEarlier l c db) ⊎ AreTreesOf c db.trees

module _ {S : Type 0} (disk : Ghosts S) where
  -- The next run over a file that was brought to the newest version begins with a content that the file held when it was found.
  abbrev pub BeginsWithWhatWasHeld : Type 0
  BeginsWithWhatWasHeld =
      (image : Image) (country : List ℕ) (version : ℕ) (left opened : FileSeen disk)
      → IsClean left → (upgrade : ShowsUpgrade image left (Ok version)) → GoesOnFrom country left opened
      → HeldContent upgrade.db (over_file.content opened)
