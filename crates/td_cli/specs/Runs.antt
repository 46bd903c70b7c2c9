-- Runs over a file, one after another, and what a crash leaves on the way.
use Rattle.std.specs.Prelude.{◌≡◌, ℕ, List, IsTrue}
use Rattle.sqlite_disk.specs.declared.Disk.{Ghosts}
use Rattle.sqlite_trees.specs.Tree.{Trees}
use Rattle.sqlite_wal.specs.Recovery.{Image}
use Rattle.sqlite.specs.Files.{HoldsDatabase, file_state}
use Rattle.td_model.specs.Book.{Book}
use Rattle.td_model.specs.Content.{IsSound}
use Rattle.td_desk.specs.Runs.{IsTied}
use Rattle.http_wire.specs.Stream.{Exchange}
use Rattle.td_http.specs.Private.{IsServedOver}
use Rattle.td_files.specs.Found.{FileSeen, IsClean, over_file}
use Rattle.td_cli.specs.Desks.{BeginsKept}

module _ {S : Type 0} {disk : Ghosts S} where
  -- A run over a file, or several: from the desk that the first one opened to what the last one left, by the exchanges of each
  -- stream. To each holder it told what the holder's own machine says, from any books that say what the file held at first; and
  -- what is left has just the content after that, which is sound.
  pub record IsRun (country : List ℕ) (opened : FileSeen disk) (streams : List (List Exchange)) (left : FileSeen disk) : Type 0 where
    pub live : IsTrue (file_state opened).is_open
    pub country_is : (over_file.content opened).country ≡ country
    pub sound : IsSound (over_file.content opened)
    pub private : (books : ℕ → Book) → IsTied (over_file.content opened) books → IsServedOver country books streams (over_file.content left)

  -- The next run opened the file with what this one left: an image of the file that holds the database that was left is the one
  -- that it found, while its disk was clean.
  pub record GoesOnFrom (country : List ℕ) (left opened : FileSeen disk) : Type 0 where
    pub image : Image
    pub holds : HoldsDatabase image (file_state left).now.trees
    pub begins : BeginsKept image country opened
    pub clean : IsClean opened

  -- The next run opened the file with what a crash left of this one: an image of the file that holds trees which the crash may leave
  -- is the one that it found, while its disk was clean.
  pub record OpensAfterCrash (country : List ℕ) (crashed opened : FileSeen disk) : Type 0 where
    pub image : Image
    pub trees : Trees
    pub left : (file_state crashed).may_leave trees
    pub holds : HoldsDatabase image trees
    pub begins : BeginsKept image country opened
    pub clean : IsClean opened
