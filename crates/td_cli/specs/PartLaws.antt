-- What holders are told by runs over a file that was split or joined.
use Rattle.std.specs.Prelude.{◌≡◌, ℕ, true, List, if◌then◌else◌, is_some, Ok}
use Rattle.sqlite.specs.Files.{file_state}
use Rattle.sqlite_disk.specs.declared.Disk.{Ghosts}
use Rattle.sqlite_wal.specs.Recovery.{Image}
use Rattle.td_model.specs.Book.{Book}
use Rattle.td_model.specs.Content.{Content, fresh, rows_of}
use Rattle.td_desk.specs.Runs.{IsTied}
use Rattle.td_extract.specs.Between.{content_between, is_between}
use Rattle.td_files.specs.Extracted.{ShowsMade}
use Rattle.td_files.specs.Found.{FileSeen, over_file}
use Rattle.td_files.specs.Joined.{TellsJoin}
use Rattle.td_join.specs.Joined.{joined}
use Rattle.td_cli.specs.Parts.{IsWork, Part, heard_of, machine_tells, told_of}
use Rattle.td_cli.specs.Runs.{GoesOnFrom}

-- The book of each holder of a range as it is at the whole, and of any other number one that begins with the part, which has nothing of it.
abbrev pub books_between : ℕ → ℕ → Content → (ℕ → Book) → ℕ → Book
books_between first last whole books H = if is_between first last H then books H else fresh H (content_between first last whole)

-- The book of each holder of the first content as it is there, and of any other number as it is at the second.
abbrev pub books_joined : Content → (ℕ → Book) → (ℕ → Book) → ℕ → Book
books_joined c books others H = if is_some (rows_of H c) then books H else others H

-- The books that say what a content has say what its part has, and what two contents have in one.
abbrev pub PartsAreTied : Type 0
PartsAreTied =
    (first last : ℕ) (whole : Content) (books : ℕ → Book) → IsTied whole books
    → IsTied (content_between first last whole) (books_between first last whole books)

abbrev pub JoinedAreTied : Type 0
JoinedAreTied =
    (c d : Content) (books others : ℕ → Book) → c.country ≡ d.country → IsTied c books → IsTied d others → IsTied (joined c d) (books_joined c books others)

module _ {S : Type 0} (disk : Ghosts S) where
  -- Work over a file that holds a part of a content, as `extract` makes it: each holder of the range is told what the holder's own machine
  -- says, going on from the very book that it had at the whole.
  abbrev pub HoldersGoOnAtAPart : Type 0
  HoldersGoOnAtAPart =
      (country : List ℕ) (first last : ℕ) (whole : Content) (books : ℕ → Book) (opened left : FileSeen disk) (parts : List Part)
      → IsTied whole books → over_file.content opened ≡ content_between first last whole → IsWork country opened parts left
      → (H : ℕ) → is_between first last H ≡ true → told_of country H parts ≡ machine_tells H (books H) (heard_of country H parts)

  -- Work over a file that holds two contents in one, as `join` makes it: likewise for each holder of either.
  abbrev pub HoldersGoOnAtAJoin : Type 0
  HoldersGoOnAtAJoin =
      (country : List ℕ) (c d : Content) (books others : ℕ → Book) (opened left : FileSeen disk) (parts : List Part)
      → c.country ≡ d.country → IsTied c books → IsTied d others → over_file.content opened ≡ joined c d → IsWork country opened parts left
      → (H : ℕ) → told_of country H parts ≡ machine_tells H (books_joined c books others H) (heard_of country H parts)

  -- What `extract` left shows a new file of a part of a content, the next run opened the file with that, and work went on from there. Each
  -- holder of the range is told what the holder's own machine says, going on from the very book that it had at the whole.
  abbrev pub HoldersGoOnAfterExtract : Type 0
  HoldersGoOnAfterExtract =
      (country : List ℕ) (first last : ℕ) (whole : Content) (books : ℕ → Book) (found : Image) (made opened left : FileSeen disk) (parts : List Part)
      → IsTied whole books → ShowsMade found (content_between first last whole) made → GoesOnFrom country made opened → IsWork country opened parts left
      → (H : ℕ) → is_between first last H ≡ true → told_of country H parts ≡ machine_tells H (books H) (heard_of country H parts)

  -- What `join` left is told to be two contents in one, the next run opened the file with that, and work went on from there: likewise for
  -- each holder of either.
  abbrev pub HoldersGoOnAfterJoin : Type 0
  HoldersGoOnAfterJoin =
      (country : List ℕ) (c d : Content) (books others : ℕ → Book) (both opened left : FileSeen disk) (parts : List Part)
      → c.country ≡ d.country → IsTied c books → IsTied d others → TellsJoin c d (file_state both) (Ok tt) → GoesOnFrom country both opened
      → IsWork country opened parts left
      → (H : ℕ) → told_of country H parts ≡ machine_tells H (books_joined c books others H) (heard_of country H parts)
