-- What contracts see of a desk over a file, what it began with by what the file held, and what of that it was refused for. And what is
-- left of a file that has no desk over it.
use Rattle.std.specs.Prelude.{◌≡◌, ◌⊎◌, ℕ, Bool, true, false, List, IsTrue, Some}
use Rattle.sqlite_disk.specs.declared.Disk as disk
use Rattle.sqlite_disk.specs.declared.Files.{Files}
use Rattle.sqlite_wal.specs.Recovery.{Image}
use Rattle.sqlite_store.specs.declared.store.FileStore.{FileStore}
use Rattle.sqlite_trees.specs.Tree.{Trees}
use Rattle.sqlite.specs.Effect.{Database, IsDatabase}
use Rattle.sqlite.specs.Files.{HoldsDatabase, AreFoundIn, IsCleanLeft, IsOpened, LeavesFiles, file_state, image_of, over_files}
use Rattle.sqlite.specs.Held.{Held}
use Rattle.sqlite.specs.Start.{FindsIn}
use Rattle.sqlite.specs.State.{HasCleanDisk}
use Rattle.sqlite.specs.declared.file.Leftover.{Leftover}
use Rattle.td_model.specs.Content.{Content, empty_content}
use Rattle.td_desk.specs.View.{DeskView, LeavesOnly}
use Rattle.td_schema.specs.Layouts.{desk_schema}
use Rattle.td_schema.specs.Tables.{IsEmptyOf, no_schema}
use Rattle.td_store_rows.specs.StoreTables.{AreTreesOf, HoldsContent}
pub use Rattle.td_store.specs.Kept.{content_in}
use Rattle.typed_sql.specs.Outside.{CrashLeavesShown}
use Rattle.td_store.specs.Kept.{sql_view}
use Rattle.td_store_check.specs.Opened.{TellsDatabase}
use Rattle.td_store_check.specs.declared.fault.OpenFault.{OpenFault}
use Rattle.td_store_check.specs.declared.fault.OpenFault.TheVariants.{Store, NoMemory}
use Rattle.td_machine.specs.Drive.{KnownDrive}
use Rattle.td_files.specs.declared.desks.DeskFault.{DeskFault}
use Rattle.td_files.specs.declared.desks.DeskFault.TheVariants.{File, Refused}
use Rattle.td_files.specs.declared.files.OneFile.{OneFile}

-- a file that is named: what is known of its drive, and the path there
pub record NamedFile (V D : Type 0) : Type 1 where
  pub drive : KnownDrive V D
  pub path : List ℕ

abbrev pub file_at : {V D : Type 0} → KnownDrive V D → List ℕ → NamedFile V D
file_at drive path = record { drive = drive; path = path }

-- the database is the one that files hold which hold this, and its schema is the one that its trees list
pub record IsFoundIn (image : Image) (db : Database) : Type 0 where
  pub listed : IsDatabase db
  pub holds : (trees : Trees) → HoldsDatabase image trees → db.trees ≡ trees
  pub reads : AreFoundIn image db.trees

-- what is committed where no desk is to be made: nothing
abbrev pub CommitsNothing : Database → Trees → Type 0
CommitsNothing db trees = ⊥

-- what the making of a desk's file may commit: the trees of the content that it is to have, where there was no table
abbrev pub CommitsDesk : Content → Database → Trees → Type 0
CommitsDesk made db trees = IsEmptyOf no_schema db × AreTreesOf made trees

-- the fault is the store's, or want of memory
abbrev pub IsStoreOrMemory : OpenFault → Type 0
IsStoreOrMemory fault = (fault ≡ Store) ⊎ (fault ≡ NoMemory)

-- a connection to a file, as contracts see it
abbrev pub FileSeen : {D : Type 0} → disk.Ghosts D → Type 0
FileSeen {D} g = Held (FileStore D g)

-- what they see of a desk over the file
abbrev pub over_file : {D : Type 0} {g : disk.Ghosts D} → DeskView (FileSeen g)
over_file = sql_view over_files

module _ {D : Type 0} {g : disk.Ghosts D} where
  -- the disk under a connection returned what was written so far, while nobody else wrote
  abbrev pub IsClean : FileSeen g → Type 0
  IsClean c = HasCleanDisk (file_state c)

  -- a connection is to the database in files that held this
  abbrev pub IsConnected : FileSeen g → Image → Type 0
  IsConnected c image = IsClean c → IsOpened c × FindsIn image (file_state c)

  -- A desk was opened over what the file held: a store's tables of the newest version, which hold sound content of this country.
  -- A crash leaves that desk.
  pub record IsOpenedDesk (image : Image) (country : List ℕ) (c : FileSeen g) : Type 0 where
    pub live : IsTrue (file_state c).is_open
    pub found : IsFoundIn image (file_state c).now
    pub holds : HoldsContent (content_in (file_state c).now.trees) (file_state c)
    pub country_is : (content_in (file_state c).now.trees).country ≡ country
    pub leaves : LeavesOnly over_file c (content_in (file_state c).now.trees)

  -- A desk was made: the file held no table, and has a store's tables of the newest version now, no others, and the office's own row;
  -- the desk is empty. A crash leaves that desk.
  pub record IsCreatedDesk (image : Image) (country : List ℕ) (c : FileSeen g) : Type 0 where
    pub live : IsTrue (file_state c).is_open
    pub before : Database
    pub found : IsFoundIn image before
    pub blank : IsEmptyOf no_schema before
    pub schema : (file_state c).now.schema ≡ desk_schema
    pub empty : content_in (file_state c).now.trees ≡ empty_content country
    pub holds : HoldsContent (content_in (file_state c).now.trees) (file_state c)
    pub leaves : LeavesOnly over_file c (content_in (file_state c).now.trees)

  -- A connection that a desk handed back: while its disk is clean and no fault has shut it, it is to a desk's file, which the next
  -- opening takes, and a crash leaves just that.
  abbrev pub IsKeptDesk : FileSeen g → Type 0
  IsKeptDesk c = IsClean c → IsTrue (file_state c).is_open
      → HoldsContent (content_in (file_state c).now.trees) (file_state c) × LeavesOnly over_file c (content_in (file_state c).now.trees)

  -- What is left of a file that was opened, and has no desk over it: an open connection shows what was found, and a crash leaves just
  -- that. Where a fault shut the connection, a crash leaves what was found, or what a making could commit.
  pub record ShowsFound (image : Image) (Commits : Database → Trees → Type 0) (c : FileSeen g) : Type 0 where
    pub db : Database
    pub found : IsFoundIn image db
    pub same : IsTrue (file_state c).is_open → (file_state c).now ≡ db
    pub leaves : (trees : Trees) → (file_state c).may_leave trees → (trees ≡ db.trees) ⊎ Commits db trees
    pub settled : CrashLeavesShown (file_state c)

  -- What a file held was refused for this fault, which says what the tables are; unless it is the store's, or want of memory, they are
  -- no desk's of this country. The file is left as it was found.
  pub record IsOpeningRefused (image : Image) (country : List ℕ) (fault : OpenFault) (c : FileSeen g) : Type 0 where
    pub left : ShowsFound image CommitsNothing c
    pub tells : TellsDatabase country left.db (Some fault)
    pub unsound : (x : Content) → AreTreesOf x left.db.trees → x.country ≡ country → IsStoreOrMemory fault

  -- No desk's file of a content was made in a file, for this fault: the store's, where there is a table. The file is left as it was found.
  pub record IsUnmadeFor (image : Image) (made : Content) (fault : OpenFault) (c : FileSeen g) : Type 0 where
    pub left : ShowsFound image (CommitsDesk made) c
    pub cause : IsStoreOrMemory fault
    pub taken : ¬ IsEmptyOf no_schema left.db → fault ≡ Store

-- why a file isn't opened: it isn't there or is no database, another program has it open, or there was no memory
abbrev pub IsOpeningFault : DeskFault → Type 0
IsOpeningFault why = (why ≡ File) ⊎ ((why ≡ Refused Store) ⊎ (why ≡ Refused NoMemory))

-- a file that a program opens, as contracts see it
abbrev pub FileHeld : Type 0 → {D : Type 0} → disk.Ghosts D → Type 0
FileHeld V {D} g = OneFile V D g

module _ {V D : Type 0} {g : disk.Ghosts D} where
  -- The file at the path was opened on its drive, where it may have been made if that was asked for; and this is so of what it held.
  abbrev pub FoundAt : KnownDrive V D → List ℕ → Bool → FileHeld V g → FileHeld V g → (Image → Type 0) → Type 0
  FoundAt known path make old new Says = (files : Files D) × known.opens old.drive path make files new.drive × Says (image_of g files)

  -- The file at the path wasn't opened, for this fault: its drive refused it. Or it was, and its database wasn't: then what is left of it is
  -- kept, from which a crash leaves what it could before, unless there was no database.
  abbrev pub IsUnopened : KnownDrive V D → List ℕ → Bool → FileHeld V g → FileHeld V g → DeskFault → Type 0
  IsUnopened known path make old new why =
      IsOpeningFault why × (new.connection ≡ old.connection)
      × ((known.refuses old.drive path make new.drive × (new.unopened ≡ old.unopened))
      ⊎ ((files : Files D) × known.opens old.drive path make files new.drive
      × (left : Leftover D g) × (new.unopened ≡ Some left) × (IsCleanLeft left → LeavesFiles files left)))

  -- It was opened, and its connection, which was handed back, shows this of it, where its disk is clean.
  abbrev pub IsHandedBack : (OpenFault → FileSeen g → Type 0) → FileHeld V g → DeskFault → Type 0
  IsHandedBack Shows new why =
      (fault : OpenFault) × (why ≡ Refused fault) × (c : FileSeen g) × (new.connection ≡ Some c) × (IsClean c → Shows fault c)

  -- no desk was opened over the file at the path, for this fault
  abbrev pub HasNoDesk : KnownDrive V D → List ℕ → List ℕ → FileHeld V g → FileHeld V g → DeskFault → Type 0
  HasNoDesk known country path old new why =
      IsUnopened known path false old new why ⊎ FoundAt known path false old new (λ image. IsHandedBack (IsOpeningRefused image country) new why)

  -- none was made in it
  abbrev pub HasNoNewDesk : KnownDrive V D → List ℕ → List ℕ → FileHeld V g → FileHeld V g → DeskFault → Type 0
  HasNoNewDesk known country path old new why =
      IsUnopened known path true old new why
      ⊎ FoundAt known path true old new (λ image. IsHandedBack (IsUnmadeFor image (empty_content country)) new why)

  -- The file at the path was opened as it is on its drive, for a journal: it was made, if it wasn't there.
  pub record IsJournalAt (known : KnownDrive V D) (path : List ℕ) (old new : FileHeld V g) (file : D) : Type 0 where
    pub files : Files D
    pub opens : known.opens old.drive path true files new.drive
    pub is : file ≡ files.db
    pub connection : new.connection ≡ old.connection
    pub unopened : new.unopened ≡ old.unopened
    pub journal : new.journal ≡ old.journal

  -- It wasn't, for this fault: its drive refused it.
  pub record HasNoJournal (known : KnownDrive V D) (path : List ℕ) (old new : FileHeld V g) (why : DeskFault) : Type 0 where
    pub fault : IsOpeningFault why
    pub refuses : known.refuses old.drive path true new.drive
    pub connection : new.connection ≡ old.connection
    pub unopened : new.unopened ≡ old.unopened
    pub journal : new.journal ≡ old.journal
