-- A desk's file that was to be made with what another has of the holders of a range, and what is left of both.
use Rattle.std.specs.Prelude.{◌≡◌, ◌⊎◌, ℕ, Bool, true, false, List, IsTrue, Some, Result, Ok, Err, is_ok}
use Rattle.sqlite_disk.specs.declared.Disk as disk
use Rattle.sqlite_wal.specs.Recovery.{Image}
use Rattle.sqlite.specs.Effect.{Database}
use Rattle.sqlite.specs.Files.{file_state}
use Rattle.sqlite.specs.State.{State, HasCleanDisk}
use Rattle.td_model.specs.Content.{Content}
use Rattle.td_schema.specs.Layouts.{desk_schema}
use Rattle.td_schema.specs.Tables.{IsEmptyOf, no_schema}
use Rattle.td_store_rows.specs.StoreTables.{HoldsContent}
use Rattle.td_store.specs.Looked.{HasLooked}
use Rattle.typed_sql.specs.Outside.{CrashLeavesShown}
use Rattle.td_extract.specs.Between.{content_between}
use Rattle.td_files.specs.Found.{FileHeld, FileSeen, FoundAt, HasNoDesk, IsClean, IsFoundIn, IsHandedBack, IsKeptDesk, IsOpenedDesk, IsUnmadeFor, IsUnopened, NamedFile, content_in, over_file}
use Rattle.td_files.specs.declared.desks.DeskFault.{DeskFault}

module _ {D : Type 0} {g : disk.Ghosts D} where
  -- A desk's file of this content was made: the file held no table. It has the tables of the newest version now, and no others, and
  -- holds just the content, which is the one that an opening finds in its rows. A crash leaves that.
  pub record ShowsMade (image : Image) (made : Content) (c : FileSeen g) : Type 0 where
    pub live : IsTrue (file_state c).is_open
    pub before : Database
    pub found : IsFoundIn image before
    pub blank : IsEmptyOf no_schema before
    pub schema : (file_state c).now.schema ≡ desk_schema
    pub content : content_in (file_state c).now.trees ≡ made
    pub holds : HoldsContent made (file_state c)
    pub settled : CrashLeavesShown (file_state c)

-- This is so of the content of that country that a source held, where its disk was clean to the end.
abbrev pub OfSource : List ℕ → State → State → (Content → Type 0) → Type 0
OfSource country from seen Says = HasCleanDisk seen → (c : Content) → HoldsContent c from → c.country ≡ country → Says c

-- the holders of a range, of an office's country
pub record OfficeRange : Type 0 where
  pub country : List ℕ
  pub first : ℕ
  pub last : ℕ

-- what a content has of them
abbrev pub within_range : OfficeRange → Content → Content
within_range range whole = content_between range.first range.last whole

module _ {V D : Type 0} {g : disk.Ghosts D} where
  -- A new file was to be made with what a source has of the holders of a range: it was made, or wasn't opened, or was and is left as
  -- found.
  abbrev pub IsPartMade : NamedFile V D → OfficeRange → State → State → FileHeld V g → FileHeld V g → Result (Unit {0}) DeskFault → Type 0
  IsPartMade into range from seen old new (Ok done) =
      FoundAt into.drive into.path true old new (λ image. (c : FileSeen g) × (new.connection ≡ Some c)
      × (IsClean c → OfSource range.country from seen (λ whole. ShowsMade image (within_range range whole) c)))
  IsPartMade into range from seen old new (Err why) =
      IsUnopened into.drive into.path true old new why
      ⊎ FoundAt into.drive into.path true old new
      (λ image. IsHandedBack (λ fault c. OfSource range.country from seen (λ whole. IsUnmadeFor image (within_range range whole) fault c)) new why)

  -- A desk was opened over what a file held, only looked at, and handed back: it is a desk's file still.
  pub record IsReadFrom (image : Image) (country : List ℕ) (well : Bool) (file : FileHeld V g) (opened left : FileSeen g) : Type 0 where
    pub handed : file.connection ≡ Some left
    pub kept : IsKeptDesk left
    pub begins : IsClean opened → IsOpenedDesk image country opened
    pub looked : HasLooked over_file well opened left

-- No desk was opened over the first file, and the second wasn't touched. Or one was, which was only looked at, and of the second
-- this came: it holds what the first has of the holders of the range, or is left as it was found.
abbrev pub IsExtracted : {V N D E : Type 0} {g : disk.Ghosts D} {h : disk.Ghosts E} → NamedFile V D → NamedFile N E → OfficeRange
    → FileHeld V g → FileHeld V g → FileHeld N h → FileHeld N h → Result (Unit {0}) DeskFault → Type 0
IsExtracted {g = g} from into range before file new_before new result =
    ((why : DeskFault) × (result ≡ Err why) × HasNoDesk from.drive range.country from.path before file why × (new ≡ new_before))
    ⊎ ((opened : FileSeen g) × (left : FileSeen g)
    × FoundAt from.drive from.path false before file (λ image. IsReadFrom image range.country (is_ok result) file opened left)
    × IsPartMade into range (file_state opened) (file_state left) new_before new result)
