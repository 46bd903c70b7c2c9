-- A desk's file that the rows of another were to be put into, and what is left of both.
use Rattle.std.specs.Prelude.{◌≡◌, ◌⊎◌, ℕ, false, List, IsTrue, OnErr, Some, Result, Ok, Err, is_ok}
use Rattle.sqlite_disk.specs.declared.Disk as disk
use Rattle.sqlite_trees.specs.Tree.{Trees}
use Rattle.sqlite_trees.specs.declared.store.Store as store
use Rattle.sqlite.specs.Files.{file_state, over_files}
use Rattle.sqlite.specs.Held.{Held, state}
use Rattle.sqlite.specs.State.{State, HasCleanDisk}
use Rattle.td_model.specs.Content.{Content}
use Rattle.td_store_rows.specs.StoreTables.{AreTreesOf, HoldsContent}
use Rattle.typed_sql.specs.Outside.{CrashLeavesShown}
use Rattle.td_join.specs.Joined.{AreApart, IsFirstOfBoth, joined}
use Rattle.td_join.specs.declared.fault.JoinFault.{JoinFault}
use Rattle.td_join.specs.declared.fault.JoinFault.TheVariants as join
use Rattle.td_files.specs.Extracted.{IsReadFrom}
use Rattle.td_files.specs.Found.{FileHeld, FileSeen, FoundAt, HasNoDesk, IsClean, IsOpenedDesk, NamedFile, content_in, over_file}
use Rattle.td_files.specs.Faults as fault
use Rattle.td_files.specs.declared.desks.DeskFault.{DeskFault}
use Rattle.td_files.specs.declared.desks.DeskFault.TheVariants.{Refused}
use Rattle.td_files.specs.declared.joins.JoinRefusal.{JoinRefusal}
use Rattle.td_files.specs.declared.joins.JoinRefusal.TheVariants.{File, HolderExists}

-- what two files aren't joined for
abbrev pub refused_for : JoinFault → JoinRefusal
refused_for (join.Stands holder) = HolderExists holder
refused_for join.Store = File (Refused fault.Store)
refused_for join.NoMemory = File (Refused fault.NoMemory)

-- What is told of two contents that were to be in one file, which is left so: they are, no holder stood in both, and an opening finds just
-- that content in the rows; this holder stands in both, the one with the least number; or the fault is the store's, or want of memory.
abbrev pub TellsJoin : Content → Content → State → Result (Unit {0}) JoinRefusal → Type 0
TellsJoin c d left (Ok done) = AreApart c d × IsTrue left.is_open × HoldsContent (joined c d) left × (content_in left.now.trees ≡ joined c d)
TellsJoin c d left (Err (HolderExists holder)) = IsFirstOfBoth c d holder
TellsJoin c d left (Err (File why)) = (why ≡ Refused fault.Store) ⊎ (why ≡ Refused fault.NoMemory)

-- This content of that country was to be put into a desk's file, which was left so, whatever content it held. With a refusal it is as it
-- was; and a crash leaves what it could before, or both contents in one.
pub record HasJoined (country : List ℕ) (c : Content) (old left : State) (result : Result (Unit {0}) JoinRefusal) : Type 0 where
  pub told : HasCleanDisk left → (d : Content) → HoldsContent d old → d.country ≡ country → TellsJoin c d left result
  pub same : HasCleanDisk left → IsTrue left.is_open → OnErr result (left.now ≡ old.now)
  pub leaves : HasCleanDisk left → (d : Content) → HoldsContent d old → d.country ≡ country
      → (trees : Trees) → left.may_leave trees → old.may_leave trees ⊎ AreTreesOf (joined c d) trees

-- What a file holds was to be put into a desk's file. There was no desk over the first, and the second is as it was. Or there
-- was one, which was only looked at, and its content was to be put into the second.
abbrev pub IsPutInto : {V D T : Type 0} {g : disk.Ghosts D} → store.Ghosts T → NamedFile V D → List ℕ → FileHeld V g → FileHeld V g
    → Held T → Held T → Result (Unit {0}) JoinRefusal → Type 0
IsPutInto {g = g} over from country before file old left result =
    ((why : DeskFault) × (result ≡ Err (File why)) × HasNoDesk from.drive country from.path before file why × (left ≡ old))
    ⊎ ((read : FileSeen g) × (read_left : FileSeen g)
    × FoundAt from.drive from.path false before file (λ image. IsReadFrom image country (is_ok result) file read read_left)
    × (HasCleanDisk (state over left) → HasCleanDisk (state over old))
    × (IsClean read_left → HasJoined country (over_file.content read) (state over old) (state over left) result))

-- No desk was opened over the first file, and the other wasn't touched. Or one was, and what the other file holds was to be
-- put into it: what its connection shows now, a crash leaves.
abbrev pub IsJoined : {V O D E : Type 0} {g : disk.Ghosts D} {h : disk.Ghosts E} → NamedFile V D → NamedFile O E → List ℕ
    → FileHeld V g → FileHeld V g → FileHeld O h → FileHeld O h → Result (Unit {0}) JoinRefusal → Type 0
IsJoined {g = g} into from country before file other other_left result =
    ((why : DeskFault) × (result ≡ Err (File why)) × HasNoDesk into.drive country into.path before file why × (other_left ≡ other))
    ⊎ ((opened : FileSeen g) × (left : FileSeen g) × (file.connection ≡ Some left) × CrashLeavesShown (file_state left)
    × FoundAt into.drive into.path false before file (λ image. IsClean opened → IsOpenedDesk image country opened)
    × IsPutInto over_files from country other other_left opened left result)
