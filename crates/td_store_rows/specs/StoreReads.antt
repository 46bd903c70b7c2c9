-- That a call inside a transaction has only read, in a store's file.
use Rattle.std.specs.Prelude.{◌≡◌, ◌≤◌, ℕ, Bool, IsTrue}
use Rattle.sqlite.specs.Effect.{Database}
use Rattle.sqlite.specs.State.{State, HasCleanDisk}
use Rattle.sqlite_trees.specs.Tree.{Trees}
use Rattle.td_schema.specs.declared.layout.Layout.{Layout}
use Rattle.td_schema.specs.Layouts.{HasFewLines, HasMoreLines, IsNewest, newest_version, schema_of, version_of}
use Rattle.td_table_model.specs.Tables.{version_with_amounts}
use Rattle.typed_sql.specs.Reading.{LeavesAll, OnlyRead, StaysInside}
use Rattle.typed_sql.specs.Writing.{HasSchema}

-- where it ended well, all is as it was, if the file is of one of these layouts
pub record ReadsIn (P : Layout → Type 0) (well : Bool) (old new : State) : Type 0 where
  pub still : HasCleanDisk new → IsTrue well → (l : Layout) → P l → OnlyRead (schema_of l) old new
  pub within : StaysInside well old new

-- of any layout
abbrev pub IsAny : Layout → Type 0
IsAny l = Unit {0}

abbrev pub ReadsStore : Bool → State → State → Type 0
ReadsStore = ReadsIn IsAny

-- of a layout of a version; of the newest one
abbrev pub IsOfVersion : ℕ → Layout → Type 0
IsOfVersion version l = version_of l ≡ version

abbrev pub ReadsVersion : ℕ → Bool → State → State → Type 0
ReadsVersion version = ReadsIn (IsOfVersion version)

abbrev pub ReadsNewest : Bool → State → State → Type 0
ReadsNewest = ReadsIn IsNewest

-- of a layout that keeps the amounts in use on the guarantees
abbrev pub KeepsUse : Layout → Type 0
KeepsUse l = version_with_amounts ≤ version_of l

abbrev pub ReadsKept : Bool → State → State → Type 0
ReadsKept = ReadsIn KeepsUse

-- of a layout with up to nine lines of a movement; with more
abbrev pub ReadsFew : Bool → State → State → Type 0
ReadsFew = ReadsIn HasFewLines

abbrev pub ReadsMore : Bool → State → State → Type 0
ReadsMore = ReadsIn HasMoreLines

-- the calls between two states have only read, in a file of a version; of the newest one
abbrev pub OnlyReadVersion : ℕ → State → State → Type 0
OnlyReadVersion version old new = (l : Layout) → IsOfVersion version l → OnlyRead (schema_of l) old new

abbrev pub OnlyReadNewest : State → State → Type 0
OnlyReadNewest = OnlyReadVersion newest_version

-- a call left all as it was, in a file of any layout; of a version; of the newest one
abbrev pub LeavesStore : State → State → Type 0
LeavesStore old new = (l : Layout) → LeavesAll (schema_of l) old new

abbrev pub LeavesVersion : ℕ → State → State → Type 0
LeavesVersion version old new = (l : Layout) → IsOfVersion version l → LeavesAll (schema_of l) old new

abbrev pub LeavesNewest : State → State → Type 0
LeavesNewest = LeavesVersion newest_version

-- what is so of the trees of a database whose tables are those of a layout of a version; of the newest one
abbrev pub InVersion : ℕ → (Layout → Trees → Type 0) → Database → Type 0
InVersion version P db = (l : Layout) → IsOfVersion version l → db.schema ≡ schema_of l → P l db.trees

abbrev pub InNewest : (Layout → Trees → Type 0) → Database → Type 0
InNewest = InVersion newest_version

-- as far as the connection is open, it is to a file of one of these layouts; of the newest version
abbrev pub HasTablesOf : (Layout → Type 0) → State → Type 0
HasTablesOf P s = (l : Layout) × P l × HasSchema s (schema_of l)

abbrev pub HasNewestTables : State → Type 0
HasNewestTables = HasTablesOf IsNewest
