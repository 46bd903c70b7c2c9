-- What an extract of a desk's file does to a database without tables, and what a crash on the way leaves of it.
use Rattle.std.specs.Prelude.{◌≡◌, ◌<◌, ◌≤◌, ℕ, List, Option, Some, None, IsTrue}
use Rattle.std.specs.List.{AllByRecursion}
use Rattle.sqlite_trees.specs.Tree.{Trees}
use Rattle.sqlite.specs.State.{State, HasCleanDisk}
use Rattle.td_model.specs.declared.holder_row.HolderRow.{HolderRow}
use Rattle.td_model.specs.Account.{holder_key}
use Rattle.td_model.specs.Content.{Content, account_in}
use Rattle.td_schema.specs.Layouts.{desk_schema}
use Rattle.td_schema.specs.Tables.{IsEmptyOf, no_schema}
use Rattle.td_store_rows.specs.StoreTables.{AreTreesOf, HoldsContent}
use Rattle.typed_sql.specs.Writing.{HasSchema}
use Rattle.td_extract.specs.Between.{content_between}

-- Where the first file held a content of that country, the other, where it had no table, holds what this has of the holders of the range.
abbrev pub Extracts : List ℕ → ℕ → ℕ → State → State → State → Type 0
Extracts country first last from old new =
    (c : Content) → HoldsContent c from → c.country ≡ country → IsEmptyOf no_schema old.now → HoldsContent (content_between first last c) new

-- And its tables, as far as the connection is open, are those of a file that is made at the newest version, and no others.
abbrev pub MakesTables : List ℕ → State → State → State → Type 0
MakesTables country from old new =
    (c : Content) → HoldsContent c from → c.country ≡ country → IsEmptyOf no_schema old.now → HasSchema new desk_schema

-- The connection was open. And where the first file held a content of that country, and its disk was clean to the end, these trees are
-- a desk's of what it has of the holders of the range, if there was no table.
abbrev pub MayLeaveExtract : List ℕ → ℕ → ℕ → State → State → State → Trees → Type 0
MayLeaveExtract country first last from seen old trees =
    IsTrue old.is_open
    × (HasCleanDisk seen → (c : Content) → HoldsContent c from → c.country ≡ country → IsEmptyOf no_schema old.now
    → AreTreesOf (content_between first last c) trees)

-- of the holders above one number and up to another this is the one with the least number; none: there is no such holder
abbrev pub HasLeastOf : ℕ → ℕ → Content → Option HolderRow → Type 0
HasLeastOf number last c None = AllByRecursion (λ h. number < holder_key h → last < holder_key h) c.holders
HasLeastOf number last c (Some row) =
    ((account_in row.holder c).holder ≡ Some row) × AllByRecursion (λ h. number < holder_key h → row.holder ≤ holder_key h) c.holders

-- whatever content the file held
abbrev pub IsNextOf : ℕ → ℕ → State → Option HolderRow → Type 0
IsNextOf number last from found = (c : Content) → HoldsContent c from → HasLeastOf number last c found
