-- What the making of a store's tables does, and what a crash on the way leaves.
use Rattle.std.specs.Prelude.{◌≡◌, ℕ, List, IsTrue}
use Rattle.sqlite_trees.specs.Tree.{Trees}
use Rattle.sqlite.specs.State.{State}
use Rattle.td_model.specs.Content.{empty_content}
use Rattle.td_schema.specs.Layouts.{desk_schema}
use Rattle.td_schema.specs.Tables.{IsEmptyOf, no_schema}
use Rattle.td_store_rows.specs.StoreTables.{AreTreesOf, HoldsContent}

-- Where there was no table, the connection is now to the file of an empty desk. It has the tables of a file that is made at the newest
-- version, and no others.
abbrev pub CreatesTables : List ℕ → State → State → Type 0
CreatesTables country old new =
    IsEmptyOf no_schema old.now → HoldsContent (empty_content country) new × (new.now.schema ≡ desk_schema)

-- the connection was open; and where there was no table, these trees are those of an empty desk
abbrev pub MayLeaveEmpty : List ℕ → State → Trees → Type 0
MayLeaveEmpty country old trees =
    IsTrue old.is_open × (IsEmptyOf no_schema old.now → AreTreesOf (empty_content country) trees)
