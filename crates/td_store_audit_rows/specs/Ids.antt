-- The rowids of the six tables in which a store's file has its rows.
use Rattle.std.specs.Prelude.{ℕ, ℤ, ◌<ℤ◌, List, [], ◌∷◌, Option, Some, None}
use Rattle.sqlite_value.specs.declared.keys.Key.{Key}
use Rattle.sqlite_trees.specs.Tree.{Trees}
use Rattle.sqlite_sql.specs.Term.{Term, col}
use Rattle.sqlite.specs.Effect.{Database}
use Rattle.td_schema.specs.declared.layout.Layout.{Layout}
use Rattle.typed_sql.specs.Meanings.{MeansSelect}
use Rattle.typed_sql.specs.Writing.{HaveIds}
use Rattle.td_store_rows.specs.Columns.{meta_typing, holder_typing, guarantee_typing, code_typing, movement_typing, line_typing}

-- the integer is above the last one, if there is one
abbrev pub IsAbove : Option ℤ → ℤ → Type 0
IsAbove None id = Unit {0}
IsAbove (Some before) id = before <ℤ id

-- whatever table the text shows the rowids of, and whatever after them, they are integers, and no two are the same
abbrev pub ShowsIds : List ℕ → Database → Type 0
ShowsIds text db =
    (tree : ℕ) (shows : List Term) (order : List (Term × Key)) → MeansSelect db.schema text tree [] (col 1 0 ∷ shows) order
    → HaveIds (db.trees tree)

-- so are those of each table of a layout that belongs to holders
pub record HavePartIds (l : Layout) (trees : Trees) : Type 0 where
  pub guarantees : HaveIds (trees (guarantee_typing l).table.tree)
  pub codes : HaveIds (trees code_typing.table.tree)
  pub movements : HaveIds (trees movement_typing.table.tree)
  pub lines : HaveIds (trees (line_typing l).table.tree)

-- and of each table
pub record HaveAllIds (l : Layout) (trees : Trees) : Type 0 where
  pub meta : HaveIds (trees meta_typing.table.tree)
  pub holders : HaveIds (trees holder_typing.table.tree)
  pub guarantees : HaveIds (trees (guarantee_typing l).table.tree)
  pub codes : HaveIds (trees code_typing.table.tree)
  pub movements : HaveIds (trees movement_typing.table.tree)
  pub lines : HaveIds (trees (line_typing l).table.tree)
