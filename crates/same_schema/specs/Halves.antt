-- The fields of a table in two halves, each compared by a function of its own.
use Rattle.std.specs.Prelude.{◌≡◌, List, ◌∷◌}
use Rattle.sqlite_schema.specs.declared.schema.Table.{Table}

-- the same name, tree, columns, keys and uniquenesses
pub record HaveSameColumns (t u : Table) : Type 0 where
  pub name : t.name ≡ u.name
  pub tree : t.tree ≡ u.tree
  pub columns : t.columns ≡ u.columns
  pub key : t.key ≡ u.key
  pub primary : t.primary ≡ u.primary
  pub uniques : t.uniques ≡ u.uniques

-- the same orders, checks, references and defaults
pub record HaveSameRules (t u : Table) : Type 0 where
  pub orders : t.orders ≡ u.orders
  pub checks : t.checks ≡ u.checks
  pub references : t.references ≡ u.references
  pub computed : t.computed ≡ u.computed
  pub stamps : t.stamps ≡ u.stamps
  pub is_counted : t.is_counted ≡ u.is_counted

-- both lists begin with one table
pub record HaveSameFirst (tables others : List Table) : Type 0 where
  pub first : Table
  pub rest : List Table
  pub further : List Table
  pub begins : tables ≡ first ∷ rest
  pub other_begins : others ≡ first ∷ further
