-- What a desk over a store's file keeps, and what contracts see of it.
use Rattle.std.specs.Prelude.{◌≡◌, refl, ℕ, Bool, List, IsTrue, codes, filter}
use Rattle.std.proofs.Common.{inl}
use Rattle.std.proofs.Math.Nat.{le_refl}
use Rattle.std.specs.List.{list_any}
use Rattle.std.specs.Str.{bytes_eq}
use Rattle.sqlite_catalog.specs.Listing.{is_table_row}
use Rattle.sqlite_trees.specs.Objects.{catalog_tree}
use Rattle.sqlite_value.specs.Order.{column}
use Rattle.sqlite_trees.specs.declared.store.Store.{Ghosts}
use Rattle.sqlite_trees.specs.Tree.{Trees}
use Rattle.sqlite.specs.Held.{Held, state}
use Rattle.sqlite.specs.State.{State, HasCleanDisk, Survives}
use Rattle.td_model.specs.Content.{Content}
use Rattle.td_desk.specs.View.{DeskView}
use Rattle.td_table_model.specs.Gathering.{content_of}
use Rattle.td_schema.specs.declared.layout.Layout.{Layout}
use Rattle.td_store_check.specs.Named.{layout_by}
use Rattle.typed_sql.specs.Values.{text_in}
use Rattle.td_store_rows.specs.StoreTables.{AreTreesOf, HoldsContent, tables_in}

-- the trees list a table of this name
abbrev pub list_table : List ℕ → Trees → Bool
list_table name trees = list_any (λ row. bytes_eq (text_in (column row 2)) name) (filter is_table_row (trees catalog_tree))

abbrev pub layout_in : Trees → Layout
layout_in trees =
    layout_by (list_table (codes "guarantees1") trees) (list_table (codes "guarantees2") trees) (list_table (codes "lines1") trees)
    (list_table (codes "lines3") trees)

-- the content that trees hold which are a store's
abbrev pub content_in : Trees → Content
content_in trees = content_of (tables_in (layout_in trees) trees)

-- as far as the disk is clean and the connection open, it is to a desk's file of that country
abbrev pub IsDeskOf : List ℕ → State → Type 0
IsDeskOf country s =
    HasCleanDisk s → IsTrue s.is_open → (c : Content) × HoldsContent c s × (c.country ≡ country)

-- No fault is forgotten, and only a fault that is counted shuts the connection. (What a crash leaves is said by the view.)
abbrev pub CountsFaults : State → State → Type 0
CountsFaults old new = Survives old new (λ _. Unit {0})

-- a connection that is left alone has forgotten none
pub counts_none : (s : State) → CountsFaults s s
counts_none s = record {
  clean = le_refl _;
  shield = λ is. is;
  counts = le_refl s.faults;
  limit = refl;
  closes = λ clean is. inl is;
  crash = λ clean trees may. inl may;
}

-- A desk over a file, by its connection: its content is that of the tables, and it is live while no fault has shut the
-- connection. What a crash leaves is a desk's where its trees are, with everything that the next opening asks of them.
abbrev pub sql_view : {S : Type 0} → Ghosts S → DeskView (Held S)
sql_view g = record {
  content = λ d. content_in (state g d).now.trees;
  is_clean = λ d. HasCleanDisk (state g d);
  is_live = λ d. IsTrue (state g d).is_open;
  has_store = Unit {0};
  may_leave = λ d c. (trees : Trees) × (state g d).may_leave trees × AreTreesOf c trees;
  recovers = λ d. (trees : Trees) → (state g d).may_leave trees → (c : Content) × AreTreesOf c trees;
  weighed = λ old s why new. CountsFaults (state g old) (state g new);
  carried = λ old why new. CountsFaults (state g old) (state g new);
}
