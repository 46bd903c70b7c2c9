-- The tables in a store's file, whose rows are typed, as the tables of a desk.
use Rattle.std.specs.Prelude.{◌≡◌, ℕ, List, [], ◌∷◌}
use Rattle.sqlite_trees.specs.Tree.{Trees}
use Rattle.sqlite.specs.Effect.{IsDatabase}
use Rattle.sqlite.specs.State.{State}
use Rattle.td_model.specs.Content.{Content, IsSound}
use Rattle.td_table_model.specs.Tables.{Tables, AreTablesOf}
use Rattle.td_table_model.specs.Changes.{HaveSameRows}
use Rattle.td_schema.specs.declared.layout.Layout.{Layout}
use Rattle.td_schema.specs.declared.layout.Layout.TheVariants.{Made1, Made2, Grown2, Made3, Grown3From2, Grown3From1}
use Rattle.td_schema.specs.Layouts.{IsNewest, guarantees_tree, lines_tree, newest_layout, newest_version, schema_of, version_of}
use Rattle.typed_sql.specs.Typed.{AreTyped, typed_rows}
use Rattle.typed_sql.specs.Writing.{HasSchema}
use Rattle.td_store_rows.specs.Columns.{MetaRow, meta_row, meta_typing, holder_typing, guarantee_typing, kept_typing, code_typing, movement_typing, line_typing}
use Rattle.td_store_rows.specs.StoreReads.{KeepsUse}
use Rattle.td_table_model.specs.Gathering.{content_of}

-- the country in the office's own row; none where there is no such row
abbrev pub country_in : List MetaRow → List ℕ
country_in [] = []
country_in (row ∷ rows) = row.country

-- the tables that stand in the trees of a layout: the amounts in use say nothing where the layout keeps none
abbrev pub tables_in : Layout → Trees → Tables
tables_in l trees = record {
  version = version_of l;
  country = country_in (typed_rows meta_typing trees);
  holders = typed_rows holder_typing trees;
  guarantees = typed_rows (guarantee_typing l) trees;
  kept = typed_rows (kept_typing l) trees;
  codes = typed_rows code_typing trees;
  movements = typed_rows movement_typing trees;
  lines = typed_rows (line_typing l) trees;
}

-- the rows of every table are typed, and those of guarantees with the amounts in use where the layout keeps them
pub record AreAllTyped (l : Layout) (trees : Trees) : Type 0 where
  pub meta : AreTyped meta_typing trees
  pub holders : AreTyped holder_typing trees
  pub guarantees : AreTyped (guarantee_typing l) trees
  pub kept : KeepsUse l → AreTyped (kept_typing l) trees
  pub codes : AreTyped code_typing trees
  pub movements : AreTyped movement_typing trees
  pub lines : AreTyped (line_typing l) trees

-- the office's own row, which is there once, says this version and this country
abbrev pub HasOfficeRow : ℕ → List ℕ → Trees → Type 0
HasOfficeRow version country trees = typed_rows meta_typing trees ≡ meta_row version country ∷ []

-- the trees list the tables and indexes of a layout and nothing else, and obey them
abbrev pub AreStoreTrees : Layout → Trees → Type 0
AreStoreTrees l trees = IsDatabase (record { schema = schema_of l; trees = trees })

-- The tables that an upgrade left behind, which a file of this layout has and nobody reads, are as they were.
abbrev pub AreUnreadKept : Layout → Trees → Trees → Type 0
AreUnreadKept Made1 old new = Unit {0}
AreUnreadKept Made2 old new = Unit {0}
AreUnreadKept Grown2 old new = new (guarantees_tree Made1) ≡ old (guarantees_tree Made1)
AreUnreadKept Made3 old new = Unit {0}
AreUnreadKept Grown3From2 old new = new (lines_tree Made2) ≡ old (lines_tree Made2)
AreUnreadKept Grown3From1 old new = (new (guarantees_tree Made1) ≡ old (guarantees_tree Made1)) × (new (lines_tree Made1) ≡ old (lines_tree Made1))

-- The tables are now what f makes of those that were there, their rows in any order; the office's own row is as it was, and so are the
-- tables that nobody reads.
pub record HasTables (l : Layout) (f : Tables → Tables) (old new : State) : Type 0 where
  pub same : HaveSameRows (f (tables_in l old.now.trees)) (tables_in l new.now.trees)
  pub office : typed_rows meta_typing new.now.trees ≡ typed_rows meta_typing old.now.trees
  pub typed : AreAllTyped l new.now.trees
  pub listed : AreStoreTrees l old.now.trees → AreStoreTrees l new.now.trees
  pub schema : HasSchema new (schema_of l)
  pub unread : AreUnreadKept l old.now.trees new.now.trees

-- where the rows of a store's tables of the newest version were typed, they are now what f makes of them
abbrev pub TurnsTables : (Tables → Tables) → State → State → Type 0
TurnsTables f old new =
    (l : Layout) → IsNewest l → HasSchema old (schema_of l) → AreAllTyped l old.now.trees → HasTables l f old new

-- What stands in a file that is a desk's, of this content: the tables of a layout of the newest version and no others, whose rows
-- are the content's and no more, which is sound; and the office's own row with the version and the content's country.
pub record AreTreesOf (c : Content) (trees : Trees) : Type 0 where
  pub layout : Layout
  pub newest : IsNewest layout
  pub listed : AreStoreTrees layout trees
  pub typed : AreAllTyped layout trees
  pub sound : IsSound c
  pub tables : AreTablesOf (tables_in layout trees) c
  pub office : HasOfficeRow newest_version c.country trees

-- the connection, as far as it is open, is to a desk's file of this content
pub record HoldsContent (c : Content) (s : State) : Type 0 where
  pub trees : AreTreesOf c s.now.trees
  pub schema : HasSchema s (schema_of trees.layout)

-- The content that the trees of a file hold that was made at the newest version.
abbrev pub content_in : Trees → Content
content_in trees = content_of (tables_in newest_layout trees)

-- the tables of a layout hold a content, which is sound
pub record HoldSoundContent (l : Layout) (trees : Trees) : Type 0 where
  pub typed : AreAllTyped l trees
  pub sound : IsSound (content_of (tables_in l trees))
  pub tables : AreTablesOf (tables_in l trees) (content_of (tables_in l trees))
