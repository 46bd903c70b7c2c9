-- A file of an earlier version with a content, and the file of the next version with the same content that it becomes.
use Rattle.std.specs.Prelude.{◌≡◌, ℕ, []}
use Rattle.sqlite_trees.specs.Tree.{Trees}
use Rattle.sqlite.specs.Effect.{Database}
use Rattle.td_model.specs.Content.{Content, IsSound}
use Rattle.td_table_model.specs.Tables.{AreTablesOf}
use Rattle.td_schema.specs.Layouts.{grown, guarantees_tree, lines_tree, schema_of, version_of}
use Rattle.td_schema.specs.declared.layout.Layout.{Layout}
use Rattle.td_schema.specs.declared.layout.Layout.TheVariants.{Made1, Made2, Grown2, Made3, Grown3From2, Grown3From1}
use Rattle.td_store_rows.specs.StoreTables.{AreAllTyped, AreStoreTrees, HasOfficeRow, tables_in}

-- the rows of trees of a layout are those of this content, which is sound, and the office's own row says the layout's version and the
-- content's country
pub record HaveContent (l : Layout) (c : Content) (trees : Trees) : Type 0 where
  pub typed : AreAllTyped l trees
  pub sound : IsSound c
  pub tables : AreTablesOf (tables_in l trees) c
  pub office : HasOfficeRow (version_of l) c.country trees

-- the database has the tables of the layout, and its rows are those
pub record HoldsVersion (l : Layout) (c : Content) (db : Database) : Type 0 where
  pub schema : db.schema ≡ schema_of l
  pub content : HaveContent l c db.trees

-- the table that the step to the next version leaves has no row, and one that an earlier step left is as it was
abbrev pub LeavesEmpty : Layout → Trees → Trees → Type 0
LeavesEmpty Made1 old new = new (guarantees_tree Made1) ≡ []
LeavesEmpty Made2 old new = new (lines_tree Made2) ≡ []
LeavesEmpty Grown2 old new = (new (lines_tree Grown2) ≡ []) × (new (guarantees_tree Made1) ≡ old (guarantees_tree Made1))
LeavesEmpty Made3 old new = Unit {0}
LeavesEmpty Grown3From2 old new = Unit {0}
LeavesEmpty Grown3From1 old new = Unit {0}

-- Trees list the tables of the layout that a file of this layout grows to, and no others, with the same content.
pub record AreGrown (l : Layout) (c : Content) (old new : Trees) : Type 0 where
  pub listed : AreStoreTrees (grown l) new
  pub content : HaveContent (grown l) c new
  pub left : LeavesEmpty l old new

-- so a file of the layout is now
pub record IsGrownFile (l : Layout) (c : Content) (old new : Database) : Type 0 where
  pub schema : new.schema ≡ schema_of (grown l)
  pub trees : AreGrown l c old.trees new.trees

-- whatever content a file of that version held, it is now of the next version with that content; and a crash leaves such trees
abbrev pub GrowsFrom : ℕ → Database → Database → Type 0
GrowsFrom version old new = (l : Layout) → version_of l ≡ version → (c : Content) → HoldsVersion l c old → IsGrownFile l c old new

abbrev pub MayLeaveGrown : ℕ → Database → Trees → Type 0
MayLeaveGrown version old trees = (l : Layout) → version_of l ≡ version → (c : Content) → HoldsVersion l c old → AreGrown l c old.trees trees
