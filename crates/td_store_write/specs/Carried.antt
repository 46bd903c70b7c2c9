-- What a change that is carried does to a store's file, and what a crash on the way leaves.
use Rattle.std.specs.Prelude.{◌≡◌, ℕ, List, IsTrue}
use Rattle.sqlite_trees.specs.Tree.{Trees}
use Rattle.sqlite.specs.State.{State}
use Rattle.td_model.specs.declared.change.Change.{Change}
use Rattle.td_acts.specs.declared.rows.Verdict.{Verdict}
use Rattle.td_model.specs.Content.{Content, content_after}
use Rattle.td_acts.specs.Weighing.{IsDecision}
use Rattle.td_store_rows.specs.StoreTables.{AreTreesOf, AreUnreadKept, HoldsContent}

-- the connection holds this content, and the change is that of a decision on it, at an office of this country
pub record IsDecidedOver (office : List ℕ) (made : Change) (s : State) (c : Content) : Type 0 where
  pub holds : HoldsContent c s
  pub country : c.country ≡ office
  pub verdict : Verdict
  pub change : verdict.change ≡ made
  pub decision : IsDecision c verdict

-- Whatever content the change was decided on over, the connection now holds the content after it; and the tables that nobody reads are
-- as they were.
abbrev pub CarriesChange : List ℕ → Change → State → State → Type 0
CarriesChange country change old new =
    (c : Content) (over : IsDecidedOver country change old c) → HoldsContent (content_after change c) new
    × AreUnreadKept over.holds.trees.layout old.now.trees new.now.trees

-- the connection was open, and these trees are a desk's of that content, with the same in the tables that nobody reads
abbrev pub MayLeave : List ℕ → Change → State → Trees → Type 0
MayLeave country change old trees =
    IsTrue old.is_open × ((c : Content) (over : IsDecidedOver country change old c) → AreTreesOf (content_after change c) trees
    × AreUnreadKept over.holds.trees.layout old.now.trees trees)
