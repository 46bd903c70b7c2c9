-- A store's file that is as it was holds the content that it held.
use Rattle.std.proofs.Common.{◌≡◌, ◌∙◌, ap}
use Rattle.std.specs.Prelude.{IsTrue}
use Rattle.sqlite.specs.Effect.{Database}
use Rattle.sqlite.specs.State.{State}
use Rattle.td_model.specs.Content.{Content}
use Rattle.td_store_rows.specs.StoreTables.{AreTreesOf, HoldsContent}

abbrev pub trees_still : (c : Content) (a b : Database) → b ≡ a → AreTreesOf c a.trees → AreTreesOf c b.trees
trees_still c a b same trees = record {
  layout = trees.layout;
  newest = trees.newest;
  listed = rw same trees.listed;
  typed = rw same trees.typed;
  sound = trees.sound;
  tables = rw same trees.tables;
  office = rw same trees.office;
}

abbrev pub holds_still : (c : Content) (a b : State) → b.now ≡ a.now → (IsTrue b.is_open → IsTrue a.is_open) → HoldsContent c a → HoldsContent c b
holds_still c a b same was holds = record {
  trees = trees_still c a.now b.now same holds.trees;
  schema = λ is. ap (λ (d : Database). d.schema) same ∙ holds.schema (was is);
}
