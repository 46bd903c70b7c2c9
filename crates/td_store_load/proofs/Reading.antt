-- What was read of a store's tables stays so, since nothing is changed.
use Rattle.std.proofs.Common.{◌≡◌, ℕ, List, subst}
use Rattle.sqlite.specs.Effect.{Database}
use Rattle.sqlite.specs.State.{State}
use Rattle.td_model.specs.Content.{Content}
use Rattle.td_table_model.specs.Tables.{Tables}
use Rattle.td_store_rows.specs.StoreReads.{OnlyReadNewest}
use Rattle.td_store_load.specs.Loaded.{IsOfContent, IsOfTables}
use Rattle.td_store_rows.specs.StoreTables.{HoldsContent, tables_in}
use Rattle.td_store_rows.proofs.Holding.{holds_still}

-- a content that it holds it still holds
abbrev pub held_after : (c : Content) (a b : State) → OnlyReadNewest a b → HoldsContent c a → HoldsContent c b
held_after c a b read holds =
    let one = read holds.trees.layout holds.trees.newest holds.schema in
    holds_still c a b one.now_is one.was_open holds

-- what its tables say afterwards they said before
pub said_before : {X : Type 0} (f : Tables → X) (a b : State) (x : X) → OnlyReadNewest a b → IsOfTables f b x → IsOfTables f a x
said_before f a b x read says c holds =
    subst (λ (d : Database). x ≡ f (tables_in holds.trees.layout d.trees))
    (read holds.trees.layout holds.trees.newest holds.schema).now_is (says c (held_after c a b read holds))

pub content_before : {X : Type 0} (country : List ℕ) (f : Content → X) (a b : State) (x : X) → OnlyReadNewest a b → IsOfContent country f b x
    → IsOfContent country f a x
content_before country f a b x read says c holds at = says c (held_after c a b read holds) at
