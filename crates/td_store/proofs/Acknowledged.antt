-- What a crash leaves of a desk over a store's file opens again, and keeps what was acknowledged.
use Rattle.std.proofs.Common.{inl, inr, subst}
use Rattle.sqlite_catalog.proofs.ReadLemmas.{lists_once}
use Rattle.sqlite_trees.specs.declared.store.Store.{Ghosts}
use Rattle.sqlite_trees.specs.Objects.{catalog_tree}
use Rattle.sqlite.specs.Held.{state}
use Rattle.td_schema.specs.Layouts.{schema_of}
use Rattle.td_store_rows.specs.StoreTables.{AreTreesOf}
use Rattle.td_store.specs.Laws.{AcknowledgedIsKept, AcknowledgedIsKeptMeanwhile, DesksTreesOpen}

-- the list of a store's tables is that of no other schema
pub opens_again : {S : Type 0} (g : Ghosts S) → DesksTreesOpen g
opens_again g conn c live trees = record {
  trees = trees;
  schema = λ is_open.
      lists_once ((state g conn).now.trees catalog_tree) (state g conn).now.schema (schema_of trees.layout) (live is_open).0.lists trees.listed.lists;
}

pub is_kept : {S : Type 0} (g : Ghosts S) → AcknowledgedIsKept g
is_kept g desk c leaves trees left =
    let found = leaves.recovers trees left in
    subst (λ x. AreTreesOf x trees) (leaves.only found.0 (trees, left, found.1)) found.1

pub is_kept_meanwhile : {S : Type 0} (g : Ghosts S) → AcknowledgedIsKeptMeanwhile g
is_kept_meanwhile g desk new c next leaves adds trees left =
    let found = adds.recovers leaves.recovers trees left in
    elim (adds.outcomes found.0 (trees, left, found.1)) [
      | inl before ↦ inl (subst (λ x. AreTreesOf x trees) (leaves.only found.0 before) found.1)
      | inr more ↦ inr (subst (λ x. AreTreesOf x trees) more found.1)
    ]
