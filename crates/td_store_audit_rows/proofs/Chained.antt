-- Walks one after another along a store's tables, which change nothing.
use Rattle.std.proofs.Common.{◌≡◌, ◌∙◌, ℕ, List, [], ap, subst, sym}
use Rattle.sqlite_schema.specs.declared.schema.Schema.{Schema}
use Rattle.sqlite_sql.specs.Term.{Term}
use Rattle.sqlite_value.specs.declared.keys.Key.{Key}
use Rattle.typed_sql.specs.Meanings.{MeansSelect}
use Rattle.sqlite.specs.Effect.{Database}
use Rattle.sqlite.specs.Given.{IsPlain}
use Rattle.sqlite.specs.Listing.{understood}
use Rattle.sqlite.specs.State.{IsUnchanged, State, Survives}
use Rattle.sqlite.proofs.Callers.{unchanged_then}
use Rattle.sqlite.proofs.StateLemmas.{survives_then}
use Rattle.typed_sql.specs.Walked.{IsLeftAlone}
use Rattle.typed_sql.proofs.Left.{left_then, unchanged_left}
use Rattle.td_schema.specs.Layouts.{schema_of}
use Rattle.td_schema.specs.declared.layout.Layout.{Layout}
use Rattle.td_store_rows.specs.StoreReads.{IsOfVersion}
use Rattle.td_store_audit_rows.specs.Versions.{IsSchemaOf}

pub survives_both : (a b d : State) → Survives a b (λ _. ⊥) → Survives b d (λ _. ⊥) → Survives a d (λ _. ⊥)
survives_both a b d first second = survives_then a b d _ _ _ (λ _ db none. none) (λ _ db none. none) first second

-- a text that doesn't write under the tables of a version doesn't under these
pub plain_here : (version : ℕ) (text : List ℕ) (s : Schema) → ((l : Layout) → IsOfVersion version l → IsPlain (understood (schema_of l) text))
    → IsSchemaOf version s → IsPlain (understood s text)
plain_here version text s plain (l, own, is) = subst (λ k. IsPlain (understood k text)) (sym is) (plain l own)

-- what a text means under a layout's tables it means under these
pub means_at : (text : List ℕ) (tree : ℕ) (shows : List Term) (order : List (Term × Key)) (s k : Schema) → k ≡ s → MeansSelect s text tree [] shows order
    → MeansSelect k text tree [] shows order
means_at text tree shows order s k is means = subst (λ x. MeansSelect x text tree [] shows order) (sym is) means

-- the tables are still those that they were
pub still_of : (s : Schema) (a b : State) → IsUnchanged a b → a.now.schema ≡ s → b.now.schema ≡ s
still_of s a b same has = ap (λ (d : Database). d.schema) same.0.now_is ∙ has

pub still_schema : (version : ℕ) (a b : State) → IsUnchanged a b → IsSchemaOf version a.now.schema → IsSchemaOf version b.now.schema
still_schema version a b same (l, own, is) = (l, own, still_of (schema_of l) a b same is)

-- what is so of the trees now was so before
pub was_so : (P : Database → Type 0) (a b : State) → IsUnchanged a b → P b.now → P a.now
was_so P a b same holds = subst P same.0.now_is holds

pub left_on : (a b d : State) → IsUnchanged a b → IsLeftAlone b d → IsLeftAlone a d
left_on a b d same left = left_then a b d (unchanged_left a b same) left

pub unchanged_on : (a b d : State) → IsUnchanged a b → IsUnchanged b d → IsUnchanged a d
unchanged_on = unchanged_then
