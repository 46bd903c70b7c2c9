-- Which layout the names of a store's tables tell.
use Rattle.std.proofs.Common.{◌≡◌, ◌∙◌, Bool, List, ap₂, refl, subst, sym, ℕ}
use Rattle.std.specs.Prelude.{codes, is_some}
use Rattle.sqlite_schema.specs.Names.{same_name, table_named}
use Rattle.sqlite_schema.specs.declared.schema.Schema.{Schema}
use Rattle.td_schema.specs.Layouts.{schema_of}
use Rattle.td_schema.specs.declared.layout.Layout.{Layout}
use Rattle.td_schema.specs.declared.layout.Layout.TheVariants.{Made1, Made2, Grown2, Made3, Grown3From2, Grown3From1}
use Rattle.td_store_check.specs.Named.{layout_by}

-- there is a table of this name
abbrev pub has_named : List ℕ → Schema → Bool
has_named name s = is_some (table_named s name)

abbrev named_by : Schema → Layout
named_by s =
    layout_by (has_named (codes "guarantees1") s) (has_named (codes "guarantees2") s) (has_named (codes "lines1") s) (has_named (codes "lines3") s)

-- the names of a layout's tables tell that layout
told : (l : Layout) → named_by (schema_of l) ≡ l
unfolding same_name
told Made1 = refl
told Made2 = refl
told Grown2 = refl
told Made3 = refl
told Grown3From2 = refl
told Grown3From1 = refl

pub by_names : (s : Schema) (first kept few more : Bool) → first ≡ has_named (codes "guarantees1") s → kept ≡ has_named (codes "guarantees2") s
    → few ≡ has_named (codes "lines1") s → more ≡ has_named (codes "lines3") s → (l : Layout) → s ≡ schema_of l → layout_by first kept few more ≡ l
by_names s first kept few more is_first is_kept are_few are_more l is =
    ap₂ (λ a b. layout_by a b few more) is_first is_kept
    ∙ ap₂ (layout_by (has_named (codes "guarantees1") s) (has_named (codes "guarantees2") s)) are_few are_more
    ∙ subst (λ k. named_by k ≡ l) (sym is) (told l)
