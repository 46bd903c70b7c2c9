-- That the tables of a store begin with `meta`, and so do those that have the same table first.
use Rattle.std.proofs.Common.{◌≡◌, ◌∙◌, List, ◌∷◌, ap, refl, subst, sym}
use Rattle.sqlite_schema.specs.declared.schema.Schema.{Schema}
use Rattle.sqlite_schema.specs.declared.schema.Table.{Table}
use Rattle.same_schema.specs.Halves.{HaveSameFirst}
use Rattle.td_schema.specs.Layouts.{schema_of}
use Rattle.td_schema.specs.declared.layout.Layout.{Layout}
use Rattle.td_schema.specs.declared.layout.Layout.TheVariants.{Grown2, Made1, Made2, Made3, Grown3From2, Grown3From1}
use Rattle.td_store_rows.specs.Columns.{MetaIsFirst, meta_table}

begins : (l : Layout) → MetaIsFirst (schema_of l)
begins Made1 = (_, refl)
begins Made2 = (_, refl)
begins Grown2 = (_, refl)
begins Made3 = (_, refl)
begins Grown3From2 = (_, refl)
begins Grown3From1 = (_, refl)

pub store_begins : (l : Layout) (s : Schema) → s ≡ schema_of l → MetaIsFirst s
store_begins l s is = subst MetaIsFirst (sym is) (begins l)

one_first : (t u : Table) (ts us : List Table) → t ∷ ts ≡ u ∷ us → t ≡ u
one_first t u ts us is = cc

pub begins_alike : (l : Layout) (s o : Schema) → HaveSameFirst s.tables o.tables → o ≡ schema_of l → MetaIsFirst s
begins_alike l s o same is =
    let first = store_begins l o is in
    let meta : same.first ≡ meta_table = one_first same.first meta_table same.further first.0 (sym same.other_begins ∙ first.1) in
    (same.rest, same.begins ∙ ap (λ t. t ∷ same.rest) meta)
