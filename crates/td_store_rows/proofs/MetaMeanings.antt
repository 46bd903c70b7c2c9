-- What the statements on the table `meta` mean, in a store's file of each layout, and where the tables begin with it.
use Rattle.std.proofs.Common.{refl, true, ◌≡◌, subst, sym}
use Rattle.std.specs.Prelude.{pos, List, [], ◌∷◌, codes}
use Rattle.td_schema.proofs.Wider.{are_still, wider}
use Rattle.td_schema.proofs.Still.{none_act}
use Rattle.td_schema.proofs.InEach.{in_each}
use Rattle.sqlite_tied.specs.Compute.{everything}
use Rattle.sqlite.specs.Listing.{understood}
use Rattle.sqlite_schema.specs.declared.schema.Index.{Index}
use Rattle.sqlite_schema.specs.declared.schema.Schema.{Schema}
use Rattle.sqlite_schema.specs.declared.schema.Table.{Table}
use Rattle.sqlite_schema.specs.declared.schema.View.{View}
use Rattle.sqlite_value.specs.declared.value.Value.TheVariants.{Int, Null}
use Rattle.sqlite_sql.specs.Term.{Term, lit, col}
use Rattle.td_schema.specs.Layouts.{schema_of}
use Rattle.td_schema.specs.declared.layout.Layout.{Layout}
use Rattle.td_schema.specs.declared.layout.Layout.TheVariants.{Made1, Made2, Grown2, Made3, Grown3From2, Grown3From1}
use Rattle.typed_sql.specs.Meanings.{HasTable, MeansInsert, MeansSelect, MeansUpdate}
use Rattle.td_store_rows.specs.Columns.{MetaIsFirst, meta_table}
use Rattle.td_store_rows.specs.declared.meta.texts.TheConstants.{INSERT, SET_VERSION, FIND}

meta_there : (more : List Table) (indexes : List Index) (views : List View) → are_still more ≡ true → HasTable (wider more indexes views) 0 meta_table
meta_there more indexes views still = record { there = refl; free = none_act (wider more indexes views) still 0 }

-- the columns of a new row, under the rowid 1, of one whose version is set, and of one that is shown
abbrev pub new_row : List Term
new_row = lit (Int (pos 1)) ∷ lit Null ∷ col 0 0 ∷ col 0 1 ∷ []

abbrev pub new_version : List Term
new_version = lit Null ∷ col 0 0 ∷ col 1 3 ∷ []

abbrev pub all_columns : List Term
all_columns = col 1 2 ∷ col 1 3 ∷ []

insert_means_in : (more : List Table) (indexes : List Index) (views : List View) → are_still more ≡ true → MeansInsert (wider more indexes views) INSERT.now meta_table new_row
unfolding understood everything
insert_means_in more indexes views still = record { place = 0; width = 4; table = meta_there more indexes views still; command = refl; plain = (refl, refl); one = λ values. refl }

pub insert_means : (l : Layout) → MeansInsert (schema_of l) INSERT.now meta_table new_row
insert_means = in_each (λ s. MeansInsert s INSERT.now meta_table new_row) insert_means_in

set_means_in : (more : List Table) (indexes : List Index) (views : List View) → are_still more ≡ true → MeansUpdate (wider more indexes views) SET_VERSION.now meta_table [] new_version
unfolding understood everything
set_means_in more indexes views still = record { place = 0; table = meta_there more indexes views still; command = refl; plain = (refl, refl) }

pub set_means : (l : Layout) → MeansUpdate (schema_of l) SET_VERSION.now meta_table [] new_version
set_means = in_each (λ s. MeansUpdate s SET_VERSION.now meta_table [] new_version) set_means_in

find_first : (others : List Table) (indexes : List Index) (views : List View)
    → MeansSelect (record { tables = meta_table ∷ others; indexes = indexes; views = views }) FIND.now 0 [] all_columns []
unfolding understood everything
find_first others indexes views =
    record { names = codes "version" ∷ codes "country" ∷ []; command = refl; plain = (refl, refl); unlisted = refl }

pub find_means : (s : Schema) → MetaIsFirst s → MeansSelect s FIND.now 0 [] all_columns []
find_means s first =
    subst (λ tables. MeansSelect (record { tables = tables; indexes = s.indexes; views = s.views }) FIND.now 0 [] all_columns [])
    (sym first.1) (find_first first.0 s.indexes s.views)

-- so it stands in each layout
pub meta_first : (l : Layout) → MetaIsFirst (schema_of l)
meta_first Made1 = (_, refl)
meta_first Made2 = (_, refl)
meta_first Grown2 = (_, refl)
meta_first Made3 = (_, refl)
meta_first Grown3From2 = (_, refl)
meta_first Grown3From1 = (_, refl)
