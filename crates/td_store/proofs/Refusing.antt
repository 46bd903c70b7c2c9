-- What a refusal, or none, says of the database that a desk was to be opened over.
use Rattle.std.proofs.Common.{◌≡◌, ◌∙◌, ◌⊎◌, ℕ, ◌≤◌, List, [], ◌∷◌, Some, None, ap, arith, inl, inr, length, refl, subst, sym}
use Rattle.std.specs.Prelude.{IsTrue, ℤ, codes, pos}
use Rattle.std.proofs.lemmas.List.{length-map}
use Rattle.sqlite_schema.specs.Names.{same_name, table_named}
use Rattle.sqlite_schema.specs.declared.schema.Schema.{Schema}
use Rattle.sqlite_trees.specs.Tree.{Trees}
use Rattle.sqlite.specs.Effect.{Database, IsDatabase}
use Rattle.sqlite.specs.State.{State, IsLive}
use Rattle.td_model.specs.Content.{Content}
use Rattle.td_table_model.specs.Gathering.{content_of}
use Rattle.td_table_model.specs.declared.rule.Rule.{Rule}
use Rattle.td_schema.specs.Layouts.{newest_version, schema_of}
use Rattle.td_schema.specs.declared.layout.Layout.{Layout}
use Rattle.td_schema.specs.declared.layout.Layout.TheVariants.{Grown2, Made1, Made2, Made3, Grown3From2, Grown3From1}
use Rattle.typed_sql.specs.Typed.{row_of, typed_rows}
use Rattle.td_store_rows.specs.Columns.{MetaRow, meta_row, meta_typing}
use Rattle.td_store_rows.specs.StoreTables.{AreTreesOf, HasOfficeRow, HoldsContent, country_in, tables_in}
use Rattle.td_store_rows.proofs.Turned.{listed_there}
use Rattle.td_store_audit_rows.specs.Laws.{ContentKeepsRules}
use Rattle.td_store_audit_rows.specs.Untyped.{KeepsUntyped}
use Rattle.td_store_check.proofs.Begins.{store_begins}
use Rattle.td_store.proofs.Holding.{layout_back, trees_hold}
use Rattle.td_store.specs.Kept.{content_in}
use Rattle.td_store_check.specs.declared.fault.OpenFault.{OpenFault}
use Rattle.td_store_check.specs.declared.fault.OpenFault.TheVariants.{UnknownVersion, NeedsMigration, OtherCountry, Damaged, Store, NoMemory}
use Rattle.td_store_check.specs.Opened.{AreDamaged, AreOfDesk, IsEarlier, IsOfAnother, IsOfEarlier, IsOfKnownVersion, IsOfUnknownVersion, IsStoreSchema, LacksMeta, TellsDatabase, TellsTables}

-- where there is none, it has a store's tables, and they are a desk's
of_desk : (country : List ℕ) (db : Database) → TellsDatabase country db None
    → (layout : Layout) × (db.schema ≡ schema_of layout) × AreOfDesk country layout db.trees
of_desk country db (inl (inl is)) = absurd cc
of_desk country db (inl (inr is)) = absurd cc
of_desk country db (inr (inl is)) = let e = is.0 in absurd cc
of_desk country db (inr (inr told)) = told

abbrev trees_of : (country : List ℕ) (layout : Layout) (db : Database) → db.schema ≡ schema_of layout → IsDatabase db
    → AreOfDesk country layout db.trees → AreTreesOf (content_of (tables_in layout db.trees)) db.trees
trees_of country layout db has obeys desk = record {
  layout = layout;
  newest = desk.newest;
  listed = listed_there layout db has obeys;
  typed = desk.content.typed;
  sound = desk.content.sound;
  tables = desk.content.tables;
  office = desk.office ∙ ap (λ k. meta_row newest_version k ∷ []) (sym (ap country_in desk.office));
}

holds : (country : List ℕ) (layout : Layout) (s : State) → s.now.schema ≡ schema_of layout → IsDatabase s.now
    → AreOfDesk country layout s.now.trees → HoldsContent (content_in s.now.trees) s
holds country layout s has obeys desk =
    let trees = trees_of country layout s.now has obeys desk in
    subst (λ c. HoldsContent c s) (sym (trees_hold _ s.now.trees trees)) (record { trees = trees; schema = λ _. has })

-- so an open connection that sees that database holds the content of its trees, which is of that country
pub desk_there : (country : List ℕ) (db : Database) (s : State) → TellsDatabase country db None → s.now ≡ db → IsLive s
    → IsTrue s.is_open
    → HoldsContent (content_in s.now.trees) s × ((content_in s.now.trees).country ≡ country) × HasOfficeRow newest_version country s.now.trees
desk_there country db s told same live is =
    let desk = of_desk country s.now (subst (λ d. TellsDatabase country d None) (sym same) told) in
    (holds country desk.0 s desk.1 (live is).0 desk.2, ap country_in desk.2.office, desk.2.office)

-- another country was refused for what the office's own row says
other_there : (country : List ℕ) (db : Database) → TellsDatabase country db (Some OtherCountry)
    → IsStoreSchema db.schema × IsOfAnother country db.trees
other_there country db (inl (inl is)) = absurd cc
other_there country db (inl (inr is)) = absurd cc
other_there country db (inr (inl is)) = let e = is.0 in absurd cc
other_there country db (inr (inr told)) = ((told.0, told.1), told.2)

pub another_there : (country : List ℕ) (db : Database) (fault : OpenFault) → TellsDatabase country db (Some fault)
    → fault ≡ OtherCountry → IsStoreSchema db.schema × IsOfAnother country db.trees
another_there country db fault told is =
    other_there country db (subst (λ f. TellsDatabase country db (Some f)) is told)

-- so was an earlier version
earlier_told : (country : List ℕ) (db : Database) (version : ℕ) → TellsDatabase country db (Some (NeedsMigration version))
    → IsStoreSchema db.schema × IsOfEarlier version db.trees
earlier_told country db version (inl (inl is)) = absurd cc
earlier_told country db version (inl (inr is)) = absurd cc
earlier_told country db version (inr (inl is)) = let e = is.0 in absurd cc
earlier_told country db version (inr (inr told)) = ((told.0, told.1), told.2)

pub earlier_there : (country : List ℕ) (db : Database) (fault : OpenFault) → TellsDatabase country db (Some fault)
    → (version : ℕ) → fault ≡ NeedsMigration version → IsStoreSchema db.schema × IsOfEarlier version db.trees
earlier_there country db fault told version is =
    earlier_told country db version (subst (λ f. TellsDatabase country db (Some f)) is told)

-- and damage, for the first rule that the tables break
broken_told : (country : List ℕ) (db : Database) (rule : Rule) → TellsDatabase country db (Some (Damaged rule))
    → (layout : Layout) × (db.schema ≡ schema_of layout) × AreDamaged country rule layout db.trees
broken_told country db rule (inl (inl is)) = absurd cc
broken_told country db rule (inl (inr is)) = absurd cc
broken_told country db rule (inr (inl is)) = let e = is.0 in absurd cc
broken_told country db rule (inr (inr told)) = told

pub broken_there : (country : List ℕ) (db : Database) (fault : OpenFault) → TellsDatabase country db (Some fault)
    → (rule : Rule) → fault ≡ Damaged rule → (layout : Layout) × (db.schema ≡ schema_of layout) × AreDamaged country rule layout db.trees
broken_there country db fault told rule is =
    broken_told country db rule (subst (λ f. TellsDatabase country db (Some f)) is told)

-- so was an unknown version, for what it says or since there is no table `meta`
unknown_told : (country : List ℕ) (db : Database) → TellsDatabase country db (Some UnknownVersion) → IsOfUnknownVersion db
unknown_told country db (inl (inl is)) = absurd cc
unknown_told country db (inl (inr is)) = absurd cc
unknown_told country db (inr (inl is)) = is.1
unknown_told country db (inr (inr told)) = inr (store_begins told.0 db.schema told.1, told.2)

pub unknown_there : (country : List ℕ) (db : Database) (fault : OpenFault) → TellsDatabase country db (Some fault)
    → fault ≡ UnknownVersion → IsOfUnknownVersion db
unknown_there country db fault told is =
    unknown_told country db (subst (λ f. TellsDatabase country db (Some f)) is told)

-- a store has a table `meta`
meta_there : (l : Layout) → table_named (schema_of l) (codes "meta") ≡ Some 0
unfolding same_name
meta_there Made1 = refl
meta_there Made2 = refl
meta_there Grown2 = refl
meta_there Made3 = refl
meta_there Grown3From2 = refl
meta_there Grown3From1 = refl

none_lacks : (l : Layout) (s : Schema) → s ≡ schema_of l → ¬ LacksMeta s
none_lacks l s is lacks = let e = sym (meta_there l) ∙ ap (λ t. table_named t (codes "meta")) (sym is) ∙ lacks in absurd cc

one_row : (country : List ℕ) (trees : Trees) → HasOfficeRow newest_version country trees → length (trees meta_typing.table.tree) ≤ 1
one_row country trees row =
    let one : length (typed_rows meta_typing trees) ≡ 1 = ap length row in
    let all = length-map (trees meta_typing.table.tree) (row_of meta_typing) in
    omega (arith, one, all)

-- the version in a row
abbrev version_in : List MetaRow → ℤ
version_in [] = pos 0
version_in (row ∷ rows) = row.version

later : (earlier : ℕ) → IsEarlier earlier → ¬ (pos earlier ≡ pos newest_version)
later earlier is same = let e : earlier ≡ newest_version = cc in omega (arith, is.1, e)

module _ (country : List ℕ) (s : State) (is_open : IsTrue s.is_open) (c : Content) (has : HoldsContent c s)
    (at : c.country ≡ country) (keeps : ContentKeepsRules) where
  row : HasOfficeRow newest_version country s.now.trees
  row = subst (λ k. HasOfficeRow newest_version k s.now.trees) at has.trees.office

  -- the office's own row says the newest version, which is known
  version : IsOfKnownVersion s.now.trees
  version = (newest_version, (omega (arith), omega (arith)), record { typed = has.trees.typed.meta; country = country; row = row })

  -- and the layout is the one that the content stands in
  this_layout : (layout : Layout) → s.now.schema ≡ schema_of layout → layout ≡ has.trees.layout
  this_layout layout at =
      sym (layout_back layout s.now.trees (subst (λ k. IsDatabase (record { schema = k; trees = s.now.trees })) (sym (has.schema is_open) ∙ at) has.trees.listed))
      ∙ layout_back has.trees.layout s.now.trees has.trees.listed

  sound_tables : (layout : Layout) → s.now.schema ≡ schema_of layout → (fault : OpenFault)
      → TellsTables country layout s.now.trees (Some fault) → (fault ≡ Store) ⊎ (fault ≡ NoMemory)
  sound_tables layout at UnknownVersion told = absurd (told version)
  sound_tables layout at (NeedsMigration earlier) told =
      let row_says = told.1 has.trees.typed.meta in
      let same : pos earlier ≡ pos newest_version = ap version_in (sym row_says.1 ∙ row) in
      absurd (later earlier told.0 same)
  sound_tables layout at OtherCountry told =
      let other = told has.trees.typed.meta in
      absurd (other.2 (ap country_in (sym other.1 ∙ row)))
  sound_tables layout at (Damaged rule) told =
      absurd (told.first.broken (subst (λ l. KeepsUntyped l s.now.trees rule) (sym (this_layout layout at))
      (keeps has.trees.layout s.now.trees c has.trees.typed (one_row country s.now.trees row) has.trees.sound has.trees.tables rule)))
  sound_tables layout at Store told = inl refl
  sound_tables layout at NoMemory told = inr refl

  known : ¬ IsOfUnknownVersion s.now
  known (inl lacks) = none_lacks has.trees.layout s.now.schema (has.schema is_open) lacks
  known (inr other) = other.1 version

  -- where sound content of that country stands, nothing is said of the database
  pub sound_there : (fault : OpenFault) → TellsDatabase country s.now (Some fault) → (fault ≡ Store) ⊎ (fault ≡ NoMemory)
  sound_there fault (inl (inl is)) = inl cc
  sound_there fault (inl (inr is)) = inr cc
  sound_there fault (inr (inl is)) = absurd (known is.1)
  sound_there fault (inr (inr told)) = sound_tables told.0 told.1 fault told.2
