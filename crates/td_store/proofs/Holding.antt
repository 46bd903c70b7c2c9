-- What a connection that holds a content shows of it.
use Rattle.std.proofs.Common.{◌≡◌, ◌∙◌, ℕ, Bool, true, false, List, Option, [], ◌∷◌, ap, ap₂, refl, subst, sym}
use Rattle.std.specs.Prelude.{IsTrue, ◌||◌, codes, filter}
use Rattle.std.specs.List.{AllZip, list_any}
use Rattle.std.specs.Str.{bytes_eq}
use Rattle.sqlite_catalog.specs.Listing.{IsTableRow, is_table_row}
use Rattle.sqlite_schema.specs.declared.schema.Table.{Table}
use Rattle.sqlite_value.specs.Order.{Row, column}
use Rattle.typed_sql.specs.Values.{text_in}
use Rattle.sqlite_trees.specs.Objects.{catalog_tree}
use Rattle.sqlite_trees.specs.Tree.{Trees}
use Rattle.sqlite.specs.State.{State, HasCleanDisk}
use Rattle.td_model.specs.declared.change.Change.{Change}
use Rattle.td_acts.specs.declared.rows.Verdict.{Verdict}
use Rattle.td_model.specs.Content.{Content, content_after, IsSound}
use Rattle.td_acts.specs.Weighing.{IsDecision, kept_for}
use Rattle.td_acts.specs.Deciding.{IsLoaded}
use Rattle.td_acts.specs.declared.rows.Loaded.{Loaded}
use Rattle.td_commands.specs.Commands.{Need}
use Rattle.td_table_model.proofs.Gathered.{content_is}
use Rattle.td_table_model.specs.Gathering.{content_of}
use Rattle.td_schema.specs.Layouts.{newest_layout, schema_of}
use Rattle.td_schema.specs.declared.layout.Layout.{Layout}
use Rattle.td_schema.specs.declared.layout.Layout.TheVariants.{Grown2, Made1, Made2, Made3, Grown3From2, Grown3From1}
use Rattle.td_store_rows.specs.StoreTables.{AreStoreTrees, AreTreesOf, HoldsContent, tables_in}
use Rattle.td_store_rows.proofs.Holding.{holds_still}
use Rattle.td_store_write.specs.Carried.{CarriesChange, IsDecidedOver}
use Rattle.td_store_write.proofs.After.{after_country}
use Rattle.td_store_rows.specs.StoreReads.{HasNewestTables}
use Rattle.td_store.specs.Kept.{IsDeskOf, content_in, layout_in, list_table}
use Rattle.td_store_check.specs.Named.{layout_by}

-- a name is listed where a table has it
listed_as : (name : List ℕ) (rows : List Row) (tables : List Table) → AllZip IsTableRow rows tables
    → list_any (λ row. bytes_eq (text_in (column row 2)) name) rows ≡ list_any (λ (t : Table). bytes_eq t.name name) tables
listed_as name [] [] zip = refl
listed_as name [] (t ∷ tables) zip = absurd zip
listed_as name (r ∷ rows) [] zip = absurd zip
listed_as name (r ∷ rows) (t ∷ tables) zip =
    ap₂ ◌||◌ (ap (λ v. bytes_eq (text_in v) name) zip.0.described.name_is) (listed_as name rows tables zip.1)

-- a layout has a table of this name
abbrev has_table : List ℕ → Layout → Bool
has_table name l = list_any (λ (t : Table). bytes_eq t.name name) (schema_of l).tables

-- so the layout of a store's tables is told by their names
names_told : (l : Layout)
    → layout_by (has_table (codes "guarantees1") l) (has_table (codes "guarantees2") l) (has_table (codes "lines1") l) (has_table (codes "lines3") l) ≡ l
names_told Made1 = refl
names_told Made2 = refl
names_told Grown2 = refl
names_told Made3 = refl
names_told Grown3From2 = refl
names_told Grown3From1 = refl

pub layout_back : (l : Layout) (trees : Trees) → AreStoreTrees l trees → layout_in trees ≡ l
layout_back l trees listed =
    let told : (name : List ℕ) → list_table name trees ≡ has_table name l =
    λ name. listed_as name (filter is_table_row (trees catalog_tree)) (schema_of l).tables listed.lists.listed.tables in
    ap₂ (λ first kept. layout_by first kept (list_table (codes "lines1") trees) (list_table (codes "lines3") trees))
    (told (codes "guarantees1")) (told (codes "guarantees2"))
    ∙ ap₂ (layout_by (has_table (codes "guarantees1") l) (has_table (codes "guarantees2") l)) (told (codes "lines1")) (told (codes "lines3"))
    ∙ names_told l

-- a desk's trees hold the content that they are of
pub trees_hold : (c : Content) (trees : Trees) → AreTreesOf c trees → content_in trees ≡ c
trees_hold c trees are =
    ap (λ l. content_of (tables_in l trees)) (layout_back are.layout trees are.listed)
    ∙ content_is (tables_in are.layout trees) c are.sound are.tables

-- and so are those of one content
pub one_content : (c x : Content) (trees : Trees) → AreTreesOf c trees → AreTreesOf x trees → c ≡ x
one_content c x trees are those = sym (trees_hold c trees are) ∙ trees_hold x trees those

-- the content that a connection holds is that of its trees
pub content_held : (c : Content) (s : State) → HoldsContent c s → content_in s.now.trees ≡ c
content_held c s holds = trees_hold c s.now.trees holds.trees

-- which it holds then
pub holds_shown : (c : Content) (s : State) → HoldsContent c s → HoldsContent (content_in s.now.trees) s
holds_shown c s holds = subst (λ x. HoldsContent x s) (sym (content_held c s holds)) holds

-- a connection that is shut is to a file of any layout; and so a desk has a store's tables
by_open : (s : State) (live : Bool) → s.is_open ≡ live → (live ≡ true → (c : Content) × HoldsContent c s) → HasNewestTables s
by_open s true is holds =
    let it = holds refl in
    (it.1.trees.layout, it.1.trees.newest, it.1.schema)
by_open s false is holds = (newest_layout, refl, λ now. absurd (let e = sym is ∙ now in cc))

pub tables_there : (country : List ℕ) (s : State) → IsDeskOf country s → HasCleanDisk s → HasNewestTables s
tables_there country s desk clean =
    by_open s s.is_open refl (λ is. let it = desk clean is in (it.0, it.1))

-- and holds the content of its trees
pub holds_own : (country : List ℕ) (s : State) → IsDeskOf country s → HasCleanDisk s → IsTrue s.is_open
    → HoldsContent (content_in s.now.trees) s
holds_own country s desk clean is =
    let was : (c : Content) × HoldsContent c s × (c.country ≡ country) = desk clean is in
    holds_shown was.0 s was.1

-- a desk that sees what another saw is a desk, too
pub desk_still : (country : List ℕ) (a b : State) → IsDeskOf country a → (HasCleanDisk b → HasCleanDisk a)
    → (HasCleanDisk b → IsTrue b.is_open → IsTrue a.is_open) → (HasCleanDisk b → IsTrue b.is_open → b.now ≡ a.now)
    → IsDeskOf country b
desk_still country a b desk cleans live same clean is =
    let was : (c : Content) × HoldsContent c a × (c.country ≡ country) = desk (cleans clean) (live clean is) in
    let now : b.now ≡ a.now = same clean is in
    (was.0, holds_still was.0 a b now (λ _. live clean is) was.1, was.2)

-- what is decided on the content of the trees is decided on the content that the connection holds
decided_over : (country : List ℕ) (change : Change) (s : State) (c : Content) → HoldsContent c s → c.country ≡ country
    → (IsSound (content_in s.now.trees) → (v : Verdict) × (v.change ≡ change) × IsDecision (content_in s.now.trees) v)
    → IsDecidedOver country change s c
decided_over country change s c holds at decided =
    let same : content_in s.now.trees ≡ c = content_held c s holds in
    let d = decided (subst IsSound (sym same) holds.trees.sound) in
    record {
      holds = holds;
      country = at;
      verdict = d.0;
      change = d.1;
      decision = subst (λ x. IsDecision x d.0) same d.2;
    }

-- what was loaded of the content that the connection holds was loaded of that of the trees
pub loaded_there : (owner : Option ℕ) (need : Need) (s : State) (c : Content) (loaded : Loaded) → HoldsContent c s
    → IsLoaded (kept_for owner c) need loaded → IsLoaded (kept_for owner (content_in s.now.trees)) need loaded
loaded_there owner need s c loaded holds is = subst (λ x. IsLoaded (kept_for owner x) need loaded) (sym (content_held c s holds)) is

-- a change that a desk decided on the content of its trees; the connection was a desk's
module _ (country : List ℕ) (change : Change) (a : State) (desk : IsDeskOf country a)
    (decided : HasCleanDisk a → IsTrue a.is_open → IsSound (content_in a.now.trees)
    → (v : Verdict) × (v.change ≡ change) × IsDecision (content_in a.now.trees) v) (clean : HasCleanDisk a) (is : IsTrue a.is_open) where
  -- so it is decided over a content that the connection holds
  pub decided_there : (c : Content) × IsDecidedOver country change a c
  decided_there =
      let was : (c : Content) × HoldsContent c a × (c.country ≡ country) = desk clean is in
      (was.0, decided_over country change a was.0 was.1 was.2 (decided clean is))

  -- which is that of its trees
  pub there_is : decided_there.0 ≡ content_in a.now.trees
  there_is = sym (content_held decided_there.0 a decided_there.1.holds)

  module _ (b : State) (carries : CarriesChange country change a b) where
    -- after the change the trees hold the content after it
    pub written : content_in b.now.trees ≡ content_after change (content_in a.now.trees)
    written =
        content_held (content_after change decided_there.0) b (carries decided_there.0 decided_there.1).0 ∙ ap (content_after change) there_is

    -- and it is a desk's
    pub desk_after : (d : Content) × HoldsContent d b × (d.country ≡ country)
    desk_after = (
      content_after change decided_there.0,
      (carries decided_there.0 decided_there.1).0,
      after_country change decided_there.0 ∙ decided_there.1.country,
    )
