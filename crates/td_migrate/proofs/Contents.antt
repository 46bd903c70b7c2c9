-- The content of a file that became one of version 2 is the same.
use Rattle.std.proofs.Common.{◌≡◌, ◌∙◌, Bool, true, false, List, [], ◌∷◌, map, Option, Some, None, IsPermutation, refl, sym, ap, ap₂, arith, subst}
use Rattle.std.specs.List.{AllByRecursion, sum_by}
use Rattle.std.specs.Prelude.{◌==◌, ◌&&◌, find, if◌then◌else◌, option_map, unwrap_or, IsSome}
use Rattle.std.specs.Str.{bytes_eq}
use Rattle.std.proofs.lemmas.Bool.Decides.{nat_tests}
use Rattle.std.proofs.lemmas.List.Sorted.{IsPermutation-map, IsPermutation-refl, IsPermutation-trans}
use Rattle.std.proofs.lemmas.Slice.Eq.{bytes_eq-Decides}
use Rattle.sqlite_trees.proofs.ListLemmas.{IsPermutation-same, all_both, all_weaker}
use Rattle.sqlite_trees.specs.Tree.{Trees}
use Rattle.sqlite_value.specs.Order.{Row}
use Rattle.sqlite.proofs.Callers.{one_permutation}
use Rattle.sqlite.specs.Effect.{Database}
use Rattle.sqlite.specs.State.{State}
use Rattle.td_base.specs.References.{serial_of}
use Rattle.td_model.specs.Content.{Content, account_in}
use Rattle.td_guarantee.specs.declared.guarantee.Guarantee.{Guarantee}
use Rattle.td_model.specs.Account.{guarantee_by_grn}
use Rattle.td_table_model.specs.Gathering.{with_codes}
use Rattle.td_table_model.specs.Laws.{IsAmountOf, TablesGrow}
use Rattle.td_table_model.specs.Looking.{cents_of, lines_in_use}
use Rattle.td_table_model.specs.Tables.{AreTablesOf, Keyed, Kept, Tables, first_version, guarantee_no, version_with_amounts, without_amount}
use Rattle.td_table_model.specs.Changes.{HaveSameRows}
use Rattle.td_table_model.proofs.Following.{same_tables}
use Rattle.td_table_model.proofs.Joining.{lines_are_use}
use Rattle.td_table_model.proofs.KeepingRules.{keep_rules}
use Rattle.td_table_model.proofs.Looked.{are_found}
use Rattle.td_table_model.proofs.Told.{tell_keys}
use Rattle.td_schema.specs.declared.layout.Layout.{Layout}
use Rattle.td_schema.specs.declared.layout.Layout.TheVariants.{Made1, Made2, Grown2, Made3, Grown3From2, Grown3From1}
use Rattle.typed_sql.specs.Typed.{Typing, row_of, typed_rows}
use Rattle.td_store_rows.specs.Columns.{code_typing, guarantee_typing, holder_typing, line_typing, meta_row, meta_typing, movement_typing}
use Rattle.td_store_rows.specs.MetaTable.{with_version}
use Rattle.td_store_rows.specs.StoreTables.{AreAllTyped, HasOfficeRow, country_in, tables_in}
use Rattle.td_store_rows.proofs.Turned.{listed_there, plain_rows, plain_typed}
use Rattle.td_migrate.specs.Filled.{with_its_use}
use Rattle.td_migrate.specs.Grown.{AreGrown, GrowsFrom, HaveContent, HoldsVersion}
use Rattle.td_migrate.specs.Moved.{BecomesSecond, IsSecond}
use Rattle.td_migrate.specs.Put.{KeepTheRules}
use Rattle.td_migrate.proofs.Putting.{typed_still}

-- a table whose tree is as it was has the same rows
pub rows_still : {R : Type 0} (ty : Typing R) (old new : Trees) → new ty.table.tree ≡ old ty.table.tree → IsPermutation (typed_rows ty old) (typed_rows ty new)
rows_still ty old new is = IsPermutation-same _ _ (ap (map (row_of ty)) (sym is))

-- a guarantee is of a holder and has a GRN
abbrev is_it : Keyed Guarantee → Keyed Guarantee → Bool
is_it g x = x.holder == g.holder && bytes_eq x.row.grn g.row.grn

itself : (g : Keyed Guarantee) → is_it g g ≡ true
itself g =
    let same : (g.holder == g.holder) ≡ true = grind (arith, nat_tests) in
    ap₂ ◌&&◌ same ((bytes_eq-Decides g.row.grn g.row.grn).1 refl)

-- what is found is found among more
in_more : (p : Keyed Guarantee → Bool) (x : Keyed Guarantee) (rows : List (Keyed Guarantee)) → IsSome (find p rows) → IsSome (find p (x ∷ rows))
in_more p x rows some = by_test (p x)
  where
    by_test : (b : Bool) → IsSome (if◌then◌else◌ {A = Option (Keyed Guarantee)} b (Some x) (find p rows))
    by_test true = refl
    by_test false = some

-- each is found among all
each_found : (rows : List (Keyed Guarantee)) → AllByRecursion (λ g. IsSome (find (is_it g) rows)) rows
each_found [] = tt
each_found (g ∷ rows) = (
  rw (itself g) refl,
  all_weaker (λ x. IsSome (find (is_it x) rows)) (λ x. IsSome (find (is_it x) (g ∷ rows))) (λ x some. in_more (is_it x) g rows some) rows (each_found rows),
)

some_mapped : {X Y : Type 0} (f : X → Y) (o : Option X) → IsSome o → IsSome (option_map f o)
some_mapped f (Some x) some = refl
some_mapped f None some = absurd (let e = some in cc)

-- without codes, as the rows of guarantees stand
abbrev bare : Keyed Guarantee → Keyed Guarantee
bare g = record g { row = record g.row { codes = [] } }

abbrev IsBare : Keyed Guarantee → Type 0
IsBare g = g.row.codes ≡ []

all_bare : (rows : List Row) → AllByRecursion IsBare (map (row_of (guarantee_typing Made1)) rows)
all_bare [] = tt
all_bare (r ∷ rows) = (refl, all_bare rows)

same_bare : (g : Keyed Guarantee) → IsBare g → bare g ≡ g
same_bare g is = ap (λ codes. record g { row = record g.row { codes = codes } }) (sym is)

without_use : (a : Trees) (rows : List (Keyed Guarantee)) → AllByRecursion IsBare rows → map without_amount (map (with_its_use a) rows) ≡ rows
without_use a [] all = refl
without_use a (g ∷ rows) all = ap₂ ◌∷◌ (same_bare g all.0) (without_use a rows all.1)

module _ (c : Content) (a : Database) (first : HoldsVersion Made1 c a) where
  abbrev t : Tables
  t = tables_in Made1 a.trees

  abbrev IsTold : Keyed Guarantee → Type 0
  IsTold g = serial_of t.country g.row.grn ≡ Some g.serial

  abbrev IsThere : Keyed Guarantee → Type 0
  IsThere g = IsSome (guarantee_by_grn g.row.grn (account_in g.holder c).guarantees)

  told : AllByRecursion IsTold t.guarantees
  told = all_weaker _ IsTold (λ g both. both.1) t.guarantees (tell_keys t c first.content.sound first.content.tables).grns

  there : AllByRecursion IsThere t.guarantees
  there =
      all_weaker (λ g. IsSome (find (is_it g) t.guarantees)) IsThere
      (λ g some. subst IsSome (sym ((are_found t c first.content.sound first.content.tables g.holder).grns g.row.grn)) (some_mapped (with_codes t) (find (is_it g) t.guarantees) some))
      t.guarantees (each_found t.guarantees)

  -- what the lines on a guarantee add up to is in use on it
  amount : (g : Keyed Guarantee) → IsTold g → IsThere g → IsAmountOf c (with_its_use a.trees g)
  amount g tells some =
      ap (λ n. sum_by cents_of (lines_in_use g.holder n t)) (sym (ap (λ o. unwrap_or o 0) tells))
      ∙ lines_are_use t c first.content.sound first.content.tables g.holder g.row.grn some (lines_in_use g.holder (guarantee_no t.country g.row.grn) t) (IsPermutation-refl _)

  amounts : AllByRecursion (λ g. IsAmountOf c (with_its_use a.trees g)) t.guarantees
  amounts = all_both IsTold IsThere (λ g. IsAmountOf c (with_its_use a.trees g)) (λ g tells some. amount g tells some) t.guarantees told there

  mapped : (rows : List (Keyed Guarantee)) → AllByRecursion (λ g. IsAmountOf c (with_its_use a.trees g)) rows
      → AllByRecursion (IsAmountOf c) (map (with_its_use a.trees) rows)
  mapped [] all = tt
  mapped (g ∷ rows) all = (all.0, mapped rows all.1)

  module _ (grow : TablesGrow) (b : Database) (now : IsSecond a b) where
    abbrev kept : List (Keyed Kept)
    kept = map (with_its_use a.trees) t.guarantees

    same_guarantees : IsPermutation t.guarantees (map without_amount kept)
    same_guarantees = IsPermutation-same _ _ (sym (without_use a.trees t.guarantees (all_bare (a.trees (guarantee_typing Made1).table.tree))))

    abbrev u : Tables
    u = record t { version = version_with_amounts; kept = kept }

    pub are : AreTablesOf u c
    are = grow t c kept first.content.sound first.content.tables same_guarantees (mapped t.guarantees amounts)

    pub office : HasOfficeRow version_with_amounts c.country b.trees
    office =
        one_permutation (meta_row version_with_amounts c.country) (typed_rows meta_typing b.trees)
        (subst (λ l. IsPermutation (map (with_version version_with_amounts) l) (typed_rows meta_typing b.trees)) first.content.office now.office)

    pub same_rows : HaveSameRows u (tables_in Grown2 b.trees)
    same_rows = record {
      version = refl;
      country = ap country_in office ∙ sym (ap country_in first.content.office);
      holders = rows_still holder_typing a.trees b.trees now.others.holders;
      guarantees = IsPermutation-trans _ _ _ same_guarantees (subst (IsPermutation (map without_amount kept)) (sym (plain_rows Grown2 b.trees)) (IsPermutation-map without_amount _ _ now.kept));
      kept = λ keep. now.kept;
      codes = rows_still code_typing a.trees b.trees now.others.codes;
      movements = rows_still movement_typing a.trees b.trees now.others.movements;
      lines = rows_still (line_typing Grown2) a.trees b.trees now.others.lines;
    }

    pub typed : AreAllTyped Grown2 b.trees
    typed = record {
      meta = now.office_typed;
      holders = typed_still holder_typing a.trees b.trees now.others.holders first.content.typed.holders;
      guarantees = plain_typed Grown2 b.trees now.typed;
      kept = λ keep. now.typed;
      codes = typed_still code_typing a.trees b.trees now.others.codes first.content.typed.codes;
      movements = typed_still movement_typing a.trees b.trees now.others.movements first.content.typed.movements;
      lines = typed_still (line_typing Grown2) a.trees b.trees now.others.lines first.content.typed.lines;
    }

    -- so its trees hold that content
    pub content : HaveContent Grown2 c b.trees
    content = record {
      typed = typed;
      sound = first.content.sound;
      tables = same_tables u (tables_in Grown2 b.trees) c are same_rows;
      office = office;
    }

    pub grown_trees : AreGrown Made1 c a.trees b.trees
    grown_trees = record { listed = listed_there Grown2 b now.schema now.sound; content = content; left = now.emptied }

-- the rows of a file with a content keep the rules
pub rules_kept : (l : Layout) (c : Content) (a : Database) → HoldsVersion l c a → KeepTheRules l a.trees
rules_kept l c a held = record { typed = held.content.typed; rules = keep_rules (tables_in l a.trees) c held.content.sound held.content.tables }

-- whatever content the file held
pub second_grows : TablesGrow → (a b : State) → BecomesSecond a b → GrowsFrom first_version a.now b.now
second_grows grow a b becomes Made1 is c first =
    let second : IsSecond a.now b.now = becomes (λ _. first.schema) (rules_kept Made1 c a.now first) in
    record { schema = second.schema; trees = grown_trees c a.now first grow b.now second }
second_grows grow a b becomes Made2 is c first = absurd cc
second_grows grow a b becomes Grown2 is c first = absurd cc
second_grows grow a b becomes Made3 is c first = absurd cc
second_grows grow a b becomes Grown3From2 is c first = absurd cc
second_grows grow a b becomes Grown3From1 is c first = absurd cc
