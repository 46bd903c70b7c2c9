-- Tables that keep each rule as they stand hold sound content, and the other way round.
use Rattle.std.proofs.Common.{◌≡◌, ◌≤◌, List, [], ◌∷◌, length, map, refl, sym, subst, ap, arith, IsPermutation}
use Rattle.std.specs.List.{AllByRecursion}
use Rattle.std.proofs.lemmas.List.Sorted.{IsPermutation-refl}
use Rattle.sqlite_value.specs.declared.value.Value.{Value}
use Rattle.sqlite_value.specs.declared.value.Value.TheVariants.{Text}
use Rattle.sqlite_value.specs.Order.{Row, column}
use Rattle.sqlite_trees.specs.Tree.{Trees}
use Rattle.sqlite_trees.proofs.ListLemmas.{all_weaker, map-map}
use Rattle.sqlite_typed.proofs.TestLemmas.{then_value}
use Rattle.td_base.specs.Codes.{IsCountry}
use Rattle.td_table_model.specs.declared.rule.Rule.{Rule}
use Rattle.td_table_model.specs.declared.rule.Rule.TheVariants.{S1, S2, S3, S4, S5, S6, S7, S8}
use Rattle.td_table_model.specs.Rules.{KeepRules}
use Rattle.td_table_model.specs.Stored.{AreStored}
use Rattle.td_table_model.specs.Tables.{without_amount}
use Rattle.td_table_model.proofs.Failing.{kept_each}
use Rattle.td_table_model.proofs.KeepingRules.{keep_rules}
use Rattle.td_table_model.proofs.Ruled.{are_of_content}
use Rattle.td_table_model.proofs.RuledSound.{content_is_sound}
use Rattle.typed_sql.specs.Typed.{IsTypedRow, row_of}
use Rattle.typed_sql.specs.Values.{number_in, number_value, text_in}
use Rattle.td_schema.specs.declared.layout.Layout.{Layout}
use Rattle.td_store_rows.specs.Columns.{meta_typing, holder_typing, guarantee_typing, kept_typing}
use Rattle.td_store_rows.specs.StoreTables.{AreAllTyped, country_in, tables_in}
use Rattle.td_store_audit_rows.specs.Untyped.{HasColumnTypes, HasGrnCount, HasIdentity, HasMrnCount, HasNumber, IsNumber, IsText}
use Rattle.td_store_audit_rows.specs.Laws.{AreKept, ContentKeepsRules, KeptRulesMeanContent}

-- what is a number, or a text, is read as that
pub number_read : (v : Value) → IsNumber v → v ≡ number_value (number_in v)
number_read v is = subst (λ w. w ≡ number_value (number_in w)) (sym is.1) refl

pub text_read : (v : Value) → IsText v → v ≡ Text (text_in v)
text_read v is = subst (λ w. w ≡ Text (text_in w)) (sym is.1) refl

-- a holder's row whose columns are of their kinds is typed
holder_typed : (r : Row) → HasNumber r → HasIdentity r → HasGrnCount r → HasMrnCount r → IsTypedRow holder_typing r
holder_typed r number identity grns mrns =
    then_value (number_read (column r 0) number)
    (then_value (text_read (column r 2) identity.0) (then_value (number_read (column r 3) identity.1)
    (then_value (number_read (column r 4) grns) (then_value (number_read (column r 5) mrns) refl))))

holders_typed : (rows : List Row) → AllByRecursion HasNumber rows → AllByRecursion HasIdentity rows → AllByRecursion HasGrnCount rows
    → AllByRecursion HasMrnCount rows → AllByRecursion (IsTypedRow holder_typing) rows
holders_typed [] number identity grns mrns = tt
holders_typed (r ∷ rows) number identity grns mrns =
    (holder_typed r number.0 identity.0 grns.0 mrns.0, holders_typed rows number.1 identity.1 grns.1 mrns.1)

all_typed : (l : Layout) (trees : Trees) → AreKept l trees → ((rule : Rule) → HasColumnTypes l rule trees) → AreAllTyped l trees
all_typed l trees kept kinds = record {
  meta = record { ids = kept.ids.meta; cells = (kinds S1).1 };
  holders = record {
    ids = kept.ids.holders;
    cells = holders_typed (trees holder_typing.table.tree) kept.numbers (kinds S2) (kinds S3).0 (kinds S5).0;
  };
  guarantees = record { ids = kept.ids.guarantees; cells = (kinds S3).1 };
  kept = λ keep. record { ids = kept.ids.guarantees; cells = kinds S7 keep };
  codes = record { ids = kept.ids.codes; cells = kinds S4 };
  movements = record { ids = kept.ids.movements; cells = (kinds S5).1 };
  lines = record { ids = kept.ids.lines; cells = kinds S6 };
}

-- the rows of guarantees are those that keep amounts in use, without them
same_rows : (l : Layout) (trees : Trees) → IsPermutation (tables_in l trees).guarantees (map without_amount (tables_in l trees).kept)
same_rows l trees =
    subst (IsPermutation (tables_in l trees).guarantees) (sym (map-map without_amount (row_of (kept_typing l)) (trees (guarantee_typing l).table.tree)))
    (IsPermutation-refl (tables_in l trees).guarantees)

-- what the database keeps of each typed table, put together
stored_of_kept : (l : Layout) (trees : Trees) → AreKept l trees → AreAllTyped l trees → AreStored (tables_in l trees)
stored_of_kept l trees kept typed =
    let guarantees = kept.guarantees typed.guarantees.cells in
    let codes = kept.codes typed.codes.cells in
    let movements = kept.movements typed.movements.cells in
    let lines = kept.lines typed.lines.cells in
    record {
      numbers = kept.holders.numbers;
      holders = kept.holders.apart;
      guarantees = guarantees.apart;
      codes = codes.apart;
      movements = movements.apart;
      lrns = movements.lrns;
      lines = lines.apart;
      guarantees_owned = guarantees.owned;
      codes_owned = codes.owned;
      movements_owned = movements.owned;
      lines_owned = lines.owned;
      without_codes = guarantees.without_codes;
      without_lines = movements.without_lines;
      kept = λ keep. same_rows l trees;
    }

pub rules_mean_content : KeptRulesMeanContent
rules_mean_content l trees kept keeps =
    let typed = all_typed l trees kept (λ rule. (keeps rule).0) in
    let keep : KeepRules (tables_in l trees) = (kept_each (tables_in l trees) (stored_of_kept l trees kept typed)).1 (λ rule. (keeps rule).1) in
    record { typed = typed; sound = content_is_sound (tables_in l trees) keep; tables = are_of_content (tables_in l trees) keep }

-- where there is a country there is the office's row
one_row : (rows : List Row) → length rows ≤ 1 → IsCountry (country_in (map (row_of meta_typing) rows)) → length rows ≡ 1
one_row [] most is = let none = is.size in cc
one_row (r ∷ rows) most is = omega (arith, most)

-- the columns of typed rows are of their kinds
kinds_kept : (l : Layout) (trees : Trees) → AreAllTyped l trees → length (trees meta_typing.table.tree) ≤ 1 → IsCountry (tables_in l trees).country
    → (rule : Rule) → HasColumnTypes l rule trees
kinds_kept l trees typed most country S1 = (one_row (trees meta_typing.table.tree) most country, typed.meta.cells)
kinds_kept l trees typed most country S2 =
    all_weaker (IsTypedRow holder_typing) HasIdentity
    (λ r is. (((row_of holder_typing r).eori, ap (λ cells. column cells 1) is), ((row_of holder_typing r).last_at, ap (λ cells. column cells 2) is)))
    (trees holder_typing.table.tree) typed.holders.cells
kinds_kept l trees typed most country S3 = (
  all_weaker (IsTypedRow holder_typing) HasGrnCount (λ r is. ((row_of holder_typing r).grn_count, ap (λ cells. column cells 3) is))
      (trees holder_typing.table.tree) typed.holders.cells,
  typed.guarantees.cells,
)
kinds_kept l trees typed most country S4 = typed.codes.cells
kinds_kept l trees typed most country S5 = (
  all_weaker (IsTypedRow holder_typing) HasMrnCount (λ r is. ((row_of holder_typing r).mrn_count, ap (λ cells. column cells 4) is))
      (trees holder_typing.table.tree) typed.holders.cells,
  typed.movements.cells,
)
kinds_kept l trees typed most country S6 = typed.lines.cells
kinds_kept l trees typed most country S7 = λ keep. (typed.kept keep).cells
kinds_kept l trees typed most country S8 = tt

pub content_keeps : ContentKeepsRules
content_keeps l trees c typed most sound are rule =
    let keep = keep_rules (tables_in l trees) c sound are in
    (kinds_kept l trees typed most keep.country rule, (kept_each (tables_in l trees) keep.stored).0 keep rule)
