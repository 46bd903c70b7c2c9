-- Rows that are picked of the tables of a desk's file, and what content they are of.
use Rattle.std.proofs.Common.{◌≡◌, ◌∙◌, ◌+◌, ◌<◌, ◌≤◌, ℕ, Bool, true, false, List, [], ◌∷◌, ◌++◌, map, flat_map, Some, None, refl, sym, ap, ap₂, subst, IsPermutation}
use Rattle.std.specs.Prelude.{filter}
use Rattle.std.specs.List.{AllByRecursion}
use Rattle.std.proofs.lemmas.List.{append-nil}
use Rattle.std.proofs.lemmas.List.Elements.{filter-append}
use Rattle.std.proofs.lemmas.List.Sorted.{IsPermutation-refl}
use Rattle.sqlite_trees.specs.Tree.{Trees}
use Rattle.sqlite_trees.proofs.ListLemmas.{IsPermutation-filter, IsPermutation-same, all_weaker, filter-map, filter_all, filter_none}
use Rattle.sqlite.specs.State.{State}
use Rattle.td_model.specs.Account.{HolderRows, holder_key}
use Rattle.td_model.specs.declared.holder_row.HolderRow.{HolderRow}
use Rattle.td_model.specs.Content.{Content, IsSound, empty_content}
use Rattle.td_table_model.specs.Gathering.{owner}
use Rattle.td_table_model.specs.Stored.{AreStored}
use Rattle.td_table_model.specs.Tables.{AreTablesOf, KeepAmounts, Keyed, Tables, code_rows_of, guarantees_in, kept_in, line_rows_of, movements_in, without_amount}
use Rattle.td_table_model.proofs.KeepingRules.{keep_rules}
use Rattle.td_table_model.proofs.Owned.{owned_codes, owned_guarantees, owned_kept, owned_lines, owned_movements}
use Rattle.td_schema.specs.declared.layout.Layout.{Layout}
use Rattle.td_store_rows.specs.StoreReads.{KeepsUse}
use Rattle.td_store_rows.specs.StoreTables.{tables_in}
use Rattle.td_store_rows.proofs.StoreReads.{newest_keeps}
use Rattle.td_store_rows.proofs.Turned.{plain_rows}
use Rattle.td_extract.specs.Between.{content_between, is_between}
use Rattle.td_extract.specs.Copied.{Rows, codes_within, guarantees_within, kept_within, lines_within, movements_within, no_rows, of_holders, of_row, rows_within, with_rows}
use Rattle.td_extract.specs.Extracted.{HasLeastOf, IsNextOf}
use Rattle.td_extract.proofs.Copied.{PickSame}
use Rattle.td_extract.proofs.Lists.{beside_none}
use Rattle.td_extract.proofs.Placed.{all_holders_there, all_there, codes_placed, holder_joins, holders_join, kept_owned, kept_placed, lines_placed, movements_placed, no_holder_before, none_before, range_none, ranges_join}
use Rattle.td_extract.proofs.Rows.{both}

-- rows that are one list
same_list : {X : Type 0} (xs : List X) → IsPermutation (xs ++ []) xs
same_list xs = IsPermutation-same (xs ++ []) xs (append-nil xs)

none_is : {X : Type 0} (xs : List X) → xs ≡ [] → IsPermutation [] xs
none_is xs is = IsPermutation-same [] xs (sym is)

module _ (a : State) (H first next : ℕ) where
  -- a range of a holder's guarantees, and of the holder's movements
  pub guarantees_of_range : PickSame a (λ t. both (kept_within H first next t) (codes_within H first next t)) (guarantees_within H first next)
  guarantees_of_range c holds =
      let t : Tables = tables_in holds.trees.layout a.now.trees in
      record {
        holders = IsPermutation-refl [];
        kept = same_list (kept_within H first next t).kept;
        codes = IsPermutation-refl (codes_within H first next t).codes;
        movements = IsPermutation-refl [];
        lines = IsPermutation-refl [];
      }

  pub movements_of_range : PickSame a (λ t. both (rows_within H first next t) (lines_within H first next t)) (movements_within H first next)
  movements_of_range c holds =
      let t : Tables = tables_in holds.trees.layout a.now.trees in
      record {
        holders = IsPermutation-refl [];
        kept = IsPermutation-refl [];
        codes = IsPermutation-refl [];
        movements = same_list (rows_within H first next t).movements;
        lines = IsPermutation-refl (lines_within H first next t).lines;
      }

  -- one range more
  pub guarantees_more : first ≤ next → PickSame a (λ t. both (guarantees_within H 0 first t) (guarantees_within H first next t)) (guarantees_within H 0 next)
  guarantees_more up c holds =
      let t : Tables = tables_in holds.trees.layout a.now.trees in
      record {
        holders = IsPermutation-refl [];
        kept = ranges_join H first next up t.kept;
        codes = ranges_join H first next up t.codes;
        movements = IsPermutation-refl [];
        lines = IsPermutation-refl [];
      }

  pub movements_more : first ≤ next → PickSame a (λ t. both (movements_within H 0 first t) (movements_within H first next t)) (movements_within H 0 next)
  movements_more up c holds =
      let t : Tables = tables_in holds.trees.layout a.now.trees in
      record {
        holders = IsPermutation-refl [];
        kept = IsPermutation-refl [];
        codes = IsPermutation-refl [];
        movements = ranges_join H first next up t.movements;
        lines = ranges_join H first next up t.lines;
      }

-- nothing at first
pub no_guarantees : (a : State) (H : ℕ) → PickSame a (λ t. no_rows) (guarantees_within H 0 0)
no_guarantees a H c holds =
    let t : Tables = tables_in holds.trees.layout a.now.trees in
    record {
      holders = IsPermutation-refl [];
      kept = none_is (guarantees_within H 0 0 t).kept (range_none H t.kept);
      codes = none_is (guarantees_within H 0 0 t).codes (range_none H t.codes);
      movements = IsPermutation-refl [];
      lines = IsPermutation-refl [];
    }

pub no_movements : (a : State) (H : ℕ) → PickSame a (λ t. no_rows) (movements_within H 0 0)
no_movements a H c holds =
    let t : Tables = tables_in holds.trees.layout a.now.trees in
    record {
      holders = IsPermutation-refl [];
      kept = IsPermutation-refl [];
      codes = IsPermutation-refl [];
      movements = none_is (movements_within H 0 0 t).movements (range_none H t.movements);
      lines = none_is (movements_within H 0 0 t).lines (range_none H t.lines);
    }

-- a holder's row, and what it counts
pub with_holder : (a : State) (row : HolderRow) → PickSame a (λ t. both (record no_rows { holders = row ∷ [] }) (guarantees_within row.holder 0 (row.grn_count + 1) t))
    (λ t. record (guarantees_within row.holder 0 (row.grn_count + 1) t) { holders = row ∷ [] })
with_holder a row c holds =
    let t : Tables = tables_in holds.trees.layout a.now.trees in
    record {
      holders = IsPermutation-refl (row ∷ []);
      kept = IsPermutation-refl (guarantees_within row.holder 0 (row.grn_count + 1) t).kept;
      codes = IsPermutation-refl (guarantees_within row.holder 0 (row.grn_count + 1) t).codes;
      movements = IsPermutation-refl [];
      lines = IsPermutation-refl [];
    }

pub whole_holder : (a : State) (row : HolderRow) → PickSame a
    (λ t. both (record (guarantees_within row.holder 0 (row.grn_count + 1) t) { holders = row ∷ [] }) (movements_within row.holder 0 (row.mrn_count + 1) t)) (of_row row)
whole_holder a row c holds =
    let t : Tables = tables_in holds.trees.layout a.now.trees in
    record {
      holders = IsPermutation-refl (row ∷ []);
      kept = same_list (of_row row t).kept;
      codes = same_list (of_row row t).codes;
      movements = IsPermutation-refl (of_row row t).movements;
      lines = IsPermutation-refl (of_row row t).lines;
    }

-- before the first number nobody's rows
pub no_holders : (a : State) (first number : ℕ) → number < first → PickSame a (λ t. no_rows) (of_holders first number)
no_holders a first number before c holds =
    let t : Tables = tables_in holds.trees.layout a.now.trees in
    record {
      holders = none_is (of_holders first number t).holders (no_holder_before first number before t.holders);
      kept = none_is (of_holders first number t).kept (none_before first number before t.kept);
      codes = none_is (of_holders first number t).codes (none_before first number before t.codes);
      movements = none_is (of_holders first number t).movements (none_before first number before t.movements);
      lines = none_is (of_holders first number t).lines (none_before first number before t.lines);
    }

-- the next holder's behind those of the holders before
pub holder_more : (a : State) (first number last : ℕ) (row : HolderRow) → first ≤ number + 1 → number < row.holder → IsNextOf number last a (Some row)
    → PickSame a (λ t. both (of_holders first number t) (of_row row t)) (of_holders first row.holder)
holder_more a first number last row begins above next c holds =
    let t : Tables = tables_in holds.trees.layout a.now.trees in
    let sound : IsSound c = holds.trees.sound in
    let are : AreTablesOf t c = holds.trees.tables in
    let least : HasLeastOf number row.holder c (Some row) = next c holds in
    record {
      holders = holders_join t c sound are number row least first begins above;
      kept = holder_joins first number row.holder (row.grn_count + 1) begins above t.kept (kept_placed t c sound are number row least (newest_keeps holds.trees.layout holds.trees.newest));
      codes = holder_joins first number row.holder (row.grn_count + 1) begins above t.codes (codes_placed t c sound are number row least);
      movements = holder_joins first number row.holder (row.mrn_count + 1) begins above t.movements (movements_placed t c sound are number row least);
      lines = holder_joins first number row.holder (row.mrn_count + 1) begins above t.lines (lines_placed t c sound are number row least);
    }

-- and where no holder is left, all
pub all_holders : (a : State) (first number last : ℕ) → (last < number → number < first) → IsNextOf number last a None → PickSame a (of_holders first last) (of_holders first number)
all_holders a first number last ends none c holds =
    let t : Tables = tables_in holds.trees.layout a.now.trees in
    let sound : IsSound c = holds.trees.sound in
    let are : AreTablesOf t c = holds.trees.tables in
    let stored : AreStored t = (keep_rules t c sound are).stored in
    let left : HasLeastOf number last c None = none c holds in
    let keeps : KeepAmounts t = newest_keeps holds.trees.layout holds.trees.newest in
    record {
      holders = IsPermutation-same _ _ (sym (all_holders_there t c sound are first number last ends left));
      kept = IsPermutation-same _ _ (sym (all_there t c sound are first number last ends left t.kept (kept_owned t stored keeps)));
      codes = IsPermutation-same _ _ (sym (all_there t c sound are first number last ends left t.codes stored.codes_owned));
      movements = IsPermutation-same _ _ (sym (all_there t c sound are first number last ends left t.movements stored.movements_owned));
      lines = IsPermutation-same _ _ (sym (all_there t c sound are first number last ends left t.lines stored.lines_owned));
    }

-- Of all rows of holders those of the holders whose numbers pass are the rows of these holders.
module _ {X : Type 0} (q : ℕ → Bool) (f : HolderRows → List (Keyed X)) (owned : (h : HolderRows) → AllByRecursion (λ x. owner x ≡ holder_key h) (f h)) where
  of_one : (h : HolderRows) (b : Bool) → q (holder_key h) ≡ b → AllByRecursion (λ x. q (owner x) ≡ b) (f h)
  of_one h b is = all_weaker (λ x. owner x ≡ holder_key h) (λ x. q (owner x) ≡ b) (λ x own. ap q own ∙ is) (f h) (owned h)

  one_more : (h : HolderRows) (hs : List HolderRows) (b : Bool) → q (holder_key h) ≡ b
      → filter (λ x. q (owner x)) (flat_map f hs) ≡ flat_map f (filter (λ h. q (holder_key h)) hs)
      → filter (λ x. q (owner x)) (f h ++ flat_map f hs) ≡ flat_map f (filter (λ h. q (holder_key h)) (h ∷ hs))
  one_more h hs true is later = rw is
      (filter-append (λ x. q (owner x)) (f h) (flat_map f hs)
      ∙ ap₂ (λ x y. x ++ y) (filter_all (λ x. q (owner x)) (f h) (of_one h true is)) later)
  one_more h hs false is later = rw is
      (filter-append (λ x. q (owner x)) (f h) (flat_map f hs)
      ∙ ap₂ (λ x y. x ++ y) (filter_none (λ x. q (owner x)) (f h) (of_one h false is)) later)

  filter_flat : (hs : List HolderRows) → filter (λ x. q (owner x)) (flat_map f hs) ≡ flat_map f (filter (λ h. q (holder_key h)) hs)
  filter_flat [] = refl
  filter_flat (h ∷ hs) = one_more h hs (q (holder_key h)) refl (filter_flat hs)

  pub rows_of_those : (hs : List HolderRows) (rows : List (Keyed X)) → IsPermutation (flat_map f hs) rows
      → IsPermutation (flat_map f (filter (λ h. q (holder_key h)) hs)) (filter (λ x. q (owner x)) rows)
  rows_of_those hs rows same =
      subst (λ l. IsPermutation l (filter (λ x. q (owner x)) rows)) (filter_flat hs) (IsPermutation-filter (λ x. q (owner x)) (flat_map f hs) rows same)

-- Rows are those of a content's holders in each table.
pub record AreRowsOf (c : Content) (r : Rows) : Type 0 where
  pub holders : IsPermutation (map (λ (h : HolderRows). h.row) c.holders) r.holders
  pub guarantees : IsPermutation (flat_map guarantees_in c.holders) (map without_amount r.kept)
  pub kept : IsPermutation (flat_map kept_in c.holders) r.kept
  pub codes : IsPermutation (flat_map code_rows_of c.holders) r.codes
  pub movements : IsPermutation (flat_map movements_in c.holders) r.movements
  pub lines : IsPermutation (flat_map (line_rows_of c.country) c.holders) r.lines

-- those of the holders of a range are those of what the content has of these holders
module _ (first last : ℕ) (c : Content) (l : Layout) (trees : Trees) (are : AreTablesOf (tables_in l trees) c) (keeps : KeepsUse l) where
  abbrev t : Tables
  t = tables_in l trees

  plainly : map without_amount (of_holders first last t).kept ≡ filter (λ g. is_between first last (owner g)) t.guarantees
  plainly =
      sym (filter-map (λ g. is_between first last (owner g)) without_amount t.kept)
      ∙ ap (filter (λ g. is_between first last (owner g))) (sym (plain_rows l trees))

  pub rows_of_range : AreRowsOf (content_between first last c) (of_holders first last t)
  rows_of_range = record {
    holders = subst (λ rows. IsPermutation rows (of_holders first last t).holders) (filter-map (λ (h : HolderRow). is_between first last h.holder) (λ (h : HolderRows). h.row) c.holders)
        (IsPermutation-filter (λ (h : HolderRow). is_between first last h.holder) (map (λ (h : HolderRows). h.row) c.holders) t.holders are.holders);
    guarantees = subst (IsPermutation (flat_map guarantees_in (content_between first last c).holders)) (sym plainly)
        (rows_of_those (is_between first last) guarantees_in owned_guarantees c.holders t.guarantees are.guarantees);
    kept = rows_of_those (is_between first last) kept_in owned_kept c.holders t.kept (are.kept keeps);
    codes = rows_of_those (is_between first last) code_rows_of owned_codes c.holders t.codes are.codes;
    movements = rows_of_those (is_between first last) movements_in owned_movements c.holders t.movements are.movements;
    lines = rows_of_those (is_between first last) (line_rows_of c.country) (owned_lines c.country) c.holders t.lines are.lines;
  }

-- Put into tables without rows they make tables of the content.
pub alone : (c : Content) (r : Rows) → AreRowsOf c r → (u : Tables) → AreTablesOf u (empty_content c.country) → AreTablesOf (with_rows r u) c
alone c r are u empty = record {
  country = empty.country;
  holders = beside_none _ _ u.holders are.holders empty.holders;
  guarantees = beside_none _ _ u.guarantees are.guarantees empty.guarantees;
  kept = λ keep. beside_none _ _ u.kept are.kept (empty.kept keep);
  codes = beside_none _ _ u.codes are.codes empty.codes;
  movements = beside_none _ _ u.movements are.movements empty.movements;
  lines = beside_none _ _ u.lines are.lines empty.lines;
}
