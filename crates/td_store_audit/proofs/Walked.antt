-- What is known of the holders up to a number, after each of them was asked: of none, of one more, and of all.
use Rattle.std.proofs.Common.{◌≡◌, ◌≢◌, ◌∙◌, ℕ, ◌<◌, ◌≤◌, Bool, true, false, cond, List, [], ◌∷◌, ◌++◌, length, map, Option, None, sym, ap, subst, arith, IsPermutation}
use Rattle.std.specs.Prelude.{◌↔◌, ◌==◌, IfSome, filter}
use Rattle.std.specs.List.{AllByRecursion}
use Rattle.std.proofs.lemmas.Bool.Decides.{nat_tests}
use Rattle.std.proofs.lemmas.List.{append-nil, append_assoc, length-map, map-append}
use Rattle.std.proofs.lemmas.List.Sorted.{IsPermutation-append_right, IsPermutation-map, IsPermutation-sym, IsPermutation-trans}
use Rattle.sqlite_value.specs.Order.{Row}
use Rattle.sqlite_trees.specs.Tree.{Trees}
use Rattle.sqlite_trees.proofs.ListLemmas.{IsPermutation-filter, IsPermutation-same, all-append, all_both, all_from_map, all_weaker, ascending-append, filter-filter, filter-map, filter_all}
use Rattle.td_base.specs.Codes.{IsHolderNumber}
use Rattle.td_model.specs.declared.holder_row.HolderRow.{HolderRow}
use Rattle.td_table_model.specs.declared.rule.Rule.{Rule}
use Rattle.td_table_model.specs.declared.rule.Rule.TheVariants.{S1, S2, S3, S4, S5, S6, S7, S8}
use Rattle.td_table_model.specs.Gathering.{IsApart, of_key}
use Rattle.td_table_model.proofs.Orders.{apart_permuted}
use Rattle.td_table_model.proofs.Pairs.{apart_pairs, pairs_first}
use Rattle.typed_sql.specs.Typed.{IsTypedRow, row_of}
use Rattle.td_schema.specs.declared.layout.Layout.{Layout}
use Rattle.td_store_rows.specs.Columns.{code_typing, guarantee_typing, holder_typing, line_typing, movement_typing}
use Rattle.td_store_audit_rows.specs.Fields.{AreCodeFields, AreGuaranteeFields, AreLineFields, AreMovementFields}
use Rattle.td_store_audit_rows.specs.Holders.{HolderFields, NumbersRise, fields_of, fields_of_raw}
use Rattle.td_store_audit_rows.specs.Laws.{AreKept}
use Rattle.td_store_audit_rows.specs.NextHolder.{HasLeastAbove, is_above, number_in_row}
use Rattle.td_store_audit_rows.specs.Scans.{IsReadRow}
use Rattle.td_store_audit_rows.specs.declared.holders.RawHolder.{RawHolder}
use Rattle.td_store_audit_rows.specs.declared.tables.Readable.{Readable}
use Rattle.td_store_audit_rows.proofs.Identities.{fields_tell}
use Rattle.td_store_audit.specs.Broken.{HasOffice, TellsBroken}
use Rattle.td_store_audit.specs.FirstRule.{IsFirstNot}
use Rattle.td_store_audit.specs.HolderRules.{AreTypedFor, HolderKeeps, IsAskable, IsReadFor}
use Rattle.td_store_audit.proofs.FirstRule.{Both, joined, so_alike}
use Rattle.td_store_audit.proofs.KeptByHolders.{IsKeptByEach, tells_broken}

-- the rows of the table of holders
abbrev rows_in : Trees → List Row
rows_in trees = trees holder_typing.table.tree

-- These are the holders up to a number, each once, and this is the first rule whose table can't be read or that one of them breaks.
pub record IsWalked (country : List ℕ) (readable : Readable) (number : ℕ) (least : Option Rule) (layout : Layout) (trees : Trees) : Type 0 where
  seen : List RawHolder
  order : NumbersRise seen
  upto : AllByRecursion (λ (raw : RawHolder). raw.holder ≤ number) seen
  rest : IsPermutation (map fields_of (rows_in trees)) (map fields_of_raw seen ++ map fields_of (filter (is_above number) (rows_in trees)))
  first : IsFirstNot (IsKeptByEach readable country seen layout trees) None least

-- of fewer elements no more pass a test
fewer_pass : {X : Type 0} (p q : X → Bool) (xs : List X) → length (filter q (filter p xs)) ≤ length (filter q xs)
fewer_pass p q [] = omega arith
fewer_pass p q (x ∷ xs) =
    let later = fewer_pass p q xs in
    elim (p x) as (λ b. length (filter q (cond b (x ∷ filter p xs) (filter p xs))) ≤ length (cond (q x) (x ∷ filter q xs) (filter q xs))) [
      | true ↦ elim (q x) as (λ b. length (cond b (x ∷ filter q (filter p xs)) (filter q (filter p xs))) ≤ length (cond b (x ∷ filter q xs) (filter q xs)))
          [ true ↦ omega (arith, later) | false ↦ later ]
      | false ↦ elim (q x) as (λ b. length (filter q (filter p xs)) ≤ length (cond b (x ∷ filter q xs) (filter q xs)))
          [ true ↦ omega (arith, later) | false ↦ later ]
    ]

-- what holds of all holds of those before the last, and of it
all_but_last : {X : Type 0} (P : X → Type 0) (xs : List X) (x : X) → AllByRecursion P (xs ++ x ∷ []) → AllByRecursion P xs × P x
all_but_last P [] x all = (tt, all.0)
all_but_last P (y ∷ xs) x all = let later = all_but_last P xs x all.1 in ((all.0, later.0), later.1)

module _ (country : List ℕ) (readable : Readable) (layout : Layout) (trees : Trees) (kept : AreKept layout trees) where
  abbrev rows : List Row
  rows = rows_in trees

  abbrev KeptBy : List RawHolder → Rule → Type 0
  KeptBy seen = IsKeptByEach readable country seen layout trees

  -- no holder was asked: each number is above 0
  pub walk_begins : (least : Option Rule) → IsFirstNot (IsReadFor readable) None least → IsWalked country readable 0 least layout trees
  walk_begins least first = record {
    seen = [];
    order = tt;
    upto = tt;
    rest = IsPermutation-same (map fields_of rows) (map fields_of (filter (is_above 0) rows)) (ap (map fields_of) (sym (filter_all (is_above 0) rows above)));
    first = so_alike (IsReadFor readable) (KeptBy []) None least (λ rule. (λ is. (is, tt), λ is. is.0)) first;
  }
    where
      above : AllByRecursion (λ r. is_above 0 r ≡ true) rows
      above =
          all_weaker (λ r. IsHolderNumber (number_in_row r)) (λ r. is_above 0 r ≡ true) (λ r is. let low = is.0 in grind (arith, nat_tests, low)) rows
          (all_from_map (λ (h : HolderRow). IsHolderNumber h.holder) (row_of holder_typing) rows kept.holders.numbers)

  -- no two rows have one number
  apart : IsApart number_in_row rows
  apart k =
      subst (λ n. n ≤ 1)
      (ap length (filter-map (λ (h : HolderRow). h.holder == k) (row_of holder_typing) rows) ∙ length-map (of_key number_in_row k rows) (row_of holder_typing))
      (kept.holders.apart k)

  -- one holder more is asked, whose number comes next
  module _ (number : ℕ) (raw : RawHolder) (next : HasLeastAbove number rows raw) (above : number < raw.holder) where
    own : raw.holder ≡ number_in_row next.row
    own = subst (λ (f : HolderFields). IfSome f.holder (λ n. n ≡ number_in_row next.row)) next.fields (fields_tell next.row).1.holder

    others_differ : AllByRecursion (λ other. number_in_row next.row ≢ number_in_row other) next.others
    others_differ =
        pairs_first (λ a b. number_in_row a ≢ number_in_row b) next.row next.others
        (apart_pairs number_in_row (next.row ∷ next.others)
        (apart_permuted number_in_row (filter (is_above number) rows) (next.row ∷ next.others) next.above
        (λ k. omega (arith, apart k, fewer_pass (is_above number) (λ r. number_in_row r == k) rows))))

    others_above : AllByRecursion (λ other. is_above raw.holder other ≡ true) next.others
    others_above =
        all_both (λ other. number_in_row next.row ≤ number_in_row other) (λ other. number_in_row next.row ≢ number_in_row other) (λ other. is_above raw.holder other ≡ true)
        (λ other low differs. let is = own in let more : raw.holder < number_in_row other = omega (arith, is, low, differs) in grind (arith, nat_tests, more))
        next.others next.least others_differ

    -- the others are those above it
    behind : IsPermutation (filter (is_above raw.holder) rows) next.others
    behind =
        let not_own : is_above raw.holder next.row ≡ false = let is = own in grind (arith, nat_tests, is) in
        let rest : filter (is_above raw.holder) (next.row ∷ next.others) ≡ next.others = rw not_own (filter_all (is_above raw.holder) next.others others_above) in
        let whole : filter (is_above raw.holder) (filter (is_above number) rows) ≡ filter (is_above raw.holder) rows =
        filter-filter (is_above raw.holder) (is_above number) (λ r is. grind (arith, nat_tests, is, above)) rows in
        subst (λ l. IsPermutation l next.others) whole
        (subst (IsPermutation (filter (is_above raw.holder) (filter (is_above number) rows))) rest
        (IsPermutation-filter (is_above raw.holder) (filter (is_above number) rows) (next.row ∷ next.others) next.above))

    -- so they are all that is left
    left : (seen : List RawHolder) → IsPermutation (map fields_of rows) (map fields_of_raw seen ++ map fields_of (filter (is_above number) rows))
        → IsPermutation (map fields_of rows) (map fields_of_raw (seen ++ raw ∷ []) ++ map fields_of (filter (is_above raw.holder) rows))
    left seen rest =
        let before : List HolderFields = map fields_of_raw seen in
        let here : List HolderFields = map fields_of next.others in
        let turned : IsPermutation (map fields_of rows) (before ++ fields_of next.row ∷ here) =
        IsPermutation-trans _ _ _ rest
        (IsPermutation-append_right before (map fields_of (filter (is_above number) rows)) (map fields_of (next.row ∷ next.others))
        (IsPermutation-map fields_of (filter (is_above number) rows) (next.row ∷ next.others) next.above)) in
        let put : IsPermutation (map fields_of rows) ((before ++ fields_of_raw raw ∷ []) ++ here) =
        subst (IsPermutation (map fields_of rows)) (sym (append_assoc before (fields_of_raw raw ∷ []) here))
        (subst (λ f. IsPermutation (map fields_of rows) (before ++ f ∷ here)) next.fields turned) in
        subst (λ l. IsPermutation (map fields_of rows) (l ++ map fields_of (filter (is_above raw.holder) rows))) (sym (map-append fields_of_raw seen (raw ∷ [])))
        (IsPermutation-trans _ _ _ put
        (IsPermutation-append_right (before ++ fields_of_raw raw ∷ []) here (map fields_of (filter (is_above raw.holder) rows))
        (IsPermutation-map fields_of next.others (filter (is_above raw.holder) rows) (IsPermutation-sym (filter (is_above raw.holder) rows) next.others behind))))

    pub walk_goes_on : (least first : Option Rule) → IsWalked country readable number least layout trees
        → IsFirstNot (HolderKeeps layout country trees raw) least first → IsWalked country readable raw.holder first layout trees
    walk_goes_on least first walked is = record {
      seen = walked.seen ++ raw ∷ [];
      order = ascending-append (λ (a b : RawHolder). a.holder < b.holder) walked.seen (raw ∷ []) walked.order (tt, tt)
          (all_weaker (λ (h : RawHolder). h.holder ≤ number) (λ (h : RawHolder). (h.holder < raw.holder) × Unit {0}) (λ h low. (omega (arith, low, above), tt)) walked.seen walked.upto);
      upto = all-append (λ (h : RawHolder). h.holder ≤ raw.holder) walked.seen (raw ∷ [])
          (all_weaker (λ (h : RawHolder). h.holder ≤ number) (λ (h : RawHolder). h.holder ≤ raw.holder) (λ h low. omega (arith, low, above)) walked.seen walked.upto)
          (omega arith, tt);
      rest = left walked.seen walked.rest;
      first = so_alike (Both (KeptBy walked.seen) (HolderKeeps layout country trees raw)) (KeptBy (walked.seen ++ raw ∷ [])) None first alike
          (joined (KeptBy walked.seen) (HolderKeeps layout country trees raw) None least first walked.first is);
    }
      where
        alike : (rule : Rule) → Both (KeptBy walked.seen) (HolderKeeps layout country trees raw) rule ↔ KeptBy (walked.seen ++ raw ∷ []) rule
        alike rule = (
          λ both. (both.0.0, all-append (λ h. HolderKeeps layout country trees h rule) walked.seen (raw ∷ []) both.0.1 (both.1, tt)),
          λ all. let parts = all_but_last (λ h. HolderKeeps layout country trees h rule) walked.seen raw all.1 in ((all.0, parts.0), parts.1),
        )

-- the next holder may be asked for the rules before the first that isn't kept
pub askable : (country : List ℕ) (readable : Readable) (number : ℕ) (least : Option Rule) (layout : Layout) (trees : Trees) → HasOffice country readable layout trees
    → IsWalked country readable number least layout trees → IsAskable least layout trees
askable country readable number least layout trees office walked =
    record { kept = office.kept; typed = λ rule before. typed_for rule (walked.first.before rule before).0 }
  where
    typed_for : (rule : Rule) → IsReadFor readable rule → AreTypedFor layout trees rule
    typed_for S1 read = tt
    typed_for S2 read = tt
    typed_for S3 read =
        all_weaker (IsReadRow (guarantee_typing layout) AreGuaranteeFields) (IsTypedRow (guarantee_typing layout)) (λ r is. is.0) (trees (guarantee_typing layout).table.tree)
        (office.told.guarantees.0 read)
    typed_for S4 read = all_weaker (IsReadRow code_typing AreCodeFields) (IsTypedRow code_typing) (λ r is. is.0) (trees code_typing.table.tree) (office.told.codes.0 read)
    typed_for S5 read =
        all_weaker (IsReadRow movement_typing AreMovementFields) (IsTypedRow movement_typing) (λ r is. is.0) (trees movement_typing.table.tree) (office.told.movements.0 read)
    typed_for S6 read =
        all_weaker (IsReadRow (line_typing layout) AreLineFields) (IsTypedRow (line_typing layout)) (λ r is. is.0) (trees (line_typing layout).table.tree)
        (office.told.lines.0 read)
    typed_for S7 read = tt
    typed_for S8 read = tt

-- all holders were asked
pub walk_ends : (country : List ℕ) (readable : Readable) (number : ℕ) (least : Option Rule) (layout : Layout) (trees : Trees) → HasOffice country readable layout trees
    → filter (is_above number) (rows_in trees) ≡ [] → IsWalked country readable number least layout trees → TellsBroken layout trees least
walk_ends country readable number least layout trees office none walked =
    let rows = rows_in trees in
    let all : IsPermutation (map fields_of rows) (map fields_of_raw walked.seen) =
    subst (IsPermutation (map fields_of rows)) (append-nil (map fields_of_raw walked.seen))
    (subst (λ l. IsPermutation (map fields_of rows) (map fields_of_raw walked.seen ++ map fields_of l)) none walked.rest) in
    tells_broken layout trees country readable office walked.seen
    (record { kept = office.kept; country_is = office.country_is; holders_are = all; order = walked.order }) least walked.first
