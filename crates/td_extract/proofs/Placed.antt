-- Of a holder in a content, and the tables that hold it: which rows are this holder's, and which are others'.
use Rattle.std.proofs.Common.{◌≡◌, ◌∙◌, ◌+◌, ◌<◌, ◌≤◌, ℕ, Bool, true, false, List, [], ◌∷◌, ◌++◌, length, map, Option, Some, None, IsSome, refl, sym, ap, subst, arith, IsPermutation}
use Rattle.std.specs.Prelude.{◌==◌, ◌&&◌, IfSome, filter, nat_le, nat_lt}
use Rattle.std.specs.List.{AllByRecursion}
use Rattle.std.proofs.lemmas.Bool.Decides.{nat_tests}
use Rattle.std.proofs.lemmas.List.Sorted.{IsPermutation-sym}
use Rattle.sqlite_trees.proofs.ListLemmas.{all-map, all-permutation, all_both, all_from_map, all_of, all_weaker, filter_none, filter_same}
use Rattle.keyed_rows.specs.Rows.{row_at}
use Rattle.keyed_rows.proofs.Putting.{All-row_at, row_at_has}
use Rattle.td_model.specs.declared.holder_row.HolderRow.{HolderRow}
use Rattle.td_model.specs.Account.{Account, HolderRows}
use Rattle.td_model.specs.Content.{Content, IsSound}
use Rattle.td_table_model.specs.Gathering.{IsApart, IsNumbered, guarantees_by, holder_no, in_order, movements_by, owner, part, place}
use Rattle.td_table_model.specs.Rules.{KeepRules, KeepsRules}
use Rattle.td_table_model.specs.Stored.{AreOfHolders, AreStored}
use Rattle.td_table_model.specs.Tables.{AreTablesOf, KeepAmounts, Keyed, Tables, without_amount}
use Rattle.td_table_model.proofs.KeepingRules.{keep_rules}
use Rattle.td_table_model.proofs.Looked.{account_is, find_first, first as first_of}
use Rattle.td_table_model.proofs.Orders.{in_order_permutes}
use Rattle.td_table_model.proofs.Rebuilt.{numbered_within}
use Rattle.td_store_rows.specs.Places.{is_within}
use Rattle.td_extract.specs.Between.{is_between}
use Rattle.td_extract.specs.Extracted.{HasLeastOf}
use Rattle.td_extract.proofs.Lists.{AreParts, all_where, parts}

-- rows of holders that are there have what each holder's number has
module _ {R : Type 0} (P : ℕ → Type 0) (holders : List HolderRow) (all : AllByRecursion (λ (h : HolderRow). P h.holder) holders) where
  of_holder : (r : Keyed R) → IsSome (row_at holder_no (owner r) holders) → P (owner r)
  of_holder r some =
      by_row (row_at holder_no (owner r) holders) some (row_at_has holder_no (owner r) holders) (All-row_at holder_no (λ (h : HolderRow). P h.holder) (owner r) holders all)
    where
      by_row : (o : Option HolderRow) → IsSome o → IfSome o (λ h. holder_no h ≡ owner r) → IfSome o (λ (h : HolderRow). P h.holder) → P (owner r)
      by_row None some has is = absurd (let e = some in cc)
      by_row (Some h) some has is = subst P has is

  pub of_owned : (rows : List (Keyed R)) → AreOfHolders holders rows → AllByRecursion (λ r. P (owner r)) rows
  of_owned rows owned = all_weaker (λ r. IsSome (row_at holder_no (owner r) holders)) (λ r. P (owner r)) of_holder rows owned

-- The rows of the next holder, which are up to a serial; those of the holders before it are of numbers up to that one.
abbrev pub IsPlaced : {R : Type 0} → ℕ → ℕ → ℕ → Keyed R → Type 0
IsPlaced number H end r = (number < owner r → H ≤ owner r) × (owner r ≡ H → place r < end)

module _ {R : Type 0} (first number H end : ℕ) where
  -- the next holder's rows beside those of the holders before
  pub holder_joins : first ≤ number + 1 → number < H → (rows : List (Keyed R)) → AllByRecursion (IsPlaced number H end) rows
      → IsPermutation (filter (λ r. is_between first number (owner r)) rows ++ filter (is_within H 0 end) rows) (filter (λ r. is_between first H (owner r)) rows)
  holder_joins begins above rows placed =
      parts (λ r. is_between first number (owner r)) (is_within H 0 end) (λ r. is_between first H (owner r)) rows
      (all_weaker (IsPlaced number H end) (λ r. AreParts (is_between first number (owner r)) (is_within H 0 end r) (is_between first H (owner r))) each rows placed)
    where
      by_number : (o n : ℕ) → (number < o → H ≤ o) → (o ≡ H → n < end)
          → AreParts (nat_le first o && nat_le o number) (o == H && (nat_le 0 n && nat_lt n end)) (nat_le first o && nat_le o H)
      by_number o n least low = grind (arith, nat_tests, begins, above, least, low)

      each : (r : Keyed R) → IsPlaced number H end r → AreParts (is_between first number (owner r)) (is_within H 0 end r) (is_between first H (owner r))
      each r is = by_number r.holder r.serial is.0 is.1

-- a range behind another
module _ {R : Type 0} where
  pub ranges_join : (H first next : ℕ) → first ≤ next → (rows : List (Keyed R))
      → IsPermutation (filter (is_within H 0 first) rows ++ filter (is_within H first next) rows) (filter (is_within H 0 next) rows)
  ranges_join H first next up rows =
      parts (is_within H 0 first) (is_within H first next) (is_within H 0 next) rows (all_of (λ r. AreParts (is_within H 0 first r) (is_within H first next r) (is_within H 0 next r)) each rows)
    where
      by_owner : (b : Bool) (n : ℕ) → AreParts (b && (nat_le 0 n && nat_lt n first)) (b && (nat_le first n && nat_lt n next)) (b && (nat_le 0 n && nat_lt n next))
      by_owner true n = grind (arith, nat_tests, up)
      by_owner false n = (refl, refl)

      each : (r : Keyed R) → AreParts (is_within H 0 first r) (is_within H first next r) (is_within H 0 next r)
      each r = by_owner (r.holder == H) r.serial

  -- none is in an empty range
  pub range_none : (H : ℕ) (rows : List (Keyed R)) → filter (is_within H 0 0) rows ≡ []
  range_none H rows = filter_none (is_within H 0 0) rows (all_of (λ r. is_within H 0 0 r ≡ false) (λ r. by_owner (r.holder == H) r.serial) rows)
    where
      by_owner : (b : Bool) (n : ℕ) → (b && (nat_le 0 n && nat_lt n 0)) ≡ false
      by_owner true n = grind (arith, nat_tests)
      by_owner false n = refl

-- none is between a number and the one before it; and two ranges are one where no number is in between
between_none : (first number o : ℕ) → number < first → is_between first number o ≡ false
between_none first number o before = grind (arith, nat_tests, before)

-- numbered rows are up to their count, in any order
numbered_low : {R : Type 0} (rows : List (Keyed R)) (count : ℕ) → IsApart place rows → IsNumbered place 0 (in_order place rows)
    → count ≡ length (in_order place rows) → AllByRecursion (λ r. place r < count + 1) rows
numbered_low rows count apart numbers is =
    all-permutation (λ r. place r < count + 1) (in_order place rows) rows (IsPermutation-sym rows (in_order place rows) (in_order_permutes place rows apart))
    (all_weaker (λ r. (0 < place r) × (place r ≤ 0 + length (in_order place rows))) (λ r. place r < count + 1) (λ r within. omega (arith, within.1, is))
    (in_order place rows) (numbered_within place 0 (in_order place rows) numbers))

-- rows that name one of numbered rows are up to their count
named_low : {R X : Type 0} (named : List (Keyed R)) (count : ℕ) → IsNumbered place 0 named → count ≡ length named → (rows : List (Keyed X))
    → AllByRecursion (λ r. IsSome (row_at place (place r) named)) rows → AllByRecursion (λ r. place r < count + 1) rows
named_low {R} {X} named count numbers is rows all = all_weaker (λ r. IsSome (row_at place (place r) named)) (λ r. place r < count + 1) low rows all
  where
    low : (r : Keyed X) → IsSome (row_at place (place r) named) → place r < count + 1
    low r some =
        by_row (row_at place (place r) named) some (row_at_has place (place r) named)
        (All-row_at place (λ m. (0 < place m) × (place m ≤ 0 + length named)) (place r) named (numbered_within place 0 named numbers))
      where
        by_row : (o : Option (Keyed R)) → IsSome o → IfSome o (λ m. place m ≡ place r) → IfSome o (λ m. (0 < place m) × (place m ≤ 0 + length named)) → place r < count + 1
        by_row None some has is_low = absurd (let e = some in cc)
        by_row (Some m) some has is_low = omega (arith, has, is_low.1, is)

-- The holder with this row, which is next behind a number in a content that tables hold.
module _ (t : Tables) (c : Content) (sound : IsSound c) (are : AreTablesOf t c) (number : ℕ) (row : HolderRow) (next : HasLeastOf number row.holder c (Some row)) where
  abbrev H : ℕ
  H = row.holder

  keep : KeepRules t
  keep = keep_rules t c sound are

  found : row_at holder_no H t.holders ≡ Some row
  found = sym (ap (λ (x : Account). x.holder) (account_is t c sound are H)) ∙ next.0

  own : KeepsRules t row
  own = subst (λ (o : Option HolderRow). IfSome o (KeepsRules t)) found (All-row_at holder_no (KeepsRules t) H t.holders keep.holders)

  least : AllByRecursion (λ (h : HolderRow). number < h.holder → H ≤ h.holder) t.holders
  least =
      all-permutation (λ (h : HolderRow). number < h.holder → H ≤ h.holder) (map (λ (h : HolderRows). h.row) c.holders) t.holders are.holders
      (all-map (λ (h : HolderRow). number < h.holder → H ≤ h.holder) (λ (h : HolderRows). h.row) c.holders next.1)

  placed_by : {R : Type 0} (end : ℕ) (rows : List (Keyed R)) → AreOfHolders t.holders rows → AllByRecursion (λ r. place r < end) (part H rows)
      → AllByRecursion (IsPlaced number H end) rows
  placed_by end rows owned low =
      all_both (λ r. number < owner r → H ≤ owner r) (λ r. (owner r == H) ≡ true → place r < end) (IsPlaced number H end)
      (λ r up second. (up, λ is. second (grind (arith, nat_tests, is)))) rows
      (of_owned (λ n. number < n → H ≤ n) t.holders least rows owned) (all_where (λ r. place r < end) (λ r. owner r == H) rows low)

  guarantees_placed : AllByRecursion (IsPlaced number H (row.grn_count + 1)) t.guarantees
  guarantees_placed =
      placed_by (row.grn_count + 1) t.guarantees keep.stored.guarantees_owned
      (numbered_low (part H t.guarantees) row.grn_count (keep.stored.guarantees H) own.guarantees.serials own.guarantees.count)

  pub kept_placed : KeepAmounts t → AllByRecursion (IsPlaced number H (row.grn_count + 1)) t.kept
  kept_placed keeps =
      all_from_map (IsPlaced number H (row.grn_count + 1)) without_amount t.kept
      (all-permutation (IsPlaced number H (row.grn_count + 1)) t.guarantees (map without_amount t.kept) (keep.stored.kept keeps) guarantees_placed)

  pub codes_placed : AllByRecursion (IsPlaced number H (row.grn_count + 1)) t.codes
  codes_placed =
      placed_by (row.grn_count + 1) t.codes keep.stored.codes_owned
      (named_low (guarantees_by H t) row.grn_count own.guarantees.serials own.guarantees.count (part H t.codes) own.codes.name)

  pub movements_placed : AllByRecursion (IsPlaced number H (row.mrn_count + 1)) t.movements
  movements_placed =
      placed_by (row.mrn_count + 1) t.movements keep.stored.movements_owned
      (numbered_low (part H t.movements) row.mrn_count (keep.stored.movements H) own.movements.serials own.movements.count)

  pub lines_placed : AllByRecursion (IsPlaced number H (row.mrn_count + 1)) t.lines
  lines_placed =
      placed_by (row.mrn_count + 1) t.lines keep.stored.lines_owned
      (named_low (movements_by H t) row.mrn_count own.movements.serials own.movements.count (part H t.lines) own.lines.belong)

  -- the row is the one of its number
  one_of : (rows : List HolderRow) → length rows ≤ 1 → first_of rows ≡ Some row → rows ≡ row ∷ []
  one_of [] short is = absurd cc
  one_of (r ∷ []) short is = let same : Some r ≡ Some row = is in ap (λ x. x ∷ []) (some_same r same)
    where
      some_same : (r : HolderRow) → Some r ≡ Some row → r ≡ row
      some_same r same = cc
  one_of (r ∷ s ∷ rows) short is = absurd (omega (arith, short))

  row_alone : filter (λ (h : HolderRow). h.holder == H) t.holders ≡ row ∷ []
  row_alone = one_of (filter (λ (h : HolderRow). h.holder == H) t.holders) (keep.stored.holders H) (sym (find_first (λ (h : HolderRow). h.holder == H) t.holders) ∙ found)

  pub holders_join : (first : ℕ) → first ≤ number + 1 → number < H
      → IsPermutation (filter (λ (h : HolderRow). is_between first number h.holder) t.holders ++ row ∷ []) (filter (λ (h : HolderRow). is_between first H h.holder) t.holders)
  holders_join first begins above =
      subst (λ rows. IsPermutation (filter (λ (h : HolderRow). is_between first number h.holder) t.holders ++ rows) (filter (λ (h : HolderRow). is_between first H h.holder) t.holders)) row_alone
      (parts (λ (h : HolderRow). is_between first number h.holder) (λ (h : HolderRow). h.holder == H) (λ (h : HolderRow). is_between first H h.holder) t.holders
      (all_weaker (λ (h : HolderRow). number < h.holder → H ≤ h.holder) (λ (h : HolderRow). AreParts (is_between first number h.holder) (h.holder == H) (is_between first H h.holder))
      (λ h up. by_number h.holder up) t.holders least))
    where
      by_number : (o : ℕ) → (number < o → H ≤ o) → AreParts (nat_le first o && nat_le o number) (o == H) (nat_le first o && nat_le o H)
      by_number o up = grind (arith, nat_tests, begins, above, up)

-- a row that keeps an amount is of a holder that is there, as its guarantee is
pub kept_owned : (t : Tables) → AreStored t → KeepAmounts t → AreOfHolders t.holders t.kept
kept_owned t stored keeps =
    all_from_map (λ g. IsSome (row_at holder_no (owner g) t.holders)) without_amount t.kept
    (all-permutation (λ g. IsSome (row_at holder_no (owner g) t.holders)) t.guarantees (map without_amount t.kept) (stored.kept keeps) stored.guarantees_owned)

-- Before the first number there is none of its range.
module _ (first number : ℕ) (before : number < first) where
  pub none_before : {R : Type 0} (rows : List (Keyed R)) → filter (λ r. is_between first number (owner r)) rows ≡ []
  none_before rows = filter_none (λ r. is_between first number (owner r)) rows (all_of (λ r. is_between first number (owner r) ≡ false) (λ r. between_none first number (owner r) before) rows)

  pub no_holder_before : (rows : List HolderRow) → filter (λ (h : HolderRow). is_between first number h.holder) rows ≡ []
  no_holder_before rows =
      filter_none (λ (h : HolderRow). is_between first number h.holder) rows
      (all_of (λ (h : HolderRow). is_between first number h.holder ≡ false) (λ h. between_none first number h.holder before) rows)

-- Where no holder is behind a number up to the last one of the range, those up to the number are those of the range.
module _ (t : Tables) (c : Content) (sound : IsSound c) (are : AreTablesOf t c) (first number last : ℕ)
    (ends : last < number → number < first) (none : HasLeastOf number last c None) where
  behind_all : AllByRecursion (λ (h : HolderRow). number < h.holder → last < h.holder) t.holders
  behind_all =
      all-permutation (λ (h : HolderRow). number < h.holder → last < h.holder) (map (λ (h : HolderRows). h.row) c.holders) t.holders are.holders
      (all-map (λ (h : HolderRow). number < h.holder → last < h.holder) (λ (h : HolderRows). h.row) c.holders none)

  same_test : (o : ℕ) → (number < o → last < o) → is_between first number o ≡ is_between first last o
  same_test o up = grind (arith, nat_tests, ends, up)

  pub all_there : {R : Type 0} (rows : List (Keyed R)) → AreOfHolders t.holders rows
      → filter (λ r. is_between first number (owner r)) rows ≡ filter (λ r. is_between first last (owner r)) rows
  all_there rows owned =
      filter_same (λ r. is_between first number (owner r)) (λ r. is_between first last (owner r)) rows
      (all_weaker (λ r. number < owner r → last < owner r) (λ r. is_between first number (owner r) ≡ is_between first last (owner r)) (λ r up. same_test (owner r) up) rows
      (of_owned (λ n. number < n → last < n) t.holders behind_all rows owned))

  pub all_holders_there : filter (λ (h : HolderRow). is_between first number h.holder) t.holders ≡ filter (λ (h : HolderRow). is_between first last h.holder) t.holders
  all_holders_there =
      filter_same (λ (h : HolderRow). is_between first number h.holder) (λ (h : HolderRow). is_between first last h.holder) t.holders
      (all_weaker (λ (h : HolderRow). number < h.holder → last < h.holder) (λ (h : HolderRow). is_between first number h.holder ≡ is_between first last h.holder)
      (λ h up. same_test h.holder up) t.holders behind_all)
