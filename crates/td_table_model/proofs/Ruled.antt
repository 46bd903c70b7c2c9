-- Tables that keep the rules are tables of the content that they hold.
use Rattle.std.proofs.Common.{◌≡◌, ℕ, ◌+◌, ◌<◌, ◌≤◌, List, [], ◌∷◌, length, map, flat_map, Option, Some, None, IsSome, refl, sym, ◌∙◌, ap, ap₂, subst, arith, IsPermutation}
use Rattle.std.specs.Prelude.{◌==◌, IfSome, unwrap_or}
use Rattle.std.specs.List.{AllByRecursion}
use Rattle.std.specs.Option.{option_map_or}
use Rattle.std.proofs.lemmas.List.Sorted.{IsPermutation-map, IsPermutation-sym, IsPermutation-trans}
use Rattle.sqlite_trees.proofs.ListLemmas.{filter-map, map-map, flat_map-map, all_weaker, all_both, all_from_map, all-filter, all-permutation, IsPermutation-filter}
use Rattle.keyed_rows.specs.Rows.{row_at}
use Rattle.keyed_rows.proofs.Putting.{row_at_has, All-row_at}
use Rattle.td_base.specs.Codes.{IsCountry, IsHolderNumber, IsAccessCode}
use Rattle.td_base.specs.References.{serial_of, greatest_grn_serial}
use Rattle.td_base.proofs.MadeReferences.{made_serial_is}
use Rattle.td_guarantee.specs.declared.guarantee.Guarantee.{Guarantee}
use Rattle.td_movement.specs.declared.movement.Movement.{Movement}
use Rattle.td_model.specs.declared.holder_row.HolderRow.{HolderRow}
use Rattle.td_model.specs.Account.{HolderRows}
use Rattle.td_table_model.specs.Tables.{Keyed, Kept, LineCells, Tables, AreTablesOf, KeepAmounts, numbered, guarantee_row, guarantee_no, code_row, code_rows, movement_row, line_row, line_rows, guarantees_in, kept_in, with_use, without_amount, code_rows_of, movements_in, line_rows_of}
use Rattle.td_table_model.specs.Gathering.{IsApart, IsNumbered, code_rank, codes_by, content_of, gathered, grn_by, guarantees_by, holder_no, in_order, line_from, lines_by, movements_by, no_of, of_key, owner, part, place, with_codes, with_lines}
use Rattle.td_table_model.specs.Stored.{AreStored, AreOfHolders}
use Rattle.td_table_model.specs.Rules.{KeepsRules, KeepRules, IsGuaranteeInRange, AreLinesInRange, IsInUse}
use Rattle.td_table_model.proofs.Amounts.{use_again}
use Rattle.td_table_model.proofs.Orders.{in_order_rises, in_order_permutes, found_in_order}
use Rattle.td_table_model.proofs.Grouped.{of_key_has, grouped, together}
use Rattle.td_table_model.proofs.Ranks.{ranks_apart}
use Rattle.td_table_model.proofs.Rebuilt.{renumbered, flat_numbered, permuted_each, numbered_within, all_in_order}

-- the holder's rows of a table, in order of their serials, are the holder's
pub are_mine : {X : Type 0} (H : ℕ) (rows : List (Keyed X)) → AllByRecursion (λ r. owner r ≡ H) (in_order place (part H rows))
are_mine H rows = all_in_order place (λ r. owner r ≡ H) (part H rows) (of_key_has owner H rows)

-- the codes of a guarantee and the lines of a movement have its serial and its holder
pub codes_mine : (H n : ℕ) (rows : List (Keyed (List ℕ))) → AllByRecursion (λ r. (owner r ≡ H) × (place r ≡ n)) (of_key place n (part H rows))
codes_mine H n rows =
    all_both (λ r. owner r ≡ H) (λ r. place r ≡ n) (λ r. (owner r ≡ H) × (place r ≡ n)) (λ r a b. (a, b)) (of_key place n (part H rows)) (all-filter (λ r. owner r ≡ H) (λ r. place r == n) (part H rows) (of_key_has owner H rows)) (of_key_has place n (part H rows))

pub lines_mine : (H n : ℕ) (rows : List (Keyed LineCells)) → AllByRecursion (λ r. (owner r ≡ H) × (place r ≡ n)) (of_key place n (part H rows))
lines_mine H n rows =
    all_both (λ r. owner r ≡ H) (λ r. place r ≡ n) (λ r. (owner r ≡ H) × (place r ≡ n)) (λ r a b. (a, b)) (of_key place n (part H rows)) (all-filter (λ r. owner r ≡ H) (λ r. place r == n) (part H rows) (of_key_has owner H rows)) (of_key_has place n (part H rows))

module _ (t : Tables) (stored : AreStored t) (form : IsCountry t.country) (row : HolderRow) (number : IsHolderNumber row.holder) (keeps : KeepsRules t row) where
  abbrev H : ℕ
  H = row.holder

  -- guarantees stand as they stood
  pub guarantees_same : guarantees_in (gathered t row) ≡ guarantees_by H t
  guarantees_same =
      renumbered place (with_codes t) (guarantee_row H) 0 (guarantees_by H t) keeps.guarantees.serials
      (all_both (λ g. owner g ≡ H) (λ (g : Keyed Guarantee). g.row.codes ≡ []) (λ g. guarantee_row H (place g, with_codes t g) ≡ g)
      (λ g own none. ap₂ (λ h codes. record { holder = h; serial = g.serial; row = record g.row { codes = codes } }) (sym own) (sym none))
      (guarantees_by H t) (are_mine H t.guarantees) (all_in_order place (λ (g : Keyed Guarantee). g.row.codes ≡ []) (part H t.guarantees) (all-filter (λ (g : Keyed Guarantee). g.row.codes ≡ []) (λ r. owner r == H) t.guarantees stored.without_codes)))

  pub guarantees_permuted : IsPermutation (guarantees_in (gathered t row)) (part H t.guarantees)
  guarantees_permuted = rw guarantees_same (IsPermutation-sym _ _ (in_order_permutes place (part H t.guarantees) (stored.guarantees H)))

  pub movements_same : movements_in (gathered t row) ≡ movements_by H t
  movements_same =
      renumbered place (with_lines t) (movement_row H) 0 (movements_by H t) keeps.movements.serials
      (all_both (λ m. owner m ≡ H) (λ (m : Keyed Movement). m.row.lines ≡ []) (λ m. movement_row H (place m, with_lines t m) ≡ m)
      (λ m own none. ap₂ (λ h lines. record { holder = h; serial = m.serial; row = record m.row { lines = lines } }) (sym own) (sym none))
      (movements_by H t) (are_mine H t.movements) (all_in_order place (λ (m : Keyed Movement). m.row.lines ≡ []) (part H t.movements) (all-filter (λ (m : Keyed Movement). m.row.lines ≡ []) (λ r. owner r == H) t.movements stored.without_lines)))

  pub movements_permuted : IsPermutation (movements_in (gathered t row)) (part H t.movements)
  movements_permuted = rw movements_same (IsPermutation-sym _ _ (in_order_permutes place (part H t.movements) (stored.movements H)))

  -- the codes of a guarantee
  pub codes_apart : (n : ℕ) → IsApart code_rank (of_key place n (part H t.codes))
  codes_apart n = ranks_apart (of_key place n (part H t.codes)) (all-filter (λ (c : Keyed (List ℕ)). IsAccessCode c.row) (λ r. place r == n) (part H t.codes) keeps.codes.form) (stored.codes H n)

  code_again : (n : ℕ) (rows : List (Keyed (List ℕ))) → AllByRecursion (λ r. (owner r ≡ H) × (place r ≡ n)) rows → map (code_row H n) (map (λ (c : Keyed (List ℕ)). c.row) rows) ≡ rows
  code_again n [] all = refl
  code_again n (c ∷ rows) all = ap₂ ◌∷◌ (ap₂ (λ h k. record { holder = h; serial = k; row = c.row }) (sym all.0.0) (sym all.0.1)) (code_again n rows all.1)

  codes_of : (n : ℕ) → IsPermutation (map (code_row H n) (map (λ (c : Keyed (List ℕ)). c.row) (codes_by H n t))) (of_key place n (part H t.codes))
  codes_of n =
      rw (code_again n (codes_by H n t) (all_in_order code_rank (λ r. (owner r ≡ H) × (place r ≡ n)) (of_key place n (part H t.codes)) (codes_mine H n t.codes)))
      (IsPermutation-sym _ _ (in_order_permutes code_rank (of_key place n (part H t.codes)) (codes_apart n)))

  pub codes_permuted : IsPermutation (code_rows_of (gathered t row)) (part H t.codes)
  codes_permuted =
      let each : IsPermutation (flat_map (λ (g : Keyed Guarantee). code_rows H (place g, with_codes t g)) (guarantees_by H t)) (grouped place place (part H t.codes) (guarantees_by H t)) =
      permuted_each (λ (g : Keyed Guarantee). code_rows H (place g, with_codes t g)) (λ g. of_key place (place g) (part H t.codes)) (guarantees_by H t)
      (all_weaker (λ (g : Keyed Guarantee). owner g ≡ H) (λ (g : Keyed Guarantee). IsPermutation (code_rows H (place g, with_codes t g)) (of_key place (place g) (part H t.codes)))
      (λ g own. subst (λ h. IsPermutation (map (code_row H g.serial) (map (λ (c : Keyed (List ℕ)). c.row) (codes_by h g.serial t))) (of_key place g.serial (part H t.codes))) (sym own) (codes_of g.serial))
      (guarantees_by H t) (are_mine H t.guarantees)) in
      rw (flat_numbered place (with_codes t) (code_rows H) 0 (guarantees_by H t) keeps.guarantees.serials)
      (IsPermutation-trans _ _ _ each (together place place 0 (guarantees_by H t) (in_order_rises place (part H t.guarantees)) (part H t.codes) keeps.codes.name))

  -- the serial of a guarantee's GRN is the guarantee's
  serial_of_grn : (g : Keyed Guarantee) → owner g ≡ H → g.serial ≤ greatest_grn_serial → IsGuaranteeInRange t.country g → serial_of t.country g.row.grn ≡ Some g.serial
  serial_of_grn g own most is = ap (serial_of t.country) is.grn.2 ∙ made_serial_is 6 is.grn.0 t.country g.holder g.serial form (subst IsHolderNumber (sym own) number) (omega (arith, most))

  pub all_serials : AllByRecursion (λ (g : Keyed Guarantee). serial_of t.country g.row.grn ≡ Some g.serial) (guarantees_by H t)
  all_serials =
      all_both (λ (g : Keyed Guarantee). owner g ≡ H) (λ (g : Keyed Guarantee). (g.serial ≤ greatest_grn_serial) × IsGuaranteeInRange t.country g) (λ (g : Keyed Guarantee). serial_of t.country g.row.grn ≡ Some g.serial) (λ g own is. serial_of_grn g own is.0 is.1)
      (guarantees_by H t) (are_mine H t.guarantees)
      (all_both (λ (g : Keyed Guarantee). (0 < g.serial) × (g.serial ≤ 0 + length (guarantees_by H t))) (IsGuaranteeInRange t.country) (λ (g : Keyed Guarantee). (g.serial ≤ greatest_grn_serial) × IsGuaranteeInRange t.country g)
      (λ g within is. (omega (arith, within.1, keeps.guarantees.count, keeps.guarantees.most), is)) (guarantees_by H t) (numbered_within place 0 (guarantees_by H t) keeps.guarantees.serials) keeps.guarantees.columns)

  -- a guarantee's GRN leads back to the serial that named it
  pub serial_back : (k : ℕ) → IsSome (row_at place k (guarantees_by H t)) → guarantee_no t.country (grn_by H k t) ≡ k
  serial_back k some = by_row (row_at place k (guarantees_by H t)) some (row_at_has place k (guarantees_by H t)) (All-row_at place (λ (g : Keyed Guarantee). serial_of t.country g.row.grn ≡ Some g.serial) k (guarantees_by H t) all_serials)
    where
      by_row : (o : Option (Keyed Guarantee)) → IsSome o → IfSome o (λ g. place g ≡ k) → IfSome o (λ (g : Keyed Guarantee). serial_of t.country g.row.grn ≡ Some g.serial) → guarantee_no t.country (option_map_or (λ (g : Keyed Guarantee). g.row.grn) o []) ≡ k
      by_row None some has is = cc
      by_row (Some g) some has is = ap (λ o. unwrap_or o 0) is ∙ has

  -- the lines of a movement
  line_again : (n : ℕ) (l : Keyed LineCells) → (owner l ≡ H) × (place l ≡ n) → IsSome (row_at place l.row.guarantee (guarantees_by H t)) → line_row t.country H n (no_of l, line_from t l) ≡ l
  line_again n l own some =
      let back : guarantee_no t.country (grn_by l.holder l.row.guarantee t) ≡ l.row.guarantee = ap (λ h. guarantee_no t.country (grn_by h l.row.guarantee t)) own.0 ∙ serial_back l.row.guarantee some in
      ap₂ (λ h k. record { holder = h; serial = k; row = record { no = l.row.no; guarantee = guarantee_no t.country (grn_by l.holder l.row.guarantee t); cents = l.row.cents } }) (sym own.0) (sym own.1)
      ∙ ap (λ g. record { holder = l.holder; serial = l.serial; row = record { no = l.row.no; guarantee = g; cents = l.row.cents } }) back

  lines_of : (m : Keyed Movement) → owner m ≡ H → AreLinesInRange t m → IsPermutation (line_rows t.country H (place m, with_lines t m)) (of_key place (place m) (part H t.lines))
  lines_of m own is =
      let names : AllByRecursion (λ (l : Keyed LineCells). IsSome (row_at place l.row.guarantee (guarantees_by H t))) (lines_by H m.serial t) = subst (λ h. AllByRecursion (λ (l : Keyed LineCells). IsSome (row_at place l.row.guarantee (guarantees_by h t))) (lines_by h m.serial t)) own is.name in
      let same : map (line_row t.country H m.serial) (numbered 0 (map (line_from t) (lines_by H m.serial t))) ≡ lines_by H m.serial t =
      renumbered no_of (line_from t) (line_row t.country H m.serial) 0 (lines_by H m.serial t) (subst (λ h. IsNumbered no_of 0 (lines_by h m.serial t)) own is.numbers)
      (all_both (λ l. (owner l ≡ H) × (place l ≡ m.serial)) (λ (l : Keyed LineCells). IsSome (row_at place l.row.guarantee (guarantees_by H t))) (λ l. line_row t.country H m.serial (no_of l, line_from t l) ≡ l) (line_again m.serial)
      (lines_by H m.serial t) (all_in_order no_of (λ l. (owner l ≡ H) × (place l ≡ m.serial)) (of_key place m.serial (part H t.lines)) (lines_mine H m.serial t.lines)) names) in
      subst (λ h. IsPermutation (map (line_row t.country H m.serial) (numbered 0 (map (line_from t) (lines_by h m.serial t)))) (of_key place m.serial (part H t.lines))) (sym own)
      (rw same (IsPermutation-sym _ _ (in_order_permutes no_of (of_key place m.serial (part H t.lines)) (stored.lines H m.serial))))

  pub lines_permuted : IsPermutation (line_rows_of t.country (gathered t row)) (part H t.lines)
  lines_permuted =
      let each : IsPermutation (flat_map (λ (m : Keyed Movement). line_rows t.country H (place m, with_lines t m)) (movements_by H t)) (grouped place place (part H t.lines) (movements_by H t)) =
      permuted_each (λ (m : Keyed Movement). line_rows t.country H (place m, with_lines t m)) (λ m. of_key place (place m) (part H t.lines)) (movements_by H t)
      (all_both (λ (m : Keyed Movement). owner m ≡ H) (AreLinesInRange t) (λ (m : Keyed Movement). IsPermutation (line_rows t.country H (place m, with_lines t m)) (of_key place (place m) (part H t.lines))) lines_of (movements_by H t) (are_mine H t.movements) keeps.lines.columns) in
      rw (flat_numbered place (with_lines t) (line_rows t.country H) 0 (movements_by H t) keeps.movements.serials)
      (IsPermutation-trans _ _ _ each (together place place 0 (movements_by H t) (in_order_rises place (part H t.movements)) (part H t.lines) keeps.lines.belong))

  -- the amounts that are kept
  pub kept_permuted : KeepAmounts t → IsPermutation (kept_in (gathered t row)) (part H t.kept)
  kept_permuted keep =
      let ms = (gathered t row).movements in
      let own : AllByRecursion (λ (k : Keyed Kept). IsInUse ms k) (part H t.kept) = keeps.amounts keep in
      let rows : IsPermutation (part H t.guarantees) (map without_amount (part H t.kept)) =
      subst (IsPermutation (part H t.guarantees)) (filter-map (λ r. owner r == H) without_amount t.kept) (IsPermutation-filter (λ r. owner r == H) t.guarantees (map without_amount t.kept) (stored.kept keep)) in
      subst (IsPermutation (kept_in (gathered t row))) (use_again (λ h. ms) (part H t.kept) own)
      (IsPermutation-map (with_use ms) _ _ (IsPermutation-trans _ _ _ guarantees_permuted rows))

module _ (t : Tables) (keep : KeepRules t) where
  -- the holders in order
  abbrev pub holders : List HolderRow
  holders = in_order holder_no t.holders

  pub each_keeps : AllByRecursion (λ (row : HolderRow). IsHolderNumber row.holder × KeepsRules t row) holders
  each_keeps = all_in_order holder_no (λ (row : HolderRow). IsHolderNumber row.holder × KeepsRules t row) t.holders (all_both (λ (row : HolderRow). IsHolderNumber row.holder) (KeepsRules t) (λ (row : HolderRow). IsHolderNumber row.holder × KeepsRules t row) (λ row a b. (a, b)) t.holders keep.stored.numbers keep.holders)

  -- the rows of all holders are those of the table
  whole : {X : Type 0} (f : HolderRows → List (Keyed X)) (rows : List (Keyed X)) → AreOfHolders t.holders rows → ((row : HolderRow) → IsHolderNumber row.holder × KeepsRules t row → IsPermutation (f (gathered t row)) (part row.holder rows))
      → IsPermutation (flat_map f (map (gathered t) holders)) rows
  whole f rows owned each =
      rw (flat_map-map f (gathered t) holders)
      (IsPermutation-trans _ _ _ (permuted_each (λ row. f (gathered t row)) (λ (row : HolderRow). part row.holder rows) holders (all_weaker (λ (row : HolderRow). IsHolderNumber row.holder × KeepsRules t row) (λ (row : HolderRow). IsPermutation (f (gathered t row)) (part row.holder rows)) each holders each_keeps))
      (together holder_no owner 0 holders (in_order_rises holder_no t.holders) rows
      (all_weaker (λ r. IsSome (row_at holder_no (owner r) t.holders)) (λ r. IsSome (row_at holder_no (owner r) holders)) (λ r some. subst IsSome (sym (found_in_order holder_no (owner r) t.holders)) some) rows owned)))

  rows_of_holders : map (λ (h : HolderRows). h.row) (map (gathered t) holders) ≡ holders
  rows_of_holders = map-map (λ (h : HolderRows). h.row) (gathered t) holders ∙ unmapped holders
    where
      unmapped : (xs : List HolderRow) → map (λ x. x) xs ≡ xs
      unmapped [] = refl
      unmapped (x ∷ xs) = ap (λ l. x ∷ l) (unmapped xs)

  -- the rows that keep amounts are of holders that are there, as those of guarantees are
  kept_owned : KeepAmounts t → AreOfHolders t.holders t.kept
  kept_owned kept =
      all_from_map (λ (r : Keyed Guarantee). IsSome (row_at holder_no (owner r) t.holders)) without_amount t.kept
      (all-permutation (λ r. IsSome (row_at holder_no (owner r) t.holders)) t.guarantees (map without_amount t.kept) (keep.stored.kept kept) keep.stored.guarantees_owned)

  pub are_of_content : AreTablesOf t (content_of t)
  are_of_content = record {
    country = refl;
    holders = rw rows_of_holders (IsPermutation-sym _ _ (in_order_permutes holder_no t.holders keep.stored.holders));
    guarantees = whole guarantees_in t.guarantees keep.stored.guarantees_owned (λ row is. guarantees_permuted t keep.stored keep.country row is.0 is.1);
    kept = λ kept. whole kept_in t.kept (kept_owned kept) (λ row is. kept_permuted t keep.stored keep.country row is.0 is.1 kept);
    codes = whole code_rows_of t.codes keep.stored.codes_owned (λ row is. codes_permuted t keep.stored keep.country row is.0 is.1);
    movements = whole movements_in t.movements keep.stored.movements_owned (λ row is. movements_permuted t keep.stored keep.country row is.0 is.1);
    lines = whole (line_rows_of t.country) t.lines keep.stored.lines_owned (λ row is. lines_permuted t keep.stored keep.country row is.0 is.1);
  }
