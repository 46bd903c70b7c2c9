-- What the lines on a guarantee add up to, of those of the holder's movements that count, is the amount in use on it: whatever
-- the reference amounts are.
use Rattle.std.proofs.Common.{◌≡◌, ◌∙◌, ◌+◌, ◌<◌, ◌≤◌, ℕ, Bool, true, false, cond, List, [], ◌∷◌, length, map, sum_by, Option, Some, None, IsSome, refl, sym, ap, subst, arith}
use Rattle.std.specs.Prelude.{◌==◌, ◌&&◌, IfSome, if◌then◌else◌, unwrap_or}
use Rattle.std.specs.List.{AllByRecursion}
use Rattle.std.specs.Option.{option_map_or}
use Rattle.std.specs.Str.{bytes_eq}
use Rattle.std.proofs.lemmas.Bool.Decides.{nat_tests}
use Rattle.std.proofs.lemmas.List.Sorted.{sum_by-IsPermutation}
use Rattle.std.proofs.lemmas.Slice.Eq.{bytes_eq-Decides}
use Rattle.sqlite_trees.proofs.ListLemmas.{all_both, all_weaker}
use Rattle.keyed_rows.specs.Rows.{row_at}
use Rattle.keyed_rows.proofs.Putting.{All-row_at, row_at_has}
use Rattle.td_base.specs.Codes.{IsCountry, IsHolderNumber}
use Rattle.td_base.specs.References.{serial_of, greatest_grn_serial}
use Rattle.td_base.proofs.MadeReferences.{made_serial_is}
use Rattle.td_guarantee.specs.declared.guarantee.Guarantee.{Guarantee}
use Rattle.td_guarantee.specs.Usage.{cents_on, movement_on, used_on}
use Rattle.td_movement.specs.States.{is_counting}
use Rattle.td_model.specs.declared.holder_row.HolderRow.{HolderRow}
use Rattle.td_table_model.specs.Gathering.{IsApart, IsNumbered, grn_by, guarantees_by, line_from, lines_by, movements_by, no_of, of_key, owner, part, place, with_lines}
use Rattle.td_table_model.specs.Looking.{cents_of, counting_rows, lines_in_use, lines_of_row}
use Rattle.td_table_model.specs.Rules.{AreLinesInRange, HasGuarantees, HasLines, IsGuaranteeInRange, named_by}
use Rattle.td_table_model.specs.Tables.{Keyed, LineCells, Tables, guarantee_no}
use Rattle.td_table_model.proofs.Counting.{filter_both, sum_by-map}
use Rattle.td_table_model.proofs.Orders.{in_order_permutes}
use Rattle.td_table_model.proofs.Rebuilt.{all_in_order, numbered_within}
use Rattle.td_table_model.proofs.Ruled.{are_mine, lines_mine}
use Rattle.td_movement.specs.declared.movement.Movement.{Movement}
use Rattle.td_store_audit.proofs.Sums.{sum_by-flat_map, sum_by-passing, sum_by-same}

-- numbered rows are found by their numbers
pub found_by_own : {R : Type 0} (key : R → ℕ) (n : ℕ) (rows : List R) → IsNumbered key n rows → AllByRecursion (λ r. row_at key (key r) rows ≡ Some r) rows
found_by_own key n [] numbers = tt
found_by_own {R} key n (r ∷ rows) numbers = (
  here (key r == key r) (grind (arith, nat_tests)),
  all_both (λ x. (n + 1 < key x) × (key x ≤ n + 1 + length rows)) (λ x. row_at key (key x) rows ≡ Some x) (λ x. row_at key (key x) (r ∷ rows) ≡ Some x)
      (λ x within found. let low : n + 1 < key x = within.0 in let own : key r ≡ n + 1 = numbers.0 in behind x (key r == key x) (grind (arith, nat_tests, low, own)) found)
      rows (numbered_within key (n + 1) rows numbers.1) (found_by_own key (n + 1) rows numbers.1),
)
  where
    here : (b : Bool) → b ≡ true → cond b (Some r) (row_at key (key r) rows) ≡ Some r
    here true is = refl
    here false is = cc

    behind : (x : R) (b : Bool) → b ≡ false → row_at key (key x) rows ≡ Some x → cond b (Some r) (row_at key (key x) rows) ≡ Some x
    behind x true is found = cc
    behind x false is found = found

module _ (t : Tables) (form : IsCountry t.country) (row : HolderRow) (number : IsHolderNumber row.holder) (has : HasGuarantees t row) where
  abbrev H : ℕ
  H = row.holder

  -- the serial in a GRN of the holder's is the guarantee's
  serial_told : (g : Keyed Guarantee) → owner g ≡ H → g.serial ≤ greatest_grn_serial → IsGuaranteeInRange t.country g → serial_of t.country g.row.grn ≡ Some g.serial
  serial_told g own most is =
      ap (serial_of t.country) is.grn.2
      ∙ made_serial_is 6 is.grn.0 t.country g.holder g.serial form (subst IsHolderNumber (sym own) number) (omega (arith, most))

  all_told : AllByRecursion (λ (g : Keyed Guarantee). serial_of t.country g.row.grn ≡ Some g.serial) (guarantees_by H t)
  all_told =
      all_both (λ (g : Keyed Guarantee). owner g ≡ H) (λ (g : Keyed Guarantee). (g.serial ≤ greatest_grn_serial) × IsGuaranteeInRange t.country g)
      (λ (g : Keyed Guarantee). serial_of t.country g.row.grn ≡ Some g.serial) (λ g own is. serial_told g own is.0 is.1)
      (guarantees_by H t) (are_mine H t.guarantees)
      (all_both (λ (g : Keyed Guarantee). (0 < g.serial) × (g.serial ≤ 0 + length (guarantees_by H t))) (IsGuaranteeInRange t.country)
      (λ (g : Keyed Guarantee). (g.serial ≤ greatest_grn_serial) × IsGuaranteeInRange t.country g)
      (λ g within is. (omega (arith, within.1, has.count, has.most), is)) (guarantees_by H t) (numbered_within place 0 (guarantees_by H t) has.serials) has.columns)

  -- so a guarantee's GRN leads back to the serial
  serial_back : (k : ℕ) → IsSome (row_at place k (guarantees_by H t)) → guarantee_no t.country (grn_by H k t) ≡ k
  serial_back k some =
      by_row (row_at place k (guarantees_by H t)) some (row_at_has place k (guarantees_by H t))
      (All-row_at place (λ (g : Keyed Guarantee). serial_of t.country g.row.grn ≡ Some g.serial) k (guarantees_by H t) all_told)
    where
      by_row : (o : Option (Keyed Guarantee)) → IsSome o → IfSome o (λ g. place g ≡ k)
          → IfSome o (λ (g : Keyed Guarantee). serial_of t.country g.row.grn ≡ Some g.serial)
          → guarantee_no t.country (option_map_or (λ (g : Keyed Guarantee). g.row.grn) o []) ≡ k
      by_row None some has is = cc
      by_row (Some g) some has is = ap (λ o. unwrap_or o 0) is ∙ has

  module _ (n : ℕ) (there : IsSome (row_at place n (guarantees_by H t))) where
    abbrev grn : List ℕ
    grn = grn_by H n t

    -- a line names the guarantee by its serial exactly where it names it by its GRN
    names : (k : ℕ) → IsSome (row_at place k (guarantees_by H t)) → (k == n) ≡ bytes_eq (grn_by H k t) grn
    names k some = by_tests (k == n) (bytes_eq (grn_by H k t) grn) refl refl
      where
        by_tests : (a b : Bool) → (k == n) ≡ a → bytes_eq (grn_by H k t) grn ≡ b → a ≡ b
        by_tests true true same told = refl
        by_tests false false same told = refl
        by_tests true false same told =
            let e : k ≡ n = grind (arith, nat_tests, same) in
            sym ((bytes_eq-Decides (grn_by H k t) grn).1 (ap (λ j. grn_by H j t) e)) ∙ told
        by_tests false true same told =
            let e : k ≡ n = sym (serial_back k some) ∙ ap (guarantee_no t.country) ((bytes_eq-Decides (grn_by H k t) grn).0 told) ∙ serial_back n there in
            grind (arith, nat_tests, same, e)

    -- what a line's row takes up on it
    abbrev taken : Keyed LineCells → ℕ
    taken l = if l.row.guarantee == n then l.row.cents else 0

    line_on : (l : Keyed LineCells) → owner l ≡ H → IsSome (row_at place (named_by l) (guarantees_by H t)) → taken l ≡ cents_on grn (line_from t l)
    line_on l own some =
        ap (λ b. if b then l.row.cents else 0) (names (named_by l) some ∙ ap (λ h. bytes_eq (grn_by h (named_by l) t) grn) (sym own))

    -- what a movement's row takes up on it
    abbrev used_by : Keyed Movement → ℕ
    used_by m = if is_counting m.row.state then sum_by cents_of (lines_of_row n t m) else 0

    movement_lines : (m : Keyed Movement) → owner m ≡ H → IsApart no_of (of_key place (place m) (part m.holder t.lines)) → AreLinesInRange t m
        → used_by m ≡ movement_on grn (with_lines t m)
    movement_lines m own apart is =
        let mine : List (Keyed LineCells) = of_key place (place m) (part m.holder t.lines) in
        let rows = lines_by m.holder (place m) t in
        let each : AllByRecursion (λ l. taken l ≡ cents_on grn (line_from t l)) rows =
        all_both (λ l. owner l ≡ m.holder) (λ l. IsSome (row_at place (named_by l) (guarantees_by m.holder t))) (λ l. taken l ≡ cents_on grn (line_from t l))
        (λ l its some. line_on l (its ∙ own) (subst (λ h. IsSome (row_at place (named_by l) (guarantees_by h t))) own some)) rows
        (all_in_order no_of (λ l. owner l ≡ m.holder) mine (all_weaker (λ l. (owner l ≡ m.holder) × (place l ≡ place m)) (λ l. owner l ≡ m.holder) (λ l h. h.0) mine (lines_mine m.holder (place m) t.lines)))
        is.name in
        ap (λ k. if is_counting m.row.state then k else 0)
        (ap (sum_by cents_of) (filter_both (λ l. l.serial == m.serial && l.row.guarantee == n) (λ l. owner l == m.holder) t.lines
        ∙ filter_both (λ l. l.row.guarantee == n) (λ l. place l == m.serial) (part m.holder t.lines))
        ∙ sum_by-passing cents_of (λ l. l.row.guarantee == n) mine
        ∙ sym (sum_by-IsPermutation taken mine rows (in_order_permutes no_of mine apart))
        ∙ sum_by-same taken (λ l. cents_on grn (line_from t l)) rows each
        ∙ sym (sum_by-map (cents_on grn) (line_from t) rows))

    pub used_is : IsApart place (part H t.movements) → ((k : ℕ) → IsApart no_of (of_key place k (part H t.lines))) → HasLines t row
        → sum_by cents_of (lines_in_use H n t) ≡ used_on grn (map (with_lines t) (movements_by H t))
    used_is apart lines_apart lines =
        sum_by-flat_map cents_of (lines_of_row n t) (counting_rows H t)
        ∙ ap (sum_by (λ m. sum_by cents_of (lines_of_row n t m))) (filter_both (λ (m : Keyed Movement). is_counting m.row.state) (λ m. owner m == H) t.movements)
        ∙ sum_by-passing (λ m. sum_by cents_of (lines_of_row n t m)) (λ (m : Keyed Movement). is_counting m.row.state) (part H t.movements)
        ∙ sym (sum_by-IsPermutation used_by (part H t.movements) (movements_by H t) (in_order_permutes place (part H t.movements) apart))
        ∙ sum_by-same used_by (λ m. movement_on grn (with_lines t m)) (movements_by H t)
        (all_both (λ m. owner m ≡ H) (AreLinesInRange t) (λ m. used_by m ≡ movement_on grn (with_lines t m))
        (λ m own is. movement_lines m own (subst (λ h. IsApart no_of (of_key place (place m) (part h t.lines))) (sym own) (lines_apart (place m))) is)
        (movements_by H t) (are_mine H t.movements) lines.columns)
        ∙ sym (sum_by-map (movement_on grn) (with_lines t) (movements_by H t))
