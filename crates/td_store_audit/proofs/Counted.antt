-- The lines on a guarantee, of the movements whose serials count, add up to what a join of the two tables would.
use Rattle.std.proofs.Common.{sum_by, ◌≡◌, ◌∙◌, ◌+◌, ◌<◌, ℕ, Bool, true, false, cond, List, [], ◌∷◌, map, flat_map, Some, refl, sym, ap, ap₂, subst, arith, IsPermutation}
use Rattle.std.specs.Prelude.{◌==◌, ◌&&◌, filter, is_some, if◌then◌else◌}
use Rattle.std.specs.List.{AllByRecursion}
use Rattle.std.proofs.lemmas.Bool.Decides.{nat_tests}
use Rattle.std.proofs.lemmas.List.Sorted.{IsPermutation-refl, sum_by-IsPermutation}
use Rattle.std.proofs.lemmas.List.Sums.{sum_by-append, sum_by-cons}
use Rattle.sqlite_trees.proofs.ListLemmas.{IsPermutation-filter}
use Rattle.keyed_rows.specs.Rows.{Rises, row_at}
use Rattle.td_movement.specs.States.{is_counting}
use Rattle.td_movement.specs.declared.movement.Movement.{Movement}
use Rattle.td_table_model.specs.Gathering.{owner, part, place}
use Rattle.td_table_model.specs.Looking.{cents_of, counting_rows, lines_in_use, lines_of_row}
use Rattle.td_table_model.specs.Tables.{Keyed, LineCells, Tables}
use Rattle.td_table_model.proofs.Counting.{filter_both, sum_by-map}
use Rattle.typed_sql.proofs.Ordered.{both_pass}
use Rattle.td_store_rows.specs.MovementTable.{counts_for, serial_of_stored}
use Rattle.td_store_rows.specs.declared.movements.stored.MovementSerial.{MovementSerial}
use Rattle.td_store_rows.specs.LineTable.{is_line_on, line_row_of}
use Rattle.td_store_rows.specs.declared.lines.stored.StoredLine.{StoredLine}
use Rattle.td_store_audit.specs.Totals.{counted, sum_on, total_on}
use Rattle.td_store_audit.proofs.Totalled.{total_of_rows}
use Rattle.td_store_audit.proofs.Sums.{sum_by-both, sum_by-nothing, sum_by-passing}

-- Of serials that rise one at most is k.
module _ (k x : ℕ) where
  abbrev taken : MovementSerial → ℕ
  taken s = if serial_of_stored s == k then x else 0

  -- none is that begin above it
  none_above : (low : ℕ) (serials : List MovementSerial) → Rises serial_of_stored low serials → k < low → sum_by taken serials ≡ 0
  none_above low [] rises below = refl
  none_above low (s ∷ serials) rises below =
      sum_by-cons taken s serials
      ∙ by_test (serial_of_stored s == k) refl (none_above (serial_of_stored s + 1) serials rises.1 (omega (arith, rises.0, below)))
    where
      by_test : (b : Bool) → (serial_of_stored s == k) ≡ b → sum_by taken serials ≡ 0 → (if b then x else 0) + sum_by taken serials ≡ 0
      by_test true is rest = let same : serial_of_stored s ≡ k = grind (arith, nat_tests, is) in absurd (omega (arith, same, rises.0, below))
      by_test false is rest = omega (arith, rest)

  once : (low : ℕ) (serials : List MovementSerial) → Rises serial_of_stored low serials
      → sum_by taken serials ≡ (if is_some (row_at serial_of_stored k serials) then x else 0)
  once low [] rises = refl
  once low (s ∷ serials) rises =
      sum_by-cons taken s serials ∙ by_test (serial_of_stored s == k) refl (once (serial_of_stored s + 1) serials rises.1)
    where
      by_test : (b : Bool) → (serial_of_stored s == k) ≡ b
          → sum_by taken serials ≡ (if is_some (row_at serial_of_stored k serials) then x else 0)
          → (if b then x else 0) + sum_by taken serials ≡ (if is_some (cond b (Some s) (row_at serial_of_stored k serials)) then x else 0)
      by_test true is rest =
          let same : serial_of_stored s ≡ k = grind (arith, nat_tests, is) in
          omega (arith, none_above (serial_of_stored s + 1) serials rises.1 (omega (arith, same)))
      by_test false is rest = omega arith ∙ rest

-- what passes passes again
filter_again : {X : Type 0} (p : X → Bool) (xs : List X) → filter p (filter p xs) ≡ filter p xs
filter_again p [] = refl
filter_again {X} p (x ∷ xs) = by_test (p x) refl (filter_again p xs)
  where
    by_test : (b : Bool) → p x ≡ b → filter p (filter p xs) ≡ filter p xs
        → filter p (cond b (x ∷ filter p xs) (filter p xs)) ≡ cond b (x ∷ filter p xs) (filter p xs)
    by_test true is later = rw is (ap (λ l. x ∷ l) later)
    by_test false is later = later

-- two numbers are compared alike in either order
either_way : (a b : ℕ) → (a == b) ≡ (b == a)
either_way a b = grind (arith, nat_tests)

-- the middle test last
middle_last : (a b d : Bool) (x : ℕ) → (if a && (b && d) then x else 0) ≡ (if a && d then (if b then x else 0) else 0)
middle_last true true true x = refl
middle_last true true false x = refl
middle_last true false true x = refl
middle_last true false false x = refl
middle_last false b d x = refl

-- under one test
one_test : (a : Bool) (x y : ℕ) → (if a then x else 0) + (if a then y else 0) ≡ (if a then x + y else 0)
one_test true x y = refl
one_test false x y = refl

module _ (H n : ℕ) (t : Tables) where
  -- what a line takes up by the rows of movements: its cents for each that has its serial
  abbrev part_of : List (Keyed Movement) → Keyed LineCells → ℕ
  part_of rows l = sum_by (λ m. if place m == l.serial then l.row.cents else 0) rows

  abbrev is_on : Keyed LineCells → Bool
  is_on l = is_line_on H n l

  nothing : (b : Bool) → if◌then◌else◌ {A = ℕ} b 0 0 ≡ 0
  nothing true = refl
  nothing false = refl

  -- by one movement
  by_one : (m : Keyed Movement) → owner m ≡ H
      → sum_by cents_of (lines_of_row n t m) ≡ sum_by (λ l. if is_on l then (if place m == l.serial then l.row.cents else 0) else 0) t.lines
  by_one m own =
      sum_by-passing cents_of (λ l. l.holder == m.holder && (l.serial == m.serial && l.row.guarantee == n)) t.lines
      ∙ (λ i. sum_by (λ l. each l i) t.lines)
    where
      each : (l : Keyed LineCells) → (if l.holder == m.holder && (l.serial == m.serial && l.row.guarantee == n) then cents_of l else 0)
          ≡ (if is_on l then (if place m == l.serial then l.row.cents else 0) else 0)
      each l =
          ap (λ h. if l.holder == h && (l.serial == m.serial && l.row.guarantee == n) then cents_of l else 0) own
          ∙ middle_last (l.holder == H) (l.serial == m.serial) (l.row.guarantee == n) (cents_of l)
          ∙ ap (λ b. if is_on l then (if b then l.row.cents else 0) else 0) (either_way l.serial (place m))

  -- by all of them
  by_all : (rows : List (Keyed Movement)) → AllByRecursion (λ m. owner m ≡ H) rows
      → sum_by cents_of (flat_map (lines_of_row n t) rows) ≡ sum_by (λ l. if is_on l then part_of rows l else 0) t.lines
  by_all [] own = sym (sum_by-nothing (λ l. if is_on l then 0 else 0) (λ l. nothing (is_on l)) t.lines)
  by_all (m ∷ rows) own =
      sum_by-append cents_of (lines_of_row n t m) (flat_map (lines_of_row n t) rows)
      ∙ ap₂ ◌+◌ (by_one m own.0) (by_all rows own.1)
      ∙ sym (sum_by-both (λ l. if is_on l then of_one l else 0) (λ l. if is_on l then part_of rows l else 0) t.lines)
      ∙ (λ i. sum_by (λ l. each l i) t.lines)
    where
      of_one : Keyed LineCells → ℕ
      of_one l = if place m == l.serial then l.row.cents else 0

      each : (l : Keyed LineCells) → (if is_on l then of_one l else 0) + (if is_on l then part_of rows l else 0) ≡ (if is_on l then part_of (m ∷ rows) l else 0)
      each l =
          one_test (is_on l) (of_one l) (part_of rows l)
          ∙ ap (λ k. if is_on l then k else 0) (sym (sum_by-cons (λ (r : Keyed Movement). if place r == l.serial then l.row.cents else 0) m rows))

  -- the movements that count are the holder's
  all_own : (rows : List (Keyed Movement)) → AllByRecursion (λ m. owner m ≡ H) (filter (counts_for H) rows)
  all_own [] = tt
  all_own (m ∷ rows) = by_test (counts_for H m) refl (all_own rows)
    where
      by_test : (b : Bool) → counts_for H m ≡ b → AllByRecursion (λ m. owner m ≡ H) (filter (counts_for H) rows)
          → AllByRecursion (λ m. owner m ≡ H) (cond b (m ∷ filter (counts_for H) rows) (filter (counts_for H) rows))
      by_test true is rest =
          let mine : (owner m == H) ≡ true = (both_pass (owner m == H) (is_counting m.row.state) is).0 in
          (grind (arith, nat_tests, mine), rest)
      by_test false is rest = rest

  module _ (serials : List MovementSerial) (rises : Rises serial_of_stored 0 serials)
      (those : IsPermutation (map place (counting_rows H t)) (map serial_of_stored serials)) where
    -- a line takes up its cents where its serial is one of those that count
    part_is : (l : Keyed LineCells) → part_of (counting_rows H t) l ≡ counted serials l
    part_is l =
        let take : ℕ → ℕ = λ k. if k == l.serial then l.row.cents else 0 in
        sym (sum_by-map take place (counting_rows H t)) ∙ sym (sum_by-IsPermutation take _ _ those)
        ∙ sum_by-map take serial_of_stored serials ∙ once l.serial l.row.cents 0 serials rises

    in_use_is : (lines : List (Keyed LineCells)) → IsPermutation (filter is_on t.lines) lines
        → sum_by (counted serials) lines ≡ sum_by cents_of (lines_in_use H n t)
    in_use_is lines found =
        sym (λ i. sum_by (λ l. part_is l i) lines)
        ∙ sum_by-IsPermutation (part_of (counting_rows H t)) _ _ found
        ∙ sum_by-passing (part_of (counting_rows H t)) is_on t.lines
        ∙ sym (by_all (counting_rows H t) (all_own t.movements))

    abbrev names_it : Keyed LineCells → Bool
    names_it l = l.row.guarantee == n

    -- of lines on any guarantee those on this one
    of_any : (rows lines : List (Keyed LineCells)) → filter is_on t.lines ≡ filter names_it rows → IsPermutation rows lines
        → sum_on n serials lines ≡ sum_by cents_of (lines_in_use H n t)
    of_any rows lines same found =
        sym (sum_by-passing (counted serials) names_it lines)
        ∙ in_use_is (filter names_it lines)
        (subst (λ xs. IsPermutation xs (filter names_it lines)) (sym same) (IsPermutation-filter names_it rows lines found))

    -- of all lines of the holder
    pub of_holder : sum_on n serials (part H t.lines) ≡ sum_by cents_of (lines_in_use H n t)
    of_holder = of_any (part H t.lines) (part H t.lines) (filter_both names_it (λ l. owner l == H) t.lines) (IsPermutation-refl (part H t.lines))

    -- of those on the guarantee
    pub of_guarantee : (lines : List StoredLine) → IsPermutation (filter is_on t.lines) (map line_row_of lines)
        → total_on n serials lines ≡ sum_by cents_of (lines_in_use H n t)
    of_guarantee lines found =
        total_of_rows n serials lines
        ∙ of_any (filter is_on t.lines) (map line_row_of lines)
        (filter_both names_it (λ l. owner l == H) t.lines ∙ sym (filter_again names_it (part H t.lines))
        ∙ sym (ap (filter names_it) (filter_both names_it (λ l. owner l == H) t.lines))) found
