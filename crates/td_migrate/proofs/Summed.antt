-- What a holder's lines add up to, read by ranges of their movements' serials.
use Rattle.std.proofs.Common.{◌≡◌, ◌∙◌, ℕ, ◌+◌, ◌<◌, ◌≤◌, true, List, ◌++◌, map, sym, ap, subst, arith, IsPermutation}
use Rattle.std.specs.Prelude.{◌==◌, ◌&&◌, filter, if◌then◌else◌, nat_le, nat_lt}
use Rattle.std.specs.List.{AllByRecursion}
use Rattle.std.proofs.lemmas.Bool.Decides.{nat_tests}
use Rattle.std.proofs.lemmas.List.Sorted.{sum_by-IsPermutation}
use Rattle.std.proofs.lemmas.List.Sums.{sum_by-append}
use Rattle.sqlite_trees.proofs.ListLemmas.{all_weaker}
use Rattle.sqlite.specs.State.{State}
use Rattle.keyed_rows.specs.Rows.{Rises}
use Rattle.typed_sql.specs.Typed.{AreTyped, typed_rows}
use Rattle.td_table_model.specs.Gathering.{owner, part, place}
use Rattle.td_table_model.specs.Tables.{Keyed, LineCells, version_with_amounts}
use Rattle.td_table_model.proofs.Counting.{filter_both, sum_by-map}
use Rattle.td_schema.specs.declared.layout.Layout.{Layout}
use Rattle.td_store_rows.specs.Columns.{line_typing}
use Rattle.td_store_rows.specs.LineTable.{line_row_of}
use Rattle.td_store_rows.specs.MovementTable.{AreSerialsOf, counts_for, serial_of_stored}
use Rattle.td_store_rows.specs.Places.{is_within}
use Rattle.td_store_rows.specs.StoreReads.{IsOfVersion}
use Rattle.td_store_rows.specs.StoreTables.{tables_in}
use Rattle.td_store_rows.specs.declared.lines.stored.StoredLine.{StoredLine}
use Rattle.td_store_rows.specs.declared.movements.stored.MovementSerial.{MovementSerial}
use Rattle.td_store_audit.specs.Found.{AreLinesWithin}
use Rattle.td_store_audit.specs.InFile.{OnlyReadIn}
use Rattle.td_store_audit.specs.Totals.{AreKeptUpTo, AreTotals, IsAmount, counted, kept_on, sum_on, total_on}
use Rattle.td_store_audit.specs.declared.totals.Totals.{Totals}
use Rattle.td_store_audit.proofs.Counted.{of_holder}
use Rattle.td_store_audit.proofs.Reading.{so_before}
use Rattle.td_migrate.specs.InUse.{AreInUse, AreSumsBelow}
use Rattle.td_migrate.proofs.Passing.{filter_all}
use Rattle.td_migrate.proofs.Split.{range_none, ranges_join}

abbrev At : Layout → Type 0
At = IsOfVersion version_with_amounts

-- what lines add up to on a guarantee, as what each of them adds
abbrev taken : ℕ → List MovementSerial → Keyed LineCells → ℕ
taken n serials l = if l.row.guarantee == n then counted serials l else 0

module _ (H : ℕ) (serials : List MovementSerial) (a : State) where
  abbrev rows : Layout → List (Keyed LineCells)
  rows layout = typed_rows (line_typing layout) a.now.trees

  -- at first nothing
  pub begins : (totals : Totals) → AreTotals (λ n. 0) totals → AreSumsBelow H serials 0 a totals
  begins totals none layout own has typed n = subst (λ xs. IsAmount (sum_on n serials xs) (kept_on n totals)) (sym (range_none H (rows layout))) (none n)

  -- the lines of one range more are added
  module _ (b : State) (read : OnlyReadIn At a b) (first next guarantees : ℕ) (up : first ≤ next) (lines : List StoredLine)
      (found : AreLinesWithin version_with_amounts H first next b lines) (old new : Totals) (upto : AreKeptUpTo guarantees old)
      (on : AllByRecursion (λ (line : StoredLine). line.guarantee ≤ guarantees) lines)
      (added : (sums : ℕ → ℕ) → AllByRecursion (λ l. AreKeptUpTo l.guarantee old) lines → AreTotals sums old → AreTotals (λ n. sums n + total_on n serials lines) new) where
    found_before : AreLinesWithin version_with_amounts H first next a lines
    found_before =
        so_before At (λ layout. AreTyped (line_typing layout))
        (λ layout trees. IsPermutation (filter (is_within H first next) (typed_rows (line_typing layout) trees)) (map line_row_of lines)) a b read found

    all_on : AllByRecursion (λ l. AreKeptUpTo l.guarantee old) lines
    all_on = all_weaker (λ (line : StoredLine). line.guarantee ≤ guarantees) (λ l. AreKeptUpTo l.guarantee old) (λ l low. omega (arith, low, upto)) lines on

    pub more_summed : AreSumsBelow H serials first a old → AreSumsBelow H serials next a new
    more_summed before layout own has typed n =
        subst (λ k. IsAmount k (kept_on n new)) sum_is
        (added (λ n. sum_on n serials (filter (is_within H 0 first) (rows layout))) all_on (before layout own has typed) n)
      where
        low : List (Keyed LineCells)
        low = filter (is_within H 0 first) (rows layout)

        here : List (Keyed LineCells)
        here = filter (is_within H first next) (rows layout)

        sum_is : sum_on n serials low + total_on n serials lines ≡ sum_on n serials (filter (is_within H 0 next) (rows layout))
        sum_is =
            ap (λ k. sum_on n serials low + k)
            (sym (sum_by-map (taken n serials) line_row_of lines) ∙ sum_by-IsPermutation (taken n serials) here (map line_row_of lines) (found_before layout own has typed))
            ∙ sym (sum_by-append (taken n serials) low here)
            ∙ sym (sum_by-IsPermutation (taken n serials) (low ++ here) (filter (is_within H 0 next) (rows layout)) (ranges_join H first next up (rows layout)))

-- of all lines of the holder it is what is in use, where the serials are those of the movements that count
all_within : (H end : ℕ) (rows : List (Keyed LineCells)) → AllByRecursion (λ l. place l < end) (part H rows) → filter (is_within H 0 end) rows ≡ part H rows
all_within H end rows below =
    filter_both (λ l. nat_le 0 (place l) && nat_lt (place l) end) (λ l. owner l == H) rows
    ∙ filter_all (λ l. nat_le 0 (place l) && nat_lt (place l) end) (part H rows)
    (all_weaker (λ l. place l < end) (λ l. (nat_le 0 (place l) && nat_lt (place l) end) ≡ true) (λ l low. grind (arith, nat_tests, low)) (part H rows) below)

pub in_use_told : (H end : ℕ) (serials : List MovementSerial) (a b : State) → OnlyReadIn At a b → Rises serial_of_stored 0 serials
    → AreSerialsOf (counts_for H) a serials → (totals : Totals) → AreSumsBelow H serials end b totals → AreInUse H end a totals
in_use_told H end serials a b read rises those totals sums layout own has q n =
    let rows : List (Keyed LineCells) = typed_rows (line_typing layout) a.now.trees in
    let here : AreSumsBelow H serials end a totals =
    so_before At (λ layout. AreTyped (line_typing layout))
    (λ layout trees. AreTotals (λ n. sum_on n serials (filter (is_within H 0 end) (typed_rows (line_typing layout) trees))) totals) a b read sums in
    subst (λ k. IsAmount k (kept_on n totals))
    (ap (sum_on n serials) (all_within H end rows q.below) ∙ of_holder H n (tables_in layout a.now.trees) serials rises (those layout has q.movements))
    (here layout own has q.lines n)
