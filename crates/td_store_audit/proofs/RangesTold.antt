-- What is told of a holder's lines, read by ranges of their movements' serials.
use Rattle.std.proofs.Common.{◌≡◌, ◌∙◌, ℕ, ◌+◌, ◌≤◌, Bool, true, false, List, [], Some, map, refl, sym, ap, subst, arith, IsPermutation}
use Rattle.std.specs.Prelude.{◌↔◌, ◌==◌, IsFalse, IsTrue, filter, if◌then◌else◌}
use Rattle.std.specs.List.{AllByRecursion}
use Rattle.std.specs.List.Sorted.{IsSorted}
use Rattle.std.proofs.lemmas.Bool.{false≢true}
use Rattle.std.proofs.lemmas.List.Sorted.{sum_by-IsPermutation}
use Rattle.sqlite_trees.specs.Tree.{Trees}
use Rattle.sqlite_trees.proofs.ListLemmas.{all_from_map, all_weaker}
use Rattle.sqlite.specs.State.{State}
use Rattle.typed_sql.specs.Typed.{AreTyped, typed_rows}
use Rattle.td_table_model.specs.Gathering.{part, place}
use Rattle.td_table_model.specs.Rules.{named_by}
use Rattle.td_table_model.specs.Tables.{Keyed, LineCells}
use Rattle.td_schema.specs.declared.layout.Layout.{Layout}
use Rattle.td_store_rows.specs.Columns.{line_typing}
use Rattle.td_store_rows.specs.LineTable.{line_row_of}
use Rattle.td_store_rows.specs.Places.{is_after, is_within}
use Rattle.td_store_rows.specs.StoreReads.{IsOfVersion}
use Rattle.td_store_rows.specs.declared.lines.stored.StoredLine.{StoredLine}
use Rattle.td_store_rows.specs.declared.movements.stored.MovementSerial.{MovementSerial}
use Rattle.td_store_audit_rows.specs.declared.holders.RawHolder.{RawHolder}
use Rattle.td_store_audit.specs.Found.{AreLinesWithin, TellsBehind, line_order}
use Rattle.td_store_audit.specs.InFile.{IsSoWhere, OnlyReadIn}
use Rattle.td_store_audit.specs.InPlace.{AreLinesInPlaceWithin, AreNumbersApart, AreOfOneMovement, AreSerialsWithin, IsByNumber, IsBySerial}
use Rattle.td_store_audit.specs.Premises.{AreTotalsBelow, HasLinesInPlace, TellsWithin}
use Rattle.td_store_audit.specs.Tallies.{AreItsTotals}
use Rattle.td_store_audit.specs.Totals.{AreKeptUpTo, AreTotals, IsAmount, counted, kept_on, sum_on, total_on}
use Rattle.td_store_audit.specs.declared.tallies.CountingSerials.{CountingSerials}
use Rattle.td_store_audit.specs.declared.totals.Totals.{Totals}
use Rattle.td_store_audit.proofs.Ordering.{lines_by_number, lines_by_serial}
use Rattle.td_store_audit.proofs.LineRanges.{all_below, all_in_place, found_apart, found_named, is_below, lines_tell, none_below, sums_joined, within_is}
use Rattle.td_store_audit.proofs.PlaceRanges.{behind_none, found_within, is_in, joined_in_place, none_behind, none_in_place, part_in_place}
use Rattle.td_store_audit.proofs.Reading.{so_before}
use Rattle.td_store_audit.proofs.Totalled.{total_of_rows}

-- one range of a holder's lines, found in order
pub range_told : (layout : Layout) (trees : Trees) (H guarantees first end : ℕ) (rows : List (Keyed LineCells)) (b : Bool)
    → IsPermutation (filter (is_within H first end) (typed_rows (line_typing layout) trees)) rows → IsSorted line_order rows
    → AreNumbersApart (part H (typed_rows (line_typing layout) trees))
    → (IsBySerial rows → IsByNumber rows → AreNumbersApart rows → AreSerialsWithin first end rows → IsTrue b ↔ AreLinesInPlaceWithin guarantees first end rows)
    → IsTrue b ↔ AreLinesInPlaceWithin guarantees first end (part H (typed_rows (line_typing layout) trees))
range_told layout trees H guarantees first end rows b found sorted apart tells =
    let mine : List (Keyed LineCells) = part H (typed_rows (line_typing layout) trees) in
    let same : IsPermutation (filter (is_in first end) mine) rows = subst (λ xs. IsPermutation xs rows) (within_is H first end (typed_rows (line_typing layout) trees)) found in
    let it = tells (lines_by_serial rows sorted) (lines_by_number rows sorted) (found_apart guarantees first end mine rows same apart) (found_within first end mine rows same) in
    let tell = lines_tell guarantees first end mine rows same apart in
    (λ t. tell.0 (it.0 t), λ are. it.1 (tell.1 are))

-- so far as the lines are of movements with serials below one they are in their places, and added up
abbrev pub AreKeptBelow : ℕ → ℕ → CountingSerials → ℕ → State → Totals → Type 0
AreKeptBelow version guarantees h first state totals =
    IsSoWhere (IsOfVersion version) (λ layout. AreTyped (line_typing layout))
    (λ layout trees. AreNumbersApart (part h.raw.holder (typed_rows (line_typing layout) trees))
    → AreLinesInPlaceWithin guarantees 0 first (part h.raw.holder (typed_rows (line_typing layout) trees))
    × AreTotals (λ n. sum_on n h.serials.items (filter (is_below first) (part h.raw.holder (typed_rows (line_typing layout) trees)))) totals) state

module _ (version guarantees : ℕ) (h : CountingSerials) (a : State) where
  abbrev H : ℕ
  H = h.raw.holder

  abbrev serials : List MovementSerial
  serials = h.serials.items

  abbrev mine : Layout → List (Keyed LineCells)
  mine layout = part H (typed_rows (line_typing layout) a.now.trees)

  -- at first none are
  pub begins : (totals : Totals) → AreTotals (λ n. 0) totals → AreKeptBelow version guarantees h 0 a totals
  begins totals none layout own has typed apart = (
    none_in_place (AreOfOneMovement guarantees) (mine layout),
    λ n. subst (λ rows. IsAmount (sum_on n serials rows) (kept_on n totals)) (sym (none_below (mine layout))) (none n),
  )

  -- those of the next range are told after the calls that read the ranges before
  module _ (b : State) (read : OnlyReadIn (IsOfVersion version) a b) (first next : ℕ) where
    told_before : (is : Bool) → TellsWithin version guarantees H first next b is → TellsWithin version guarantees H first next a is
    told_before is told =
        so_before (IsOfVersion version) (λ layout. AreTyped (line_typing layout))
        (λ layout trees. AreNumbersApart (part H (typed_rows (line_typing layout) trees))
        → IsTrue is ↔ AreLinesInPlaceWithin guarantees first next (part H (typed_rows (line_typing layout) trees))) a b read told

    found_before : (lines : List StoredLine) → AreLinesWithin version H first next b lines → AreLinesWithin version H first next a lines
    found_before lines found =
        so_before (IsOfVersion version) (λ layout. AreTyped (line_typing layout))
        (λ layout trees. IsPermutation (filter (is_within H first next) (typed_rows (line_typing layout) trees)) (map line_row_of lines)) a b read found

    -- where they aren't in their places, not all are
    pub broken_in : (end : ℕ) → next ≤ end → TellsWithin version guarantees H first next b false → TellsWithin version guarantees H 0 end a false
    broken_in end to told layout own has typed apart = (
      λ t. absurd (false≢true t),
      λ are. (told_before false told layout own has typed apart).1 (part_in_place (AreOfOneMovement guarantees) (mine layout) 0 first next end (omega arith) to are),
    )

    -- and where they are, they are added
    module _ (up : first ≤ next) (told : TellsWithin version guarantees H first next b true) (lines : List StoredLine) (found : AreLinesWithin version H first next b lines)
        (old new : Totals) (upto : AreKeptUpTo guarantees old)
        (added : (sums : ℕ → ℕ) → AllByRecursion (λ l. AreKeptUpTo l.guarantee old) lines → AreTotals sums old → AreTotals (λ n. sums n + total_on n serials lines) new) where
      pub more_kept : AreKeptBelow version guarantees h first a old → AreKeptBelow version guarantees h next a new
      more_kept before layout own has typed apart = (
        joined_in_place (AreOfOneMovement guarantees) (mine layout) first next so.0 here,
        λ n. subst (λ k. IsAmount k (kept_on n new)) (sum_is n) (added (λ n. sum_on n serials (filter (is_below first) (mine layout))) all_on so.1 n),
      )
        where
          so : AreLinesInPlaceWithin guarantees 0 first (mine layout) × AreTotals (λ n. sum_on n serials (filter (is_below first) (mine layout))) old
          so = before layout own has typed apart

          here : AreLinesInPlaceWithin guarantees first next (mine layout)
          here = (told_before true told layout own has typed apart).0 refl

          same : IsPermutation (filter (is_in first next) (mine layout)) (map line_row_of lines)
          same = subst (λ xs. IsPermutation xs (map line_row_of lines)) (within_is H first next (typed_rows (line_typing layout) a.now.trees)) (found_before lines found layout own has typed)

          all_on : AllByRecursion (λ l. AreKeptUpTo l.guarantee old) lines
          all_on =
              all_weaker (λ l. named_by (line_row_of l) ≤ guarantees) (λ l. AreKeptUpTo l.guarantee old) (λ l low. omega (arith, low, upto)) lines
              (all_from_map (λ r. named_by r ≤ guarantees) line_row_of lines (found_named guarantees first next (mine layout) (map line_row_of lines) same apart here))

          sum_is : (n : ℕ) → sum_on n serials (filter (is_below first) (mine layout)) + total_on n serials lines ≡ sum_on n serials (filter (is_below next) (mine layout))
          sum_is n =
              let takes : Keyed LineCells → ℕ = λ l. if l.row.guarantee == n then counted serials l else 0 in
              ap (λ k. sum_on n serials (filter (is_below first) (mine layout)) + k) (total_of_rows n serials lines ∙ sum_by-IsPermutation takes (filter (is_in first next) (mine layout)) (map line_row_of lines) same)
              ∙ sums_joined takes first next up (mine layout)

  -- at last all are told, and added up
  module _ (first end : ℕ) (same : first ≡ end) (totals : Totals) (kept : AreKeptBelow version guarantees h first a totals) where
    pub told_below : TellsWithin version guarantees H 0 end a true
    told_below layout own has typed apart =
        (λ t. subst (λ k. AreLinesInPlaceWithin guarantees 0 k (mine layout)) same (kept layout own has typed apart).0, λ are. refl)

    pub added_below : AreTotalsBelow version h end a totals
    added_below layout own has typed apart =
        subst (λ k. AreTotals (λ n. sum_on n serials (filter (is_below k) (mine layout))) totals) same (kept layout own has typed apart).1

-- all lines of a holder are in their places exactly where those up to the holder's last movement are, and none is behind it
module _ (layout : Layout) (trees : Trees) (raw : RawHolder) (guarantees count : ℕ) (grns : raw.grn_count ≡ Some guarantees) (mrns : raw.mrn_count ≡ Some count) where
  abbrev rows : List (Keyed LineCells)
  rows = typed_rows (line_typing layout) trees

  pub behind_of_whole : HasLinesInPlace layout trees raw → filter (is_after raw.holder count) rows ≡ []
  behind_of_whole has =
      behind_none raw.holder count rows
      (all_weaker (λ r. (1 ≤ place r) × (place r ≤ count)) (λ r. place r ≤ count) (λ r is. is.1) (part raw.holder rows) (rw (grns, mrns) at has.1).belong)

  pub whole_told : AreLinesInPlaceWithin guarantees 0 (count + 1) (part raw.holder rows) → filter (is_after raw.holder count) rows ≡ [] → HasLinesInPlace layout trees raw
  whole_told are none = rw (grns, mrns) ((refl, refl), all_in_place guarantees (part raw.holder rows) count are (none_behind raw.holder count rows none))

-- so it is told after the lines of all ranges were, and whether there is one behind them
module _ (version : ℕ) (h : CountingSerials) (a b : State) (read : OnlyReadIn (IsOfVersion version) a b) (count : ℕ) (behind : Bool) (says : TellsBehind version h.raw.holder count b behind) where
  tells : TellsBehind version h.raw.holder count a behind
  tells =
      so_before (IsOfVersion version) (λ layout. AreTyped (line_typing layout))
      (λ layout trees. IsFalse behind ↔ (filter (is_after h.raw.holder count) (typed_rows (line_typing layout) trees) ≡ [])) a b read says

  -- the holder's lines are in their places
  abbrev TellsWhole : Bool → Type 0
  TellsWhole is =
      IsSoWhere (IsOfVersion version) (λ layout. AreTyped (line_typing layout))
      (λ layout trees. AreNumbersApart (part h.raw.holder (typed_rows (line_typing layout) trees)) → IsTrue is ↔ HasLinesInPlace layout trees h.raw) a

  module _ (guarantees : ℕ) (grns : h.raw.grn_count ≡ Some guarantees) (mrns : h.raw.mrn_count ≡ Some count) where
    -- one is behind them
    pub some_behind : behind ≡ true → TellsWhole false
    some_behind is layout own has typed apart = (
      λ t. absurd (false≢true t),
      λ whole. absurd (false≢true (sym ((tells layout own has typed).1 (behind_of_whole layout a.now.trees h.raw guarantees count grns mrns whole)) ∙ is)),
    )

    -- none is
    module _ (none : behind ≡ false) (end : ℕ) (last : end ≡ count + 1) where
      pub told_whole : TellsWithin version guarantees h.raw.holder 0 end a true → TellsWhole true
      told_whole told layout own has typed apart = (
        λ t. whole_told layout a.now.trees h.raw guarantees count grns mrns
            (subst (λ k. AreLinesInPlaceWithin guarantees 0 k (part h.raw.holder (typed_rows (line_typing layout) a.now.trees))) last ((told layout own has typed apart).0 refl))
            ((tells layout own has typed).0 none),
        λ whole. refl,
      )

  -- and the totals are those of all lines
  pub added_whole : behind ≡ false → (end : ℕ) → end ≡ count + 1 → (totals : Totals) → AreTotalsBelow version h end a totals
      → IsSoWhere (IsOfVersion version) (λ layout. AreTyped (line_typing layout))
      (λ layout trees. AreNumbersApart (part h.raw.holder (typed_rows (line_typing layout) trees)) → AreItsTotals layout trees h totals) a
  added_whole none end last totals added layout own has typed apart n =
      let rows = typed_rows (line_typing layout) a.now.trees in
      let mine = part h.raw.holder rows in
      subst (λ xs. IsAmount (sum_on n h.serials.items xs) (kept_on n totals))
      (ap (λ k. filter (is_below k) mine) last ∙ all_below count mine (none_behind h.raw.holder count rows ((tells layout own has typed).0 none)))
      (added layout own has typed apart n)
