-- The codes of the guarantees in a range of serials, among all codes of a holder.
use Rattle.std.proofs.Common.{◌≡◌, ◌∙◌, ℕ, ◌+◌, ◌<◌, ◌≤◌, Bool, true, false, List, [], Some, length, map, refl, sym, ap, subst, arith, IsPermutation}
use Rattle.std.specs.Prelude.{◌↔◌, ◌==◌, IsFalse, IsTrue, filter, not}
use Rattle.std.specs.List.{AllByRecursion}
use Rattle.std.specs.List.Sorted.{IsSorted}
use Rattle.std.proofs.lemmas.Bool.{false≢true}
use Rattle.std.proofs.lemmas.List.Sorted.{length_permutation}
use Rattle.sqlite.specs.State.{State}
use Rattle.sqlite_trees.proofs.ListLemmas.{IsPermutation-filter, all_both, all_weaker}
use Rattle.typed_sql.specs.Typed.{AreTyped, typed_rows}
use Rattle.td_table_model.specs.Gathering.{of_key, owner, part, place}
use Rattle.td_table_model.specs.Tables.{Keyed}
use Rattle.td_table_model.proofs.Counting.{filter_both}
use Rattle.td_store_rows.specs.Columns.{code_typing}
use Rattle.td_store_rows.specs.CodeTable.{AreCodes, code_row_of}
use Rattle.td_store_rows.specs.declared.codes.stored.StoredCode.{StoredCode}
use Rattle.td_store_rows.specs.Places.{is_after, is_within}
use Rattle.td_store_rows.specs.StoreReads.{IsAny}
use Rattle.td_store_audit_rows.specs.declared.holders.RawHolder.{RawHolder}
use Rattle.td_store_audit.specs.Found.{AreInCodeOrder, TellsCodeBehind, code_order}
use Rattle.td_store_audit.specs.InFile.{OnlyReadIn, TellsWhere}
use Rattle.td_store_audit.specs.InPlace.{AreCodesInPlace, AreCodesInPlaceWithin, AreOneToTwenty, AreSerialsWithin, IsBySerial}
use Rattle.td_store_audit.specs.Premises.{HasCodesInPlace, TellsCodesWithin}
use Rattle.td_store_rows.specs.Ranges.{rows_between}
use Rattle.td_store_audit.proofs.Ordering.{codes_by_serial}
use Rattle.td_store_audit.proofs.PlaceRanges.{behind_none, found_tell, found_within, is_in, joined_in_place, none_behind, none_in_place, part_in_place, same_key}
use Rattle.td_store_audit.proofs.Reading.{so_before}

module _ (rows : List (Keyed (List ℕ))) where
  -- all are in place exactly where those up to the last guarantee are, and no other is there
  whole_in_place : (count : ℕ) → AreCodesInPlace count rows → AreCodesInPlaceWithin 0 (count + 1) rows
  whole_in_place count are = record {
    serials = all_weaker (λ r. (1 ≤ place r) × (place r ≤ count)) (λ r. 0 ≤ place r → place r < count + 1 → 1 ≤ place r) (λ r is zero below. is.0) rows are.belong;
    each = λ n some zero below. are.each n some (omega (arith, below));
  }

  all_in_place : (count : ℕ) → AreCodesInPlaceWithin 0 (count + 1) rows → AllByRecursion (λ r. place r ≤ count) rows → AreCodesInPlace count rows
  all_in_place count are last = record {
    belong = all_both (λ r. 0 ≤ place r → place r < count + 1 → 1 ≤ place r) (λ r. place r ≤ count) (λ r. (1 ≤ place r) × (place r ≤ count))
        (λ r is low. (is (omega arith) (omega (arith, low)), low)) rows are.serials last;
    each = λ n some low. are.each n some (omega arith) (omega (arith, low));
  }

-- what was found of a range
module _ (first end : ℕ) (mine found : List (Keyed (List ℕ))) (same : IsPermutation (rows_between first end mine) found) where
  -- those of a guarantee are as many as all of it
  as_many : (n : ℕ) → first ≤ n → n < end → length (of_key place n found) ≡ length (of_key place n mine)
  as_many n above below =
      length_permutation (of_key place n (rows_between first end mine)) (of_key place n found) (IsPermutation-filter (λ r. place r == n) (rows_between first end mine) found same)
      ∙ ap length (same_key first end mine found same n above below)

  -- so they are in their places exactly where those of the holder are
  codes_tell : AreCodesInPlaceWithin first end found ↔ AreCodesInPlaceWithin first end mine
  codes_tell = found_tell first end mine found same AreOneToTwenty (λ n above below. (
    λ it. record { some = omega (arith, as_many n above below, it.some); most = omega (arith, as_many n above below, it.most) },
    λ it. record { some = omega (arith, as_many n above below, it.some); most = omega (arith, as_many n above below, it.most) },
  ))

-- one range of a holder's codes, found in order
range_tells : (H first end : ℕ) (rows found : List (Keyed (List ℕ))) (b : Bool) → IsPermutation (filter (is_within H first end) rows) found → IsSorted code_order found
    → (IsBySerial found → AreSerialsWithin first end found → IsTrue b ↔ AreCodesInPlaceWithin first end found)
    → IsTrue b ↔ AreCodesInPlaceWithin first end (part H rows)
range_tells H first end rows found b those sorted tells =
    let same : IsPermutation (rows_between first end (part H rows)) found = subst (λ xs. IsPermutation xs found) (filter_both (is_in first end) (λ r. owner r == H) rows) those in
    let it = tells (codes_by_serial found sorted) (found_within first end (part H rows) found same) in
    let tell = codes_tell first end (part H rows) found same in
    (λ t. tell.0 (it.0 t), λ are. it.1 (tell.1 are))

-- what is told of a range by what was found of it
pub told_range : (H first next : ℕ) (a : State) (found : List StoredCode) → AreCodes (is_within H first next) a found → AreInCodeOrder a found → (b : Bool)
    → (IsBySerial (map code_row_of found) → AreSerialsWithin first next (map code_row_of found) → IsTrue b ↔ AreCodesInPlaceWithin first next (map code_row_of found))
    → TellsCodesWithin H first next a b
told_range H first next a found those order b tells layout own has typed =
    range_tells H first next (typed_rows code_typing a.now.trees) (map code_row_of found) b (those layout has typed) (order layout has typed) tells

-- it is told after calls that only read
pub told_before : (H first next : ℕ) (a b : State) → OnlyReadIn IsAny a b → (is : Bool) → TellsCodesWithin H first next b is → TellsCodesWithin H first next a is
told_before H first next a b read is told =
    so_before IsAny (λ layout. AreTyped code_typing) (λ layout trees. IsTrue is ↔ AreCodesInPlaceWithin first next (part H (typed_rows code_typing trees))) a b read told

-- codes are read range by range
module _ (H : ℕ) (a : State) where
  -- at first none are
  pub begins : TellsCodesWithin H 0 0 a true
  begins layout own has typed = (λ t. none_in_place AreOneToTwenty (part H (typed_rows code_typing a.now.trees)), λ are. refl)

  pub goes_on : (first next : ℕ) → TellsCodesWithin H 0 first a true → TellsCodesWithin H first next a true → TellsCodesWithin H 0 next a true
  goes_on first next before here layout own has typed = (
    λ t. joined_in_place AreOneToTwenty (part H (typed_rows code_typing a.now.trees)) first next ((before layout own has typed).0 refl) ((here layout own has typed).0 refl),
    λ are. refl,
  )

  pub breaks_at : (first next end : ℕ) → next ≤ end → TellsCodesWithin H first next a false → TellsCodesWithin H 0 end a false
  breaks_at first next end to told layout own has typed = (
    λ t. absurd (false≢true t),
    λ are. (told layout own has typed).1 (part_in_place AreOneToTwenty (part H (typed_rows code_typing a.now.trees)) 0 first next end (omega arith) to are),
  )

-- a holder's are where those below the serial behind the count are, and none stands behind the count
module _ (a : State) (raw : RawHolder) (count end : ℕ) (is : raw.grn_count ≡ Some count) (behind : end ≡ count + 1) where
  abbrev mine : List (Keyed (List ℕ))
  mine = part raw.holder (typed_rows code_typing a.now.trees)

  abbrev Tells : Bool → Type 0
  Tells = TellsWhere IsAny (λ layout. AreTyped code_typing) (λ layout trees. HasCodesInPlace trees raw) a

  pub not_below : TellsCodesWithin raw.holder 0 end a false → Tells false
  not_below told layout own has typed = (
    λ t. absurd (false≢true t),
    λ placed. (told layout own has typed).1 (subst (λ n. AreCodesInPlaceWithin 0 n mine) (sym behind) (whole_in_place mine count (rw is at placed.1))),
  )

  pub by_behind : TellsCodesWithin raw.holder 0 end a true → (found : Bool) → TellsCodeBehind raw.holder count a found → Tells (not found)
  by_behind told true tells layout own has typed = (
    λ t. absurd (false≢true t),
    λ placed.
        let whole : AreCodesInPlace count mine = rw is at placed.1 in
        let low = all_weaker (λ r. (1 ≤ place r) × (place r ≤ count)) (λ r. place r ≤ count) (λ r it. it.1) mine whole.belong in
        absurd (false≢true (sym ((tells layout has typed).1 (behind_none raw.holder count (typed_rows code_typing a.now.trees) low)))),
  )
  by_behind told false tells layout own has typed = (
    λ t. rw is (refl, all_in_place mine count (subst (λ n. AreCodesInPlaceWithin 0 n mine) behind ((told layout own has typed).0 refl)) (none_behind raw.holder count (typed_rows code_typing a.now.trees) ((tells layout has typed).0 refl))),
    λ placed. refl,
  )

-- what is told of what stands behind is so before calls that only read
pub behind_before : (H n : ℕ) (a b : State) → OnlyReadIn IsAny a b → (found : Bool) → TellsCodeBehind H n b found → TellsCodeBehind H n a found
behind_before H n a b read found told layout has typed =
    so_before IsAny (λ layout. AreTyped code_typing) (λ layout trees. IsFalse found ↔ (filter (is_after H n) (typed_rows code_typing trees) ≡ [])) a b read
    (λ layout own. told layout) layout tt has typed
