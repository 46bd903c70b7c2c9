-- Rows in order of their places: which of those that pass a test comes first, and which stands first behind a place.
use Rattle.std.proofs.Common.{◌≡◌, ◌∙◌, ◌⊎◌, ℕ, suc, ◌+◌, ◌<◌, ◌≤◌, Bool, true, false, cond, List, [], ◌∷◌, length, filter, map, Option, Some, None, inl, inr, refl, sym, ap, subst, arith, nat_cmp, Ordering, Less, Equal, Greater, true≢false, IsPermutation}
use Rattle.std.specs.Prelude.{◌==◌, ◌&&◌, ◌||◌, nat_lt, slice_get, slice_index_or}
use Rattle.std.specs.List.{AllByRecursion}
use Rattle.std.specs.List.Sorted.{IsSorted}
use Rattle.std.specs.Option.{option_map}
use Rattle.std.specs.Ordering.{is_lt, ordering_then}
use Rattle.std.proofs.lemmas.Bool.Decides.{nat_tests}
use Rattle.std.proofs.lemmas.List.Sorted.{IsPermutation-sym, IsPermutation-trans, length_permutation}
use Rattle.std.proofs.lemmas.Option.{slice_get-map}
use Rattle.sqlite_trees.specs.Tree.{IsAscending}
use Rattle.sqlite_trees.proofs.ListLemmas.{IsPermutation-filter, all-permutation, all_weaker, ascending-filter, filter-map, filter_none, filter_same}
use Rattle.td_table_model.specs.Tables.{Keyed}
use Rattle.typed_sql.specs.Typed.{ComesFirst}
use Rattle.td_store_rows.specs.Places.{by_place, is_above, is_after}
use Rattle.td_store_load.specs.Placed.{behind, is_behind}

-- what is made of a row, under the row's key
abbrev pub rekeyed : {R X : Type 0} → (Keyed R → X) → Keyed R → Keyed X
rekeyed made r = record { holder = r.holder; serial = r.serial; row = made r }

module _ {R : Type 0} where
  -- a row stands before another; and no later than it
  abbrev pub IsBefore : Keyed R → Keyed R → Type 0
  IsBefore a b = (a.holder < b.holder) ⊎ ((a.holder ≡ b.holder) × (a.serial < b.serial))

  abbrev pub IsNoLater : Keyed R → Keyed R → Type 0
  IsNoLater a b = (a.holder < b.holder) ⊎ ((a.holder ≡ b.holder) × (a.serial ≤ b.serial))

  -- what isn't before a row
  not_before : (a b : Keyed R) → is_lt (by_place b a) ≡ false → IsNoLater a b
  not_before a b = by_cmp (nat_cmp b.holder a.holder) (nat_cmp b.serial a.serial) refl refl
    where
      by_cmp : (o p : Ordering) → nat_cmp b.holder a.holder ≡ o → nat_cmp b.serial a.serial ≡ p → is_lt (ordering_then o p) ≡ false → IsNoLater a b
      by_cmp Less p holders serials fails = absurd (true≢false fails)
      by_cmp Greater p holders serials fails = inl (grind (arith, nat_tests, holders))
      by_cmp Equal Less holders serials fails = absurd (true≢false fails)
      by_cmp Equal Equal holders serials fails = inr (grind (arith, nat_tests, holders), grind (arith, nat_tests, serials))
      by_cmp Equal Greater holders serials fails = inr (grind (arith, nat_tests, holders), grind (arith, nat_tests, serials))

  later_then : (a b c : Keyed R) → IsNoLater a b → IsNoLater b c → IsNoLater a c
  later_then a b c (inl one) (inl two) = inl (omega (arith, one, two))
  later_then a b c (inl one) (inr two) = inl (omega (arith, one, two.0))
  later_then a b c (inr one) (inl two) = inl (omega (arith, one.0, two))
  later_then a b c (inr one) (inr two) = inr (one.0 ∙ two.0, omega (arith, one.1, two.1))

  never_both : (a b : Keyed R) → IsBefore a b → IsNoLater b a → ⊥
  never_both a b (inl one) (inl two) = omega (arith, one, two)
  never_both a b (inl one) (inr two) = omega (arith, one, two.0)
  never_both a b (inr one) (inl two) = omega (arith, one.0, two)
  never_both a b (inr one) (inr two) = omega (arith, one.1, two.1)

  tail_sorted : (x : Keyed R) (xs : List (Keyed R)) → IsSorted by_place (x ∷ xs) → IsSorted by_place xs
  tail_sorted x xs sorted k d low high =
      let next : suc k + 1 ≡ suc (k + 1) = omega arith in
      subst (λ j. is_lt (by_place (slice_index_or (x ∷ xs) j d) (slice_index_or xs k d)) ≡ false) next (sorted (suc k) d (omega arith) (omega (arith, high)))

  -- the first of sorted rows is no later than each
  sorted_first : (x : Keyed R) (xs : List (Keyed R)) → IsSorted by_place (x ∷ xs) → AllByRecursion (IsNoLater x) xs
  sorted_first x [] sorted = tt
  sorted_first x (y ∷ ys) sorted =
      let here : IsNoLater x y = not_before x y (sorted 0 x (omega arith) (omega arith)) in
      (here, all_weaker (IsNoLater y) (IsNoLater x) (λ z later. later_then x y z here later) ys (sorted_first y ys (tail_sorted x (y ∷ ys) sorted)))

  -- so of rows in order the first that passes is the one that comes first, however they were given
  pub first_passing : (p : Keyed R → Bool) (order rows : List (Keyed R)) (found : Option (Keyed R)) → IsAscending IsBefore order
      → IsPermutation order rows → ComesFirst p by_place rows found → slice_get (filter p order) 0 ≡ found
  first_passing p order rows None up same none = by_list (filter p order) (IsPermutation-filter p order rows same)
    where
      by_list : (xs : List (Keyed R)) → IsPermutation xs (filter p rows) → slice_get xs 0 ≡ None
      by_list [] those = refl
      by_list (x ∷ xs) those = absurd (omega (arith, length_permutation (x ∷ xs) (filter p rows) those, ap length none))
  first_passing p order rows (Some x) up same first =
      by_list (filter p order) (ascending-filter IsBefore p order up) (IsPermutation-trans _ _ _ (IsPermutation-filter p order rows same) first.1)
    where
      by_list : (xs : List (Keyed R)) → IsAscending IsBefore xs → IsPermutation xs (x ∷ first.0) → slice_get xs 0 ≡ Some x
      by_list [] up those = absurd (omega (arith, length_permutation [] (x ∷ first.0) those))
      by_list (h ∷ xs) up those =
          let IsThat : Keyed R → Type 0 = λ y. (h ≡ y) ⊎ IsBefore h y in
          let that : IsThat x = (all-permutation IsThat (h ∷ xs) (x ∷ first.0) those (inl refl, all_weaker (IsBefore h) IsThat (λ y before. inr before) xs up.0)).0 in
          let least : IsNoLater x h =
          (all-permutation (IsNoLater x) (x ∷ first.0) (h ∷ xs) (IsPermutation-sym _ _ those) (inr (refl, omega arith), sorted_first x first.0 first.2)).0 in
          elim that [ inl is ↦ ap Some is | inr before ↦ absurd (never_both h x before least) ]

  module _ (H n : ℕ) where
    abbrev after : Keyed R → Bool
    after r = is_after H n r

    -- rows behind one of a greater holder are of greater holders, too
    none_after : (r : Keyed R) (rows : List (Keyed R)) → nat_lt H r.holder ≡ true → AllByRecursion (IsBefore r) rows → filter after rows ≡ []
    none_after r rows above later = filter_none after rows (all_weaker (IsBefore r) (λ s. after s ≡ false) fails rows later)
      where
        greater : (s : Keyed R) → IsBefore r s → H < s.holder
        greater s (inl one) = grind (arith, nat_tests, above, one)
        greater s (inr one) = let same = one.0 in grind (arith, nat_tests, above, same)

        fails : (s : Keyed R) → IsBefore r s → after s ≡ false
        fails s before =
            let over : H < s.holder = greater s before in
            let other : (s.holder == H) ≡ false = grind (arith, nat_tests, over) in
            ap (λ b. b && nat_lt n s.serial) other

    -- a row of the holder itself stands behind the place before any of another
    after_first : (order : List (Keyed R)) (x : Keyed R) → IsAscending IsBefore order → slice_get (filter after order) 0 ≡ Some x
        → slice_get (behind H n order) 0 ≡ Some x
    after_first [] x up is = is
    after_first (r ∷ rows) x up is = by_tests (nat_lt H r.holder) (after r) refl is (after_first rows x up.1)
      where
        by_tests : (a b : Bool) → nat_lt H r.holder ≡ a → slice_get (cond b (r ∷ filter after rows) (filter after rows)) 0 ≡ Some x
            → (slice_get (filter after rows) 0 ≡ Some x → slice_get (behind H n rows) 0 ≡ Some x)
            → slice_get (cond (a || b) (r ∷ behind H n rows) (behind H n rows)) 0 ≡ Some x
        by_tests true true above is later = is
        by_tests false true above is later = is
        by_tests true false above is later = absurd (let none = ap (λ l. slice_get l 0) (none_after r rows above up.0) in cc)
        by_tests false false above is later = later is

    -- where none of the holder's own does, those of greater holders stand behind it
    no_after : (order : List (Keyed R)) → slice_get (filter after order) 0 ≡ None → AllByRecursion (λ r. after r ≡ false) order
    no_after [] none = tt
    no_after (r ∷ rows) none = by_test (after r) refl none (no_after rows)
      where
        by_test : (b : Bool) → after r ≡ b → slice_get (cond b (r ∷ filter after rows) (filter after rows)) 0 ≡ None
            → (slice_get (filter after rows) 0 ≡ None → AllByRecursion (λ r. after r ≡ false) rows) → AllByRecursion (λ r. after r ≡ false) (r ∷ rows)
        by_test true is none later = absurd (let e = none in cc)
        by_test false is none later = (is, later none)

    alone_above : (order : List (Keyed R)) → AllByRecursion (λ r. after r ≡ false) order → behind H n order ≡ filter (is_above H) order
    alone_above order none = filter_same (λ r. is_behind H n r) (is_above H) order
        (all_weaker (λ r. after r ≡ false) (λ r. is_behind H n r ≡ is_above H r) (λ r fails. rw fails (left (nat_lt H r.holder))) order none)
      where
        left : (b : Bool) → (b || false) ≡ b
        left true = refl
        left false = refl

    -- so the first row behind the place is the first of the holder's own behind the serial
    pub after_is : (order rows : List (Keyed R)) (x : Keyed R) → IsAscending IsBefore order → IsPermutation order rows
        → ComesFirst (is_after H n) by_place rows (Some x) → Some x ≡ slice_get (behind H n order) 0
    after_is order rows x up same first = sym (after_first order x up (first_passing after order rows (Some x) up same first))

    -- and where there is none, the first of those of greater holders
    pub above_is : (order rows again : List (Keyed R)) (found : Option (Keyed R)) → IsAscending IsBefore order → IsPermutation order rows
        → IsPermutation order again → ComesFirst (is_after H n) by_place rows None → ComesFirst (is_above H) by_place again found
        → found ≡ slice_get (behind H n order) 0
    above_is order rows again found up same same_again none first =
        sym (ap (λ l. slice_get l 0) (alone_above order (no_after order (first_passing after order rows None up same none)))
        ∙ first_passing (is_above H) order again found up same_again first)

    -- what is made of the first row, under its key, is the first of what is made of all
    pub made_first : {X : Type 0} (made : Keyed R → X) (order : List (Keyed R)) (all : List (Keyed X)) → map (rekeyed made) order ≡ all
        → option_map (rekeyed made) (slice_get (behind H n order) 0) ≡ slice_get (behind H n all) 0
    made_first {X} made order all is =
        sym (slice_get-map (rekeyed made) (behind H n order) 0)
        ∙ ap (λ l. slice_get l 0) (sym (filter-map (is_behind H n) (rekeyed made) order)) ∙ ap (λ l. slice_get (behind H n l) 0) is
