-- Rows that are put among others, each in its place.
use Rattle.std.proofs.Common.{◌≡◌, ◌≢◌, ◌⊎◌, ◌∙◌, ◌+◌, ◌<◌, ◌≤◌, ℕ, Bool, true, false, List, [], ◌∷◌, ◌++◌, Option, Some, None, refl, sym, ap, arith, inl, inr, IsPermutation}
use Rattle.std.specs.Prelude.{◌||◌, filter, if◌then◌else◌}
use Rattle.std.specs.List.{AllByRecursion}
use Rattle.std.proofs.lemmas.Bool.{cases_eq}
use Rattle.std.proofs.lemmas.Bool.Decides.{nat_tests}
use Rattle.std.proofs.lemmas.List.Sorted.{IsPermutation-cons, IsPermutation-refl, IsPermutation-trans}
use Rattle.sqlite_trees.proofs.ListLemmas.{all-filter}
use Rattle.keyed_rows.specs.Rows.{Rises, put_row, row_at}
use Rattle.keyed_rows.proofs.Putting.{All-put_row, Rises-put_row, row_at-put_row_other, row_at-put_row_same}
use Rattle.td_model.specs.Account.{HolderRows, holder_key}
use Rattle.td_split.specs.Union.{put_all}
use Rattle.td_table_model.proofs.Orders.{none_at, put_permutes, rises-filter, rises_above}

-- the first rows, and where there are none the others
abbrev pub or_those : Option HolderRows → Option HolderRows → Option HolderRows
or_those None others = others
or_those (Some h) others = Some h

-- what is found at the head, and behind it
at_head : (k : ℕ) (h : HolderRows) (rows : List HolderRows) → holder_key h ≡ k → row_at holder_key k (h ∷ rows) ≡ Some h
at_head k h rows same = grind (arith, nat_tests, same)

behind : (k : ℕ) (h : HolderRows) (rows : List HolderRows) → holder_key h ≢ k → row_at holder_key k (h ∷ rows) ≡ row_at holder_key k rows
behind k h rows other = grind (arith, nat_tests, other)

one_more : (k : ℕ) (h : HolderRows) (rows onto : List HolderRows) → row_at holder_key k (put_all rows onto) ≡ or_those (row_at holder_key k rows) (row_at holder_key k onto)
    → (holder_key h ≡ k) ⊎ (holder_key h ≡ k → ⊥)
    → row_at holder_key k (put_row holder_key h (put_all rows onto)) ≡ or_those (row_at holder_key k (h ∷ rows)) (row_at holder_key k onto)
one_more k h rows onto found (inl mine) =
    row_at-put_row_same holder_key k h (put_all rows onto) mine ∙ sym (ap (λ o. or_those o (row_at holder_key k onto)) (at_head k h rows mine))
one_more k h rows onto found (inr other) =
    row_at-put_row_other holder_key k h (put_all rows onto) other ∙ found
    ∙ sym (ap (λ o. or_those o (row_at holder_key k onto)) (behind k h rows other))

-- what is found among all is what is found of the rows, and else what is found of the others
pub found_put : (k : ℕ) (rows onto : List HolderRows) → row_at holder_key k (put_all rows onto) ≡ or_those (row_at holder_key k rows) (row_at holder_key k onto)
found_put k [] onto = refl
found_put k (h ∷ rows) onto = one_more k h rows onto (found_put k rows onto) (cases_eq (holder_key h) k)

-- the order stays
pub rises_put : (rows onto : List HolderRows) → Rises holder_key 0 onto → Rises holder_key 0 (put_all rows onto)
rises_put [] onto rise = rise
rises_put (h ∷ rows) onto rise = Rises-put_row holder_key h 0 (put_all rows onto) (rises_put rows onto rise) (omega arith)

-- what holds of the rows and of the others holds of all
pub all_put : (P : HolderRows → Type 0) (rows onto : List HolderRows) → AllByRecursion P rows → AllByRecursion P onto → AllByRecursion P (put_all rows onto)
all_put P [] onto all rest = rest
all_put P (h ∷ rows) onto all rest = All-put_row holder_key P h (put_all rows onto) (all_put P rows onto all.1 rest) all.0

-- rows of new keys are put to the others, in another order
pub put_permuted : (low : ℕ) (rows onto : List HolderRows) → Rises holder_key low rows → AllByRecursion (λ h. row_at holder_key (holder_key h) onto ≡ None) rows
    → IsPermutation (rows ++ onto) (put_all rows onto)
put_permuted low [] onto rise none = IsPermutation-refl onto
put_permuted low (h ∷ rows) onto rise none =
    let new : row_at holder_key (holder_key h) (put_all rows onto) ≡ None =
    found_put (holder_key h) rows onto
    ∙ ap (λ o. or_those o (row_at holder_key (holder_key h) onto)) (none_at holder_key (holder_key h) (holder_key h + 1) rows rise.1 (omega arith)) ∙ none.0 in
    IsPermutation-trans _ _ _ (IsPermutation-cons h (rows ++ onto) (put_all rows onto) (put_permuted (holder_key h + 1) rows onto rise.1 none.1))
    (put_permutes holder_key h (put_all rows onto) new)

-- a row is put before rows of greater keys
put_before : (h : HolderRows) (rows : List HolderRows) → Rises holder_key (holder_key h + 1) rows → put_row holder_key h rows ≡ h ∷ rows
put_before h [] rise = refl
put_before h (r ∷ rows) rise = let above = rise.0 in grind (arith, nat_tests, above)

put_again : (h : HolderRows) (rows : List HolderRows) → put_row holder_key h (h ∷ rows) ≡ h ∷ rows
put_again h rows = grind (arith, nat_tests)

-- rows of greater keys are put behind it
put_after : (h s : HolderRows) (rows : List HolderRows) → holder_key h < holder_key s → put_row holder_key s (h ∷ rows) ≡ h ∷ put_row holder_key s rows
put_after h s rows above = grind (arith, nat_tests, above)

all_after : (h : HolderRows) (rows onto : List HolderRows) → AllByRecursion (λ s. holder_key h + 1 ≤ holder_key s) rows → put_all rows (h ∷ onto) ≡ h ∷ put_all rows onto
all_after h [] onto above = refl
all_after h (s ∷ rows) onto above = ap (put_row holder_key s) (all_after h rows onto above.1) ∙ put_after h s (put_all rows onto) (omega (arith, above.0))

-- The rows that pass one of two tests are those that pass one, put among those that pass the other.
module _ (p q s : ℕ → Bool) (either : (n : ℕ) → (p n || q n) ≡ s n) where
  abbrev of_test : (ℕ → Bool) → List HolderRows → List HolderRows
  of_test b rows = filter (λ h. b (holder_key h)) rows

  one_more_row : (h : HolderRows) (rows : List HolderRows) → Rises holder_key (holder_key h + 1) rows → (a b : Bool)
      → put_all (of_test p rows) (of_test q rows) ≡ of_test s rows
      → put_all (if a then h ∷ of_test p rows else of_test p rows) (if b then h ∷ of_test q rows else of_test q rows) ≡ (if a || b then h ∷ of_test s rows else of_test s rows)
  one_more_row h rows rise a b later = by_tests a b
    where
      front : put_all (of_test p rows) (h ∷ of_test q rows) ≡ h ∷ of_test s rows
      front =
          all_after h (of_test p rows) (of_test q rows)
          (all-filter (λ s. holder_key h + 1 ≤ holder_key s) (λ h. p (holder_key h)) rows (rises_above holder_key (holder_key h + 1) rows rise)) ∙ ap (λ l. h ∷ l) later

      by_tests : (a b : Bool) → put_all (if a then h ∷ of_test p rows else of_test p rows) (if b then h ∷ of_test q rows else of_test q rows) ≡ (if a || b then h ∷ of_test s rows else of_test s rows)
      by_tests true true = ap (put_row holder_key h) front ∙ put_again h (of_test s rows)
      by_tests true false =
          ap (put_row holder_key h) later ∙ put_before h (of_test s rows) (rises-filter holder_key (λ h. s (holder_key h)) (holder_key h + 1) rows rise)
      by_tests false true = front
      by_tests false false = later

  pub put_together : (low : ℕ) (rows : List HolderRows) → Rises holder_key low rows → put_all (of_test p rows) (of_test q rows) ≡ of_test s rows
  put_together low [] rise = refl
  put_together low (h ∷ rows) rise =
      one_more_row h rows rise.1 (p (holder_key h)) (q (holder_key h)) (put_together (holder_key h + 1) rows rise.1)
      ∙ ap (λ b. if b then h ∷ of_test s rows else of_test s rows) (either (holder_key h))
