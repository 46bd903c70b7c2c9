-- Rows in ascending order of their keys, range by range.
use Rattle.std.proofs.Common.{◌≡◌, ◌∙◌, ℕ, zero, suc, ◌+◌, ◌<◌, ◌≤◌, Bool, true, false, cond, List, [], ◌∷◌, ◌++◌, length, nat_le, nat_lt, refl, sym, ap, subst, arith, IsPermutation}
use Rattle.std.specs.Prelude.{◌==◌, ◌&&◌, filter}
use Rattle.std.specs.List.{AllByRecursion}
use Rattle.std.proofs.lemmas.Bool.Decides.{nat_tests}
use Rattle.std.proofs.lemmas.List.Sorted.{IsPermutation-sym}
use Rattle.sqlite_trees.proofs.ListLemmas.{IsPermutation-filter, all-append}
use Rattle.keyed_rows.specs.Rows.{Rises}
use Rattle.td_table_model.specs.Gathering.{IsApart, IsNumbered, in_order, owner, part, place}
use Rattle.td_table_model.specs.Tables.{Keyed}
use Rattle.td_table_model.proofs.Counting.{filter_both}
use Rattle.td_table_model.proofs.Orders.{numbered_rise, rises-filter, apart_permuted, brought_to_order, in_order_permutes, in_order_rises, rises_apart}
use Rattle.td_store_rows.specs.Places.{is_within}
use Rattle.td_store_rows.specs.Ranges.{rows_below, rows_between}

module _ {R : Type 0} where
  -- rising rows from a key on have none below it
  pub none_below : (n low : ℕ) (rows : List (Keyed R)) → Rises place low rows → n ≤ low → rows_below n rows ≡ []
  none_below n low [] rise high = refl
  none_below n low (r ∷ rows) rise high =
      by_test (nat_lt (place r) n) (grind (arith, nat_tests, rise.0, high)) (none_below n (place r + 1) rows rise.1 (omega (arith, rise.0, high)))
    where
      by_test : (b : Bool) → b ≡ false → rows_below n rows ≡ [] → cond b (r ∷ rows_below n rows) (rows_below n rows) ≡ []
      by_test true is later = cc
      by_test false is later = later

  -- and those below another key are those between the two
  between_from : (a b low : ℕ) (rows : List (Keyed R)) → Rises place low rows → a ≤ low → rows_between a b rows ≡ rows_below b rows
  between_from a b low [] rise high = refl
  between_from a b low (r ∷ rows) rise high =
      by_test (nat_le a (place r)) (grind (arith, nat_tests, rise.0, high)) (nat_lt (place r) b)
      (between_from a b (place r + 1) rows rise.1 (omega (arith, rise.0, high)))
    where
      by_test : (c : Bool) → c ≡ true → (d : Bool) → rows_between a b rows ≡ rows_below b rows
          → cond (c && d) (r ∷ rows_between a b rows) (rows_between a b rows) ≡ cond d (r ∷ rows_below b rows) (rows_below b rows)
      by_test true is true later = ap (λ l. r ∷ l) later
      by_test true is false later = later
      by_test false is d later = cc

  -- rows below a key, and those from it on that are below a second, are those below the second
  pub joined : (a b low : ℕ) (rows : List (Keyed R)) → Rises place low rows → a ≤ b → rows_below b rows ≡ rows_below a rows ++ rows_between a b rows
  joined a b low [] rise le = refl
  joined a b low (r ∷ rows) rise le = by_test (nat_lt (place r) a) refl (joined a b (place r + 1) rows rise.1 le)
    where
      first : (c d e : Bool) → c ≡ true → d ≡ true → e ≡ false
          → rows_below b rows ≡ rows_below a rows ++ rows_between a b rows
          → cond d (r ∷ rows_below b rows) (rows_below b rows)
          ≡ cond c (r ∷ rows_below a rows) (rows_below a rows) ++ cond (e && d) (r ∷ rows_between a b rows) (rows_between a b rows)
      first true true false is_c is_d is_e later = ap (λ l. r ∷ l) later
      first true true true is_c is_d is_e later = cc
      first true false e is_c is_d is_e later = cc
      first false d e is_c is_d is_e later = cc

      by_test : (c : Bool) → nat_lt (place r) a ≡ c → rows_below b rows ≡ rows_below a rows ++ rows_between a b rows
          → rows_below b (r ∷ rows) ≡ rows_below a (r ∷ rows) ++ rows_between a b (r ∷ rows)
      by_test true is later =
          first (nat_lt (place r) a) (nat_lt (place r) b) (nat_le a (place r)) is (grind (arith, nat_tests, is, le)) (grind (arith, nat_tests, is)) later
      by_test false is later =
          let high : a ≤ place r = grind (arith, nat_tests, is) in
          let own : Rises place (place r) (r ∷ rows) = (omega arith, rise.1) in
          sym (between_from a b (place r) (r ∷ rows) own high)
          ∙ ap (λ l. l ++ rows_between a b (r ∷ rows)) (sym (none_below a (place r) (r ∷ rows) own high))

  -- numbered rows behind numbered ones are numbered with them, and the other way round
  pub numbered_joined : (n : ℕ) (xs ys : List (Keyed R)) → IsNumbered place n xs → IsNumbered place (n + length xs) ys → IsNumbered place n (xs ++ ys)
  numbered_joined n [] ys first second = subst (λ k. IsNumbered place k ys) (omega arith) second
  numbered_joined n (x ∷ xs) ys first second =
      (first.0, numbered_joined (n + 1) xs ys first.1 (subst (λ k. IsNumbered place k ys) (omega arith) second))

  pub numbered_parts : (n : ℕ) (xs ys : List (Keyed R)) → IsNumbered place n (xs ++ ys) → IsNumbered place n xs × IsNumbered place (n + length xs) ys
  numbered_parts n [] ys all = (tt, subst (λ k. IsNumbered place k ys) (omega arith) all)
  numbered_parts n (x ∷ xs) ys all =
      let later = numbered_parts (n + 1) xs ys all.1 in
      ((all.0, later.0), subst (λ k. IsNumbered place k ys) (omega arith) later.1)

  -- of rows that are numbered there are k up to the k-th
  pub below_numbered : (n k : ℕ) (rows : List (Keyed R)) → IsNumbered place n rows → k ≤ length rows → length (rows_below (n + k + 1) rows) ≡ k
  below_numbered n zero rows numbers within =
      ap length (none_below (n + zero + 1) (n + 1) rows (numbered_rise place n rows numbers) (omega arith))
  below_numbered n (suc k) [] numbers within = absurd (omega (arith, within))
  below_numbered n (suc k) (r ∷ rows) numbers within =
      by_test (nat_lt (place r) (n + suc k + 1)) (grind (arith, nat_tests, numbers.0))
      (subst (λ m. length (rows_below m rows) ≡ k) (omega arith) (below_numbered (n + 1) k rows numbers.1 (omega (arith, within))))
    where
      by_test : (b : Bool) → b ≡ true → length (rows_below (n + suc k + 1) rows) ≡ k
          → length (cond b (r ∷ rows_below (n + suc k + 1) rows) (rows_below (n + suc k + 1) rows)) ≡ suc k
      by_test true is later = ap suc later
      by_test false is later = cc

  -- a range that ends by a key is that of the rows below the key
  pub between_below : (first end n : ℕ) (rows : List (Keyed R)) → end ≤ n → rows_between first end (rows_below n rows) ≡ rows_between first end rows
  between_below first end n [] within = refl
  between_below first end n (r ∷ rows) within = by_test (nat_lt (place r) n) refl (between_below first end n rows within)
    where
      by_test : (b : Bool) → nat_lt (place r) n ≡ b → rows_between first end (rows_below n rows) ≡ rows_between first end rows
          → rows_between first end (cond b (r ∷ rows_below n rows) (rows_below n rows)) ≡ rows_between first end (r ∷ rows)
      by_test true is later = ap (λ l. cond (nat_le first (place r) && nat_lt (place r) end) (r ∷ l) l) later
      by_test false is later =
          later ∙ sym (not_there (nat_le first (place r)) (nat_lt (place r) end) (grind (arith, nat_tests, is, within)))
        where
          not_there : (c d : Bool) → d ≡ false → cond (c && d) (r ∷ rows_between first end rows) (rows_between first end rows) ≡ rows_between first end rows
          not_there true true is = cc
          not_there false true is = cc
          not_there true false is = refl
          not_there false false is = refl

  -- all rows are below a key that is above each
  pub all_below : (n : ℕ) (rows : List (Keyed R)) → AllByRecursion (λ r. place r < n) rows → rows_below n rows ≡ rows
  all_below n [] low = refl
  all_below n (r ∷ rows) low = by_test (nat_lt (place r) n) (grind (arith, nat_tests, low.0)) (all_below n rows low.1)
    where
      by_test : (b : Bool) → b ≡ true → rows_below n rows ≡ rows → cond b (r ∷ rows_below n rows) (rows_below n rows) ≡ r ∷ rows
      by_test true is later = ap (λ l. r ∷ l) later
      by_test false is later = cc

  -- where no row passes that is behind a serial, each is up to it
  pub none_behind : (n : ℕ) (rows : List (Keyed R)) → filter (λ r. nat_lt n (place r)) rows ≡ [] → AllByRecursion (λ r. place r < n + 1) rows
  none_behind n [] none = tt
  none_behind n (r ∷ rows) none = by_test (nat_lt n (place r)) refl none (none_behind n rows)
    where
      by_test : (b : Bool) → nat_lt n (place r) ≡ b → cond b (r ∷ filter (λ r. nat_lt n (place r)) rows) (filter (λ r. nat_lt n (place r)) rows) ≡ []
          → (filter (λ r. nat_lt n (place r)) rows ≡ [] → AllByRecursion (λ r. place r < n + 1) rows)
          → AllByRecursion (λ r. place r < n + 1) (r ∷ rows)
      by_test true is none later = absurd (omega (arith, ap length none))
      by_test false is none later = (grind (arith, nat_tests, is), later none)

  -- and none passes where each is up to it
  pub nothing_behind : (n : ℕ) (rows : List (Keyed R)) → AllByRecursion (λ r. place r < n + 1) rows → filter (λ r. nat_lt n (place r)) rows ≡ []
  nothing_behind n [] low = refl
  nothing_behind n (r ∷ rows) low = by_test (nat_lt n (place r)) (grind (arith, nat_tests, low.0)) (nothing_behind n rows low.1)
    where
      by_test : (b : Bool) → b ≡ false → filter (λ r. nat_lt n (place r)) rows ≡ []
          → cond b (r ∷ filter (λ r. nat_lt n (place r)) rows) (filter (λ r. nat_lt n (place r)) rows) ≡ []
      by_test true is later = cc
      by_test false is later = later

-- what is so of rows below a key, and of those from it on below a second, is so of those below the second
pub all_more : {R : Type 0} (P : Keyed R → Type 0) (rows : List (Keyed R)) → Rises place 0 rows → (first next : ℕ) → first ≤ next
    → AllByRecursion P (rows_below first rows) → AllByRecursion P (rows_between first next rows) → AllByRecursion P (rows_below next rows)
all_more P rows rise first next up before here =
    subst (AllByRecursion P) (sym (joined first next 0 rows rise up)) (all-append P (rows_below first rows) (rows_between first next rows) before here)

pub all_at_first : {R : Type 0} (P : Keyed R → Type 0) (rows : List (Keyed R)) → Rises place 0 rows → AllByRecursion P (rows_below 0 rows)
all_at_first P rows rise = subst (AllByRecursion P) (sym (none_below 0 0 rows rise (omega arith))) tt

-- A holder's rows, in order of their serials: those that a statement shows of a range are those between its ends.
module _ {R : Type 0} (H : ℕ) (rows : List (Keyed R)) (apart : IsApart place (part H rows)) where
  abbrev mine : List (Keyed R)
  mine = in_order place (part H rows)

  pub mine_rise : Rises place 0 mine
  mine_rise = in_order_rises place (part H rows)

  module _ (first end : ℕ) where
    between_rise : Rises place 0 (rows_between first end mine)
    between_rise = rises-filter place (λ r. nat_le first (place r) && nat_lt (place r) end) 0 mine mine_rise

    between_those : IsPermutation (rows_between first end mine) (filter (is_within H first end) rows)
    between_those =
        subst (IsPermutation (rows_between first end mine))
        (sym (filter_both (λ r. nat_le first (place r) && nat_lt (place r) end) (λ r. owner r == H) rows))
        (IsPermutation-sym (filter (λ r. nat_le first (place r) && nat_lt (place r) end) (part H rows)) (rows_between first end mine)
        (IsPermutation-filter (λ r. nat_le first (place r) && nat_lt (place r) end) (part H rows) mine (in_order_permutes place (part H rows) apart)))

    pub within_is : in_order place (filter (is_within H first end) rows) ≡ rows_between first end mine
    within_is = brought_to_order place 0 (rows_between first end mine) (filter (is_within H first end) rows) between_rise between_those

    pub within_apart : IsApart place (filter (is_within H first end) rows)
    within_apart =
        apart_permuted place (rows_between first end mine) (filter (is_within H first end) rows) between_those
        (rises_apart place 0 (rows_between first end mine) between_rise)
