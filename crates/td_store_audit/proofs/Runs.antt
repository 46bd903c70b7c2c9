-- Rows that stand by a number, and those of one number among them.
use Rattle.std.proofs.Common.{◌≡◌, ◌≢◌, ◌∙◌, ℕ, zero, suc, ◌+◌, ◌-◌, ◌<◌, ◌≤◌, Bool, true, false, List, [], ◌∷◌, length, take, drop, get_or, nat_lt, nat_cmp, refl, sym, subst, ap, arith}
use Rattle.std.specs.Prelude.{slice_index_or}
use Rattle.std.specs.Ordering.{is_lt, ordering_then}
use Rattle.std.specs.declared.cmp.Ordering.{Ordering}
use Rattle.std.specs.declared.cmp.Ordering.TheVariants.{Less, Equal, Greater}
use Rattle.std.proofs.lemmas.Bool.Decides.{nat_tests}
use Rattle.std.proofs.lemmas.List.{length-take, length-drop}
use Rattle.sqlite_trees.specs.Tree.{IsAscending}
use Rattle.sqlite_trees.proofs.ListLemmas.{all_weaker, ascending-get_or}
use Rattle.td_table_model.specs.Gathering.{of_key}
use Rattle.td_store_audit.specs.InPlace.{IsEndOfRun}

-- neighbours that are related make all related
pub ascends : {X : Type 0} (R : X → X → Type 0) → ((a b c : X) → R a b → R b c → R a c) → (xs : List X)
    → ((k : ℕ) (d : X) → k + 1 < length xs → R (slice_index_or xs k d) (slice_index_or xs (k + 1) d)) → IsAscending R xs
ascends R chain [] each = tt
ascends R chain (x ∷ []) each = (tt, tt)
ascends R chain (x ∷ y ∷ xs) each =
    let rest = ascends R chain (y ∷ xs) (λ k d within. let next : suc k + 1 ≡ suc (k + 1) = omega arith in rw next at (each (suc k) d (omega (arith, within)))) in
    let first : R x y = each 0 x (omega arith) in
    ((first, all_weaker (R y) (R x) (λ z above. chain x y z first above) xs rest.0), rest)

-- what an order by two numbers says of neighbours
pub first_low : (m n : ℕ) (o : Ordering) → is_lt (ordering_then (nat_cmp n m) o) ≡ false → m ≤ n
first_low m n o is = go (nat_cmp n m) refl is
  where
    go : (c : Ordering) → nat_cmp n m ≡ c → is_lt (ordering_then c o) ≡ false → m ≤ n
    go Less e is = cc
    go Equal e is = grind (arith, nat_tests, e)
    go Greater e is = grind (arith, nat_tests, e)

pub second_low : (m n j k : ℕ) → is_lt (ordering_then (nat_cmp n m) (nat_cmp k j)) ≡ false → m ≡ n → j ≤ k
second_low m n j k is same = go (nat_cmp n m) refl is
  where
    go : (c : Ordering) → nat_cmp n m ≡ c → is_lt (ordering_then c (nat_cmp k j)) ≡ false → j ≤ k
    go Less e is = cc
    go Equal e is = grind (arith, nat_tests, is)
    go Greater e is = absurd (grind (arith, nat_tests, e, same))

nothing : {X : Type 0} (none : List X) (start len : ℕ) → none ≡ [] → take len (drop start none) ≡ []
nothing none start len is = rw is (go start len)
  where
    go : {X : Type 0} (start len : ℕ) → (let none : List X = [] in take len (drop start none) ≡ none)
    go zero zero = refl
    go zero (suc len) = refl
    go (suc start) zero = refl
    go (suc start) (suc len) = refl

module _ {X : Type 0} (key : X → ℕ) where
  other_first : (k : ℕ) (x : X) (xs : List X) → key x ≢ k → of_key key k (x ∷ xs) ≡ of_key key k xs
  other_first k x xs other = grind (arith, nat_tests, other)

  own_first : (k : ℕ) (x : X) (xs : List X) → key x ≡ k → of_key key k (x ∷ xs) ≡ x ∷ of_key key k xs
  own_first k x xs own = grind (arith, nat_tests, own)

  -- the rows with a key, where they stand together
  together : (k start len : ℕ) (xs : List X) → ((i : ℕ) (d : X) → i < length xs → i < start → key (get_or xs i d) ≢ k)
      → ((i : ℕ) (d : X) → i < length xs → start ≤ i → i < start + len → key (get_or xs i d) ≡ k)
      → ((i : ℕ) (d : X) → i < length xs → start + len ≤ i → key (get_or xs i d) ≢ k)
      → of_key key k xs ≡ take len (drop start xs)
  together k start len [] before own after = sym (nothing [] start len refl)
  together k (suc start) len (x ∷ xs) before own after =
      other_first k x xs (before 0 x (omega arith) (omega arith))
      ∙ together k start len xs (λ i d within low. before (suc i) d (omega (arith, within)) (omega (arith, low)))
      (λ i d within low high. own (suc i) d (omega (arith, within)) (omega (arith, low)) (omega (arith, high)))
      (λ i d within high. after (suc i) d (omega (arith, within)) (omega (arith, high)))
  together k zero (suc len) (x ∷ xs) before own after =
      own_first k x xs (own 0 x (omega arith) (omega arith) (omega arith))
      ∙ ap (λ l. x ∷ l) (together k zero len xs (λ i d within low. absurd (omega (arith, low)))
      (λ i d within low high. own (suc i) d (omega (arith, within)) (omega arith) (omega (arith, high)))
      (λ i d within high. after (suc i) d (omega (arith, within)) (omega (arith, high))))
  together k zero zero (x ∷ xs) before own after =
      other_first k x xs (after 0 x (omega arith) (omega arith))
      ∙ together k zero zero xs (λ i d within low. absurd (omega (arith, low)))
      (λ i d within low high. absurd (omega (arith, high)))
      (λ i d within high. after (suc i) d (omega (arith, within)) (omega arith))

  -- up to a place the keys are at most n, and from it on they are above
  pub record IsSplit (n start : ℕ) (xs : List X) : Type 0 where
    pub before : (i : ℕ) (d : X) → i < length xs → i < start → key (get_or xs i d) ≤ n
    pub after : (i : ℕ) (d : X) → i < length xs → start ≤ i → n < key (get_or xs i d)

  module _ (n start end : ℕ) (xs : List X) (sorted : IsAscending (λ a b. key a ≤ key b) xs) (split : IsSplit n start xs) (run : IsEndOfRun key (n + 1) start xs end) where
    above : (i : ℕ) (d : X) → i < length xs → end ≤ i → n + 1 < key (get_or xs i d)
    above i d within high = go (nat_lt end i) refl
      where
        at_end : end < length xs → n + 1 < key (get_or xs end d)
        at_end there = let low = split.after end d there run.first in let other = run.next d there in omega (arith, low, other)

        go : (b : Bool) → nat_lt end i ≡ b → n + 1 < key (get_or xs i d)
        go true is =
            let less : end < i = grind (arith, nat_tests, is) in
            omega (arith, at_end (omega (arith, less, within)), ascending-get_or (λ a b. key a ≤ key b) xs end i d sorted less within)
        go false is = let same : end ≡ i = grind (arith, nat_tests, is, high) in subst (λ j. n + 1 < key (get_or xs j d)) same (at_end (omega (arith, same, within)))

    pub next_split : IsSplit (n + 1) end xs
    next_split = record {
      before = λ i d within low. go i d within low (nat_lt i start) refl;
      after = above;
    }
      where
        go : (i : ℕ) (d : X) → i < length xs → i < end → (b : Bool) → nat_lt i start ≡ b → key (get_or xs i d) ≤ n + 1
        go i d within low true is = omega (arith, split.before i d within (grind (arith, nat_tests, is)))
        go i d within low false is = omega (arith, run.same i d (grind (arith, nat_tests, is)) low)

    -- the rows with the next key are the run
    pub run_is : of_key key (n + 1) xs ≡ take (end - start) (drop start xs)
    run_is =
        let far : start + (end - start) ≡ end = omega (arith, run.first) in
        together (n + 1) start (end - start) xs
        (λ i d within low same. omega (arith, split.before i d within low, same))
        (λ i d within low high. run.same i d low (omega (arith, high, far)))
        (λ i d within high same. omega (arith, above i d within (omega (arith, high, far)), same))

    pub run_length : length (of_key key (n + 1) xs) ≡ end - start
    run_length = ap length run_is ∙ omega (arith, length-take (end - start) (drop start xs), length-drop start xs, run.first, run.last)
