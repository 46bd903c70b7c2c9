-- Typed rows that were shown in an order stand in it.
use Rattle.sqlite_sql.specs.Term.{col}
use Rattle.sqlite_typed.proofs.TestLemmas.{last_key, then_key}
use Rattle.sqlite_value.specs.Order.{column, Row, value_cmp}
use Rattle.typed_sql.specs.Reading.{row_order, IsAnswerOf}
use Rattle.typed_sql.specs.Values.{number_value}
use Rattle.std.proofs.Common.{Bool, Equal, List, [], ap, arith, cond, false, map, nat_cmp, refl, subst, sym, true, true≢false, ℕ, ◌+◌, ◌∙◌, ◌∷◌, ◌≡◌}
use Rattle.std.specs.Prelude.{filter, pos, ◌&&◌, ◌==◌}
use Rattle.std.specs.Cmp.Lexicographic.{slice_cmp}
use Rattle.std.specs.List.{AllByRecursion}
use Rattle.std.specs.List.Sorted.{IsSorted}
use Rattle.std.proofs.lemmas.Bool.Decides.{nat_tests}
use Rattle.std.proofs.lemmas.Int.{ints}
use Rattle.std.specs.Ordering.{int_cmp, is_lt, ordering_then}
use Rattle.std.specs.declared.cmp.Ordering.{Ordering}
use Rattle.sqlite_exec.proofs.RowsLemmas.{IsSorted-map}
use Rattle.sqlite_trees.proofs.ListLemmas.{all-get_or, all-permutation, map-map}
use Rattle.sqlite_trees.specs.Tree.{Trees}
use Rattle.sqlite_value.proofs.OrderLemmas.{value_cmp-Int, value_cmp-Text}
use Rattle.sqlite_value.specs.declared.keys.Collation.TheVariants.{Binary}
use Rattle.sqlite_value.specs.declared.value.Value.{Value}
use Rattle.sqlite_value.specs.declared.value.Value.TheVariants.{Int, Text}
use Rattle.sqlite_value.specs.Keys.{ascending, by_key}
use Rattle.typed_sql.specs.Typed.{AreTyped, IsTypedRow, Typing, row_of}

numbers_alike : (m n : ℕ) → int_cmp (pos m) (pos n) ≡ nat_cmp m n
numbers_alike m n = grind (arith, ints, nat_tests)

-- two columns that are numbers compare as the numbers do
pub numbers_compared : (v w : Value) (m n : ℕ) → v ≡ Int (pos m) → w ≡ Int (pos n)
    → by_key (ascending Binary) v w ≡ nat_cmp m n
numbers_compared v w m n is other =
    ap (λ v. value_cmp v w) is ∙ ap (value_cmp (Int (pos m))) other ∙ value_cmp-Int (pos m) (pos n) ∙ numbers_alike m n

-- and two that are texts as the texts do
pub texts_compared : (v w : Value) (s t : List ℕ) → v ≡ Text s → w ≡ Text t
    → by_key (ascending Binary) v w ≡ slice_cmp nat_cmp s t
texts_compared v w s t is other =
    ap (λ v. value_cmp v w) is ∙ ap (value_cmp (Text s)) other ∙ value_cmp-Text s t

-- two numbers that are one tie
pub numbers_tie : (m n N : ℕ) → (m == N) ≡ true → (n == N) ≡ true → nat_cmp m n ≡ Equal
numbers_tie m n N is other = grind (arith, nat_tests, is, other)

-- both of two tests pass
pub both_pass : (a b : Bool) → (a && b) ≡ true → (a ≡ true) × (b ≡ true)
both_pass true b is = (refl, is)
both_pass false b is = absurd (true≢false (sym is))

-- elements that two orders compare alike are in both, where they are in one
pub sorted_alike : {X : Type 0} (P : X → Type 0) (c d : X → X → Ordering) → ((a b : X) → P a → P b → c a b ≡ d a b)
    → (xs : List X) → AllByRecursion P xs → IsSorted c xs → IsSorted d xs
sorted_alike P c d same xs all sorted k e low high =
    ap is_lt (sym (same _ _ (all-get_or P xs (k + 1) e all high) (all-get_or P xs k e all (omega (arith, high)))))
    ∙ sorted k e low high

-- what holds of elements that pass holds of those that are left
all_passed : {X : Type 0} (P Q : X → Type 0) (test : X → Bool) → ((x : X) → P x → test x ≡ true → Q x)
    → (xs : List X) → AllByRecursion P xs → AllByRecursion Q (filter test xs)
all_passed P Q test so [] all = tt
all_passed {X} P Q test so (x ∷ xs) all = go (test x) refl (all_passed P Q test so xs all.1)
  where
    go : (b : Bool) → test x ≡ b → AllByRecursion Q (filter test xs)
        → AllByRecursion Q (cond b (x ∷ filter test xs) (filter test xs))
    go true is rest = (so x all.0 is, rest)
    go false is rest = rest

module _ {R : Type 0} (ty : Typing R) (p : R → Bool) where
  -- a typed row that passes
  abbrev pub Passes : Row → Type 0
  Passes r = IsTypedRow ty r × (p (row_of ty r) ≡ true)

  pub selected_sorted : (test : Row → Bool) (show : Row → Row) (order : Row → Row → Ordering) (cmp : R → R
      → Ordering) (trees : Trees) (answer : List Row)
      → ((r : Row) → IsTypedRow ty r → test r ≡ p (row_of ty r)) → ((r : Row) → show r ≡ ty.columns r)
      → ((a b : Row) → Passes a → Passes b → order a b ≡ cmp (row_of ty a) (row_of ty b))
      → IsAnswerOf (trees ty.table.tree) test show order answer → AreTyped ty trees
      → IsSorted cmp (map ty.from answer)
  selected_sorted test show order cmp trees answer tests shows compares a typed =
      let read : map ty.from answer ≡ map (row_of ty) a.found = ap (map ty.from) a.shown
      ∙ map-map ty.from show a.found ∙ (λ i. map (λ r. ty.from (shows r i)) a.found) in
      let passed : AllByRecursion Passes a.found =
      all-permutation Passes _ _ a.all
      (all_passed (IsTypedRow ty) Passes test (λ r is passes. (is, sym (tests r is) ∙ passes))
      (trees ty.table.tree) typed.cells) in
      subst (IsSorted cmp) (sym read)
      (IsSorted-map cmp (row_of ty) a.found
      (sorted_alike Passes order (λ x y. cmp (row_of ty x) (row_of ty y)) compares a.found passed a.sorted))

-- two tie in a column that holds the same number in each row that passes
module _ {R : Type 0} (ty : Typing R) (p : R → Bool) where
  ties : (at : ℕ) (key : R → ℕ) (k : ℕ) → ((r : Row) → IsTypedRow ty r → column r at ≡ number_value (key (row_of ty r)))
      → ((x : R) → p x ≡ true → (key x == k) ≡ true) → (a b : Row) → Passes ty p a → Passes ty p b
      → by_key (ascending Binary) (column a at) (column b at) ≡ Equal
  ties at key k holds own a b is other =
      numbers_compared (column a at) (column b at) (key (row_of ty a)) (key (row_of ty b)) (holds a is.0) (holds b other.0)
      ∙ numbers_tie (key (row_of ty a)) (key (row_of ty b)) k (own (row_of ty a) is.1) (own (row_of ty b) other.1)

  module _ (first : R → ℕ) (H : ℕ)
      (firsts : (r : Row) → IsTypedRow ty r → column r 1 ≡ number_value (first (row_of ty r)))
      (own : (x : R) → p x ≡ true → (first x == H) ≡ true) (values : Row) where
    -- so rows with one number in the first column stand by the second
    pub by_second : (second : R → ℕ)
        → ((r : Row) → IsTypedRow ty r → column r 2 ≡ number_value (second (row_of ty r)))
        → (a b : Row) → Passes ty p a → Passes ty p b
        → row_order ((col 1 1, ascending Binary) ∷ (col 1 2, ascending Binary) ∷ []) values a b
        ≡ nat_cmp (second (row_of ty a)) (second (row_of ty b))
    by_second second seconds a b is other =
        then_key (ties 1 first H firsts own a b is other)
        (last_key (numbers_compared (column a 2) (column b 2) (second (row_of ty a)) (second (row_of ty b))
        (seconds a is.0) (seconds b other.0)))

    -- and those with one number in each of the first two by the third
    pub by_third : (second : R → ℕ) (n : ℕ)
        → ((r : Row) → IsTypedRow ty r → column r 2 ≡ number_value (second (row_of ty r)))
        → ((x : R) → p x ≡ true → (second x == n) ≡ true) → (cmp : R → R → Ordering)
        → ((a b : Row) → IsTypedRow ty a → IsTypedRow ty b
        → by_key (ascending Binary) (column a 3) (column b 3) ≡ cmp (row_of ty a) (row_of ty b))
        → (a b : Row) → Passes ty p a → Passes ty p b
        → row_order ((col 1 1, ascending Binary) ∷ (col 1 2, ascending Binary) ∷ (col 1 3, ascending Binary) ∷ []) values a b
        ≡ cmp (row_of ty a) (row_of ty b)
    by_third second n seconds own_second cmp thirds a b is other =
        then_key (ties 1 first H firsts own a b is other)
        (then_key (ties 2 second n seconds own_second a b is other) (last_key (thirds a b is.0 other.0)))

-- rows whose first two columns are numbers stand by the first, and then by the second
module _ {R : Type 0} (ty : Typing R) (first second : R → ℕ)
    (firsts : (r : Row) → IsTypedRow ty r → column r 1 ≡ number_value (first (row_of ty r)))
    (seconds : (r : Row) → IsTypedRow ty r → column r 2 ≡ number_value (second (row_of ty r))) (p : R → Bool) where
  pub by_both : (values : Row) (a b : Row) → Passes ty p a → Passes ty p b
      → row_order ((col 1 1, ascending Binary) ∷ (col 1 2, ascending Binary) ∷ []) values a b
      ≡ ordering_then (nat_cmp (first (row_of ty a)) (first (row_of ty b))) (nat_cmp (second (row_of ty a)) (second (row_of ty b)))
  by_both values a b is other =
      then_key (numbers_compared (column a 1) (column b 1) (first (row_of ty a)) (first (row_of ty b)) (firsts a is.0) (firsts b other.0))
      (last_key (numbers_compared (column a 2) (column b 2) (second (row_of ty a)) (second (row_of ty b)) (seconds a is.0) (seconds b other.0)))
