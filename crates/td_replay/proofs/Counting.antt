-- Numbers of rows, one row more.
use Rattle.std.proofs.Common.{◌≡◌, ℕ, ◌+◌, ◌-◌, ◌<◌, ◌≤◌, Bool, true, false, nat_eq, Option, None, Some, List, [], ◌∷◌, ◌++◌, length, map, take, drop, eq-eqb, eqb-true, refl, sym, ap, ◌∙◌, arith, append_assoc, subst}
use Rattle.std.specs.Prelude.{not}
use Rattle.std.specs.Option.{SomeIff, option_eq}
use Rattle.std.proofs.lemmas.List.{map-append, take-append-drop}
use Rattle.td_journal_lines.specs.Lines.{Numbered}
use Rattle.td_replay.specs.Numbers.{AreAbove, AreCounted, AreRising, IsFirstNot}

pub counted_more : (n : ℕ) (rows : List Numbered) (r : Numbered) → AreCounted n rows → r.number ≡ n + length rows → AreCounted n (rows ++ r ∷ [])
counted_more n [] r none is = (omega (arith, is), tt)
counted_more n (q ∷ rows) r are is = (are.0, counted_more (n + 1) rows r are.1 (omega (arith, is)))

pub counted_last : (n : ℕ) (rows : List Numbered) (r : Numbered) → AreCounted n (rows ++ r ∷ []) → r.number ≡ n + length rows
counted_last n [] r are = omega (arith, are.0)
counted_last n (q ∷ rows) r are = let rest = counted_last (n + 1) rows r are.1 in omega (arith, rest)

-- what holds of rows holds of those at their front
pub counted_front : (n : ℕ) (rows more : List Numbered) → AreCounted n (rows ++ more) → AreCounted n rows
counted_front n [] more are = tt
counted_front n (r ∷ rows) more are = (are.0, counted_front (n + 1) rows more are.1)

pub above_front : (n : ℕ) (rows more : List Numbered) → AreAbove n (rows ++ more) → AreAbove n rows
above_front n [] more are = tt
above_front n (r ∷ rows) more are = (are.0, above_front r.number rows more are.1)

rising_front : (rows more : List Numbered) → AreRising (rows ++ more) → AreRising rows
rising_front [] more are = tt
rising_front (r ∷ rows) more are = above_front r.number rows more are

-- so rows with a first one with which they aren't so aren't so
not_all : (so : List Numbered → Type 0) → ((rows more : List Numbered) → so (rows ++ more) → so rows) → (rows : List Numbered) (number : ℕ) → IsFirstNot so rows number → so rows → ⊥
not_all so front rows number is are =
    is.no_more (front (is.before ++ is.row ∷ []) is.after (subst so (is.rows_are ∙ sym (append_assoc is.before (is.row ∷ []) is.after)) are))

pub not_counted : (rows : List Numbered) (number : ℕ) → IsFirstNot (AreCounted 1) rows number → AreCounted 1 rows → ⊥
not_counted rows number is are = not_all (AreCounted 1) (λ rows more. counted_front 1 rows more) rows number is are

pub not_rising : (rows : List Numbered) (number : ℕ) → IsFirstNot AreRising rows number → AreRising rows → ⊥
not_rising rows number is are = not_all AreRising rising_front rows number is are

-- the number of the last row, if there is one
abbrev pub last_number : ℕ → List Numbered → ℕ
last_number n [] = n
last_number n (r ∷ rows) = last_number r.number rows

pub above_more : (n : ℕ) (rows : List Numbered) (r : Numbered) → AreAbove n rows → last_number n rows < r.number → AreAbove n (rows ++ r ∷ [])
above_more n [] r none above = (above, tt)
above_more n (q ∷ rows) r are above = (are.0, above_more q.number rows r are.1 above)

pub above_last : (n : ℕ) (rows : List Numbered) (r : Numbered) → AreAbove n (rows ++ r ∷ []) → last_number n rows < r.number
above_last n [] r are = are.0
above_last n (q ∷ rows) r are = above_last q.number rows r are.1

pub last_more : (n : ℕ) (rows : List Numbered) (r : Numbered) → last_number n (rows ++ r ∷ []) ≡ r.number
last_more n [] r = refl
last_more n (q ∷ rows) r = last_more q.number rows r

-- a number that isn't one above another, and one that is, by the number below it
pub not_next : (n b : ℕ) (r : Option ℕ) → SomeIff r (1 ≤ n) (n - 1) → true ≡ not (option_eq nat_eq r (Some b)) → n ≡ b + 1 → ⊥
not_next n b None below other is = below (omega (arith, is))
not_next n b (Some m) (some, below) other is = both (eq-eqb m b (omega (arith, below, is))) other
  where
    both : nat_eq m b ≡ true → true ≡ not (nat_eq m b) → ⊥
    both one two = let no : true ≡ not true = subst (λ (x : Bool). true ≡ not x) one two in cc

pub is_next : (n b : ℕ) (r : Option ℕ) → SomeIff r (1 ≤ n) (n - 1) → false ≡ not (option_eq nat_eq r (Some b)) → n ≡ b + 1
is_next n b None below same = absurd (cc)
is_next n b (Some m) (some, below) same = let is = eqb-true m b (yes (nat_eq m b) same) in omega (arith, some, below, is)
  where
    yes : (x : Bool) → false ≡ not x → x ≡ true
    yes true is = refl
    yes false is = absurd (cc)

-- ---- lists

-- what is made of the first values, and of one more
pub first_more : {X Y : Type 0} (f : X → Y) (xs : List X) (i : ℕ) (x : X) → take (i + 1) xs ≡ take i xs ++ x ∷ [] → map f (take (i + 1) xs) ≡ map f (take i xs) ++ f x ∷ []
first_more f xs i x more = ap (map f) more ∙ map-append f (take i xs) (x ∷ [])

-- and of all, with that one in its place
pub around : {X Y : Type 0} (f : X → Y) (xs : List X) (i : ℕ) (x : X) → take (i + 1) xs ≡ take i xs ++ x ∷ [] → map f xs ≡ map f (take i xs) ++ f x ∷ map f (drop (i + 1) xs)
around f xs i x more =
    ap (map f) (sym (take-append-drop (i + 1) xs)) ∙ (map-append f (take (i + 1) xs) (drop (i + 1) xs)
    ∙ (ap (λ ys. ys ++ map f (drop (i + 1) xs)) (first_more f xs i x more) ∙ append_assoc (map f (take i xs)) (f x ∷ []) (map f (drop (i + 1) xs))))
