-- The part at a place, by the calls of an iterator over what a match took.
use Rattle.std.proofs.Common.{◌≡◌, ℕ, zero, suc, ◌≤◌, List, [], ◌∷◌, length, map, Option, None, Some, option_map, Bor, refl, ap, ◌∙◌, arith}
use Rattle.std.specs.Iterator.{YieldsThen, SkipsThenYields}
use Rattle.std.specs.List.{AllByRecursion, slice_get}
use Rattle.std.specs.Prelude.{MatchOption}
use Rattle.std.specs.Str.{IsUtf8}
use Rattle.matchit.specs.Params.{GivesPair}

-- names and parts as `str`s
abbrev Item : Type 0
Item = Bor (List ℕ) × Bor (List ℕ)

abbrev Pairs : Type 0
Pairs = List (List ℕ × List ℕ)

abbrev Gives : Pairs → Option Item → Pairs → Type 0
Gives = GivesPair (λ (item : Item). (item.0.now, item.1.now))

abbrev Counts : Option Item → ℕ → ℕ → Type 0
Counts r m n = MatchOption r (m ≤ n) (λ _. m ≡ n)

-- after no call
part_here : (s u : Pairs) (n : ℕ) (r : Option Item) → AllByRecursion IsUtf8 (map (λ p. p.1) s) → Gives s r u → Counts r 0 n → option_map (λ item. item.1.now) r ≡ slice_get (map (λ p. p.1) s) n
part_here s u n None texts gives count = rw gives refl
part_here s u n (Some item) texts gives count =
    let there = rw gives.1 at texts in
    rw (← count, gives.1, gives.3 there.0) refl

one_less : (r : Option Item) (m n : ℕ) → Counts r (suc m) (suc n) → Counts r m n
one_less None m n count = omega (arith, count)
one_less (Some item) m n count = omega (arith, count)

not_zero : (r : Option Item) (m : ℕ) → Counts r (suc m) 0 → ⊥
not_zero None m count = omega (arith, count)
not_zero (Some item) m count = omega (arith, count)

part_at : (s u : Pairs) (n : ℕ) (r : Option Item) (items : List Item) → AllByRecursion IsUtf8 (map (λ p. p.1) s) → YieldsThen Gives s items r u → Counts r (length items) n
    → option_map (λ item. item.1.now) r ≡ slice_get (map (λ p. p.1) s) n
part_at s u n r [] texts then count = part_here s u n r texts (rw (← then.1) at then.2) count
part_at s u zero r (item ∷ items) texts then count = absurd (not_zero r (length items) count)
part_at s u (suc n) r (item ∷ items) texts then count =
    let gives = then.1.1 in
    let there = rw gives.1 at texts in
    let again = part_at then.1.0 u n r items there.1 (then.0, then.1.2, then.2) (one_less r (length items) n count) in
    rw gives.1 again

-- what `nth` gives of the parts that a list shows
pub nth_part : (parts : List (List ℕ)) (s u : Pairs) (n : ℕ) (r : Option Item) → map (λ p. p.1) s ≡ parts → AllByRecursion IsUtf8 parts → SkipsThenYields Gives s n r u
    → option_map (λ item. item.1.now) r ≡ slice_get parts n
nth_part parts s u n r shown texts ran =
    part_at s u n r ran.0 (rw shown texts) ran.1 ran.2 ∙ ap (λ parts. slice_get parts n) shown
