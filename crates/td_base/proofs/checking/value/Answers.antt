use Rattle.std.proofs.Common.{◌≡◌, ℕ, zero, suc, ◌+◌, ◌-◌, ◌/◌, ◌<◌, ◌≤◌, Bool, true, false, nat_lt, arith, refl, inr, slice_index, sym}
use Rattle.std.specs.Prelude.{◌==◌, ◌&&◌}
use Rattle.std.proofs.lemmas.Bool.Decides.{Decides-below_and, Decides-eqb, nat_tests}
use Rattle.td_base.specs.References.{letter_values, value_of}
use Rattle.td_base.proofs.checking.value.Goals as goal

-- the value of the letter at this place, by its place
abbrev valued : ℕ → ℕ
valued k = 10 + k + (k + 9) / 10

-- it is so of each letter before this place
valued_below : ℕ → Bool
valued_below zero = true
valued_below (suc n) = (slice_index letter_values n == valued n) && valued_below n

letter : (k : ℕ) → k < 26 → slice_index letter_values k ≡ valued k
unfolding valued_below
letter = (Decides-below_and (λ n. slice_index letter_values n == valued n) (λ n. slice_index letter_values n ≡ valued n) valued_below (λ n. Decides-eqb _ _) refl (λ _. refl) 26).0 refl

not_digit : (c : ℕ) → 65 ≤ c → nat_lt c 65 ≡ false
not_digit c from = grind (arith, nat_tests)

letter_is : (c : ℕ) → 65 ≤ c → c < 91 → valued (c - 65) ≡ value_of c
letter_is c from below = rw (not_digit c from) (sym (letter (c - 65) (omega arith)))

pub returns-in-65-to-90-clause-value : goal.returns-in-65-to-90-clause-value
returns-in-65-to-90-clause-value c = (inr (omega arith, omega arith), letter_is c.args.c (omega arith) (omega arith))
