-- The sum of a text, one character after another.
use Rattle.std.proofs.Common.{◌≡◌, ℕ, ◌+◌, ◌*◌, ◌^◌, ◌<◌, ◌≤◌, List, [], ◌∷◌, ◌++◌, length, take, get_or, arith, refl, ap, lit<, sym, ◌∙◌, zero-add, add-zero, add_assoc}
use Rattle.std.proofs.lemmas.List.{take_more, length-take-le}
use Rattle.std.proofs.Math.Nat.{pow-le-pow_right}
use Rattle.std.proofs.lemmas.Nat.{mul-le}
use Rattle.td_base.specs.References.{value_of, weighted_sum}

-- one more character at the end
weighted_push : (place : ℕ) (text : List ℕ) (c : ℕ) → weighted_sum place (text ++ c ∷ []) ≡ weighted_sum place text + value_of c * 2 ^ (place + length text)
weighted_push place [] c = rw (add-zero, add-zero, zero-add) refl
weighted_push place (x ∷ text) c =
    let rest = weighted_push (place + 1) text c in
    let e : place + 1 + length text ≡ place + length (x ∷ text) = omega arith in
    rw (rest, e) (sym (add_assoc (value_of x * 2 ^ place) (weighted_sum (place + 1) text) _))

-- one more turn of the loop
pub weighted_more : (text : List ℕ) (i : ℕ) → i < length text → weighted_sum 0 (take (i + 1) text) ≡ weighted_sum 0 (take i text) + value_of (get_or text i 0) * 2 ^ i
weighted_more text i small =
    let at : 0 + length (take i text) ≡ i = omega (arith, length-take-le i text) in
    rw (take_more text i 0 small) (weighted_push 0 (take i text) (get_or text i 0) ∙ ap (λ (n : ℕ). weighted_sum 0 (take i text) + value_of (get_or text i 0) * 2 ^ n) at)

-- a value of at most 38 times the weight
pub value_small : (v weight : ℕ) → v ≤ 38 → v * weight ≤ 38 * weight
value_small v weight small = mul-le v weight 38 weight small (omega arith)

-- weights up to the 40th place
pub weight_small : (i weight : ℕ) → i ≤ 40 → weight ≡ 2 ^ i → weight ≤ 2 ^ 40
weight_small i weight small e = rw e (pow-le-pow_right {n = 2} (lit< tt) small)
