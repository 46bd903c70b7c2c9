-- A piece that follows what was sent.
use Rattle.std.proofs.Common.{◌≡◌, ℕ, ◌+◌, ◌-◌, ◌<◌, ◌≤◌, ◌++◌, length, take, drop, arith, List, ap, sym, ◌∙◌}
use Rattle.std.proofs.lemmas.List.{length-drop, length-take-le, take_rest}
use Rattle.std.proofs.Math.Seq.{take-add}

-- one more piece
pub more_sent : (xs : List ℕ) (a n : ℕ) → take a xs ++ take n (take (length xs - a) (drop a xs)) ≡ take (a + n) xs
more_sent xs a n = ap (λ (ys : List ℕ). take a xs ++ take n ys) (take_rest xs a) ∙ sym (take-add a n xs)

-- it fits
pub more_fits : (xs : List ℕ) (a n : ℕ) → a ≤ length xs → n ≤ length (take (length xs - a) (drop a xs)) → a + n ≤ length xs
more_fits xs a n fits small =
    let e : length (take (length xs - a) (drop a xs)) ≡ length xs - a = ap length (take_rest xs a) ∙ length-drop a xs in
    omega arith

-- some of it is taken
pub some_taken : (xs : List ℕ) (n : ℕ) → 0 < n → n ≤ length xs → 0 < length (take n xs)
some_taken xs n some small = rw (length-take-le n xs small) some
