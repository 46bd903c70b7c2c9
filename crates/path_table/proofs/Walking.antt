-- What `matchit` says that the parameters of a pattern took of a path that fits it.
use Rattle.std.proofs.Common.{◌≡◌, ℕ, suc, ◌+◌, ◌-◌, ◌<◌, ◌≤◌, List, [], ◌∷◌, ◌++◌, length, take, drop, get_or, map, Bool, true, false, cond, refl, sym, ap, ◌∙◌, arith, rules, ◌==◌}
use Rattle.std.proofs.lemmas.Bool.{and_parts}
use Rattle.std.proofs.lemmas.Bool.Decides.{nat_tests}
use Rattle.std.proofs.lemmas.List.{drop-drop, drop_at, take_at, length-append, length-drop, get_or-drop, append-nil}
use Rattle.std.proofs.Math.Bool.{and-false}
use Rattle.std.specs.Prelude.{◌&&◌, nat_lt, nat_le}
use Rattle.matchit.specs.Rows.{param_token}
use Rattle.matchit.specs.Params.{walk, wild_stop, part_of, after_token}
use Rattle.matchit.specs.Seek.{slash, segment}
use Rattle.path_table.specs.Segments.{is_some_text}
use Rattle.path_table.proofs.Tokens.{part, rest, is_none, begins, behind, token_fits, goes_on, is_strict, part-rest, has_slash-part, param_count, token_parts}
use Rattle.path_table.proofs.Seeking.{segment-slash, tail_strict}

-- a walk's place: what is left of the pattern and of the path
record Spot (pattern path t p : List ℕ) (token at : ℕ) : Type 0 where
  tokens : drop token pattern ≡ t
  bytes : drop at path ≡ p
  within : at + length p ≡ length path
  short : length pattern ≤ 1000

-- one byte on
after_byte : (pattern path t p : List ℕ) (x b token at : ℕ) → Spot pattern path (x ∷ t) (b ∷ p) token at → Spot pattern path t p (token + 1) (at + 1)
after_byte pattern path t p x b token at h =
    record {
      tokens = sym (drop-drop 1 token pattern) ∙ ap (drop 1) h.tokens;
      bytes = sym (drop-drop 1 at path) ∙ ap (drop 1) h.bytes;
      within = omega (arith, h.within);
      short = h.short;
    }

-- a walk goes past a byte
walk_byte : (pattern text path t p : List ℕ) (names : List (ℕ × ℕ)) (x b token at : ℕ) → Spot pattern path (x ∷ t) (b ∷ p) token at → x < 128
    → walk pattern text path names token at ≡ walk pattern text path names (token + 1) (at + 1)
walk_byte pattern text path t p [] x b token at h low = refl
walk_byte pattern text path t p (name ∷ names) x b token at h low =
    let byte : nat_lt x param_token ≡ true = grind (arith, nat_tests) in
    let room : nat_lt at (length path) ≡ true = grind (arith, nat_tests, h.within) in
    let next = (after_byte pattern path t p x b token at h).tokens in
    rw (h.tokens, byte, room, next) refl

get_or-drop_first : (n : ℕ) (p : List ℕ) → get_or (drop n p) 0 0 ≡ get_or p n 0
get_or-drop_first n p =
    let same : n + 0 ≡ n = omega arith in
    get_or-drop n p 0 0 ∙ ap (λ i. get_or p i 0) same

-- a rest that a pattern's end fits is nothing
none_is : (p : List ℕ) → is_none p ≡ true → p ≡ []
none_is [] h = refl
none_is (b ∷ p) h = absurd (let never : false ≡ true = h in search rules)

-- a path that begins with a byte
begins_is : (x : ℕ) (p : List ℕ) → begins x p ≡ true → p ≡ x ∷ behind p
begins_is x [] h = absurd (let never : false ≡ true = h in search rules)
begins_is x (b ∷ p) h =
    let same : b ≡ x = grind (arith, nat_tests) in
    ap (λ c. c ∷ p) same

-- where the part of a parameter ends
stop_is : (pattern path t p : List ℕ) (token at : ℕ) → Spot pattern path (param_token ∷ t) p token at → goes_on t ≡ true → token_fits t (rest p) ≡ true
    → wild_stop pattern token path at ≡ at + length (part p)
stop_is pattern path [] p token at h goes fits =
    let last : nat_lt (token + 1) (length pattern) ≡ false = let one = ap length h.tokens in grind (arith, nat_tests, length-drop token pattern) in
    let whole : part p ≡ p = sym (append-nil (part p)) ∙ (ap (λ r. part p ++ r) (sym (none_is (rest p) fits)) ∙ part-rest p) in
    rw (last, and-false, whole) (sym h.within)
stop_is pattern path (y ∷ t) p token at h goes fits =
    let long = ap length h.tokens in
    let first : nat_lt token (length pattern) ≡ true = grind (arith, nat_tests, length-drop token pattern) in
    let second : nat_lt (token + 1) (length pattern) ≡ true = grind (arith, nat_tests, length-drop token pattern) in
    let byte = rw h.tokens at (get_or-drop_first token pattern) in
    let is_param : (get_or pattern token 0 == param_token) ≡ true = grind (arith, nat_tests) in
    let left : drop (token + 1) pattern ≡ y ∷ t = sym (drop-drop 1 token pattern) ∙ ap (drop 1) h.tokens in
    let same : y ≡ slash = grind (arith, nat_tests, goes) in
    let begun : rest p ≡ slash ∷ behind (rest p) = begins_is slash (rest p) (and_parts (begins slash (rest p)) (token_fits t (behind (rest p))) (rw same at fits)).0 in
    let whole : p ≡ part p ++ slash ∷ behind (rest p) = sym (part-rest p) ∙ ap (λ r. part p ++ r) begun in
    let taken : segment p ≡ part p ++ slash ∷ [] = ap segment whole ∙ segment-slash (part p) (behind (rest p)) (has_slash-part p) in
    rw (first, second, is_param, left, same, h.bytes, taken) (omega (arith, length-append (part p) (slash ∷ [])))

-- the part itself
part_is : (pattern path t p : List ℕ) (token at : ℕ) → Spot pattern path t p token at → part_of path at (at + length (part p)) ≡ part p
part_is pattern path t p token at h =
    let long = ap length (part-rest p) in
    let low : nat_le at (at + length (part p)) ≡ true = grind (arith, nat_tests) in
    let high : nat_le (at + length (part p)) (length path) ≡ true = grind (arith, nat_tests, h.within, long, length-append (part p) (rest p)) in
    let size : at + length (part p) - at ≡ length (part p) = omega arith in
    rw (low, high, size, h.bytes) (ap (take (length (part p))) (sym (part-rest p)) ∙ take_at (part p) (rest p) (length (part p)) refl)

-- behind the part
after_part : (pattern path t p : List ℕ) (token at : ℕ) → Spot pattern path (param_token ∷ t) p token at → Spot pattern path t (rest p) (after_token token) (at + length (part p))
after_part pattern path t p token at h =
    let long = ap length h.tokens in
    let next : after_token token ≡ token + 1 = omega (arith, h.short, length-drop token pattern) in
    record {
      tokens = rw next (sym (drop-drop 1 token pattern) ∙ ap (drop 1) h.tokens);
      bytes = sym (drop-drop (length (part p)) at path) ∙ (ap (drop (length (part p))) (h.bytes ∙ sym (part-rest p)) ∙ drop_at (part p) (rest p) (length (part p)) refl);
      within = omega (arith, h.within, ap length (part-rest p), length-append (part p) (rest p));
      short = h.short;
    }

-- the parts of a walk are those of the tokens
walk_parts : (t pattern text path p : List ℕ) (names : List (ℕ × ℕ)) (token at : ℕ) → Spot pattern path t p token at → is_strict t ≡ true → token_fits t p ≡ true → length names ≡ param_count t
    → map (λ n. n.1) (walk pattern text path names token at) ≡ token_parts t p
walk_parts [] pattern text path p [] token at h strict fits count = refl
walk_parts [] pattern text path p (name ∷ names) token at h strict fits count = absurd (omega (arith, count))
walk_parts (x ∷ t) pattern text path p names token at h strict fits count =
    by (x == param_token) refl strict fits count
    (λ p names token at h fits count. walk_parts t pattern text path p names token at h (tail_strict x t strict) fits count)
  where
    at_byte : (p : List ℕ) → Spot pattern path (x ∷ t) p token at → x < 128 → begins x p ≡ true → token_fits t (behind p) ≡ true
        → (Spot pattern path t (behind p) (token + 1) (at + 1) → map (λ n. n.1) (walk pattern text path names (token + 1) (at + 1)) ≡ token_parts t (behind p))
        → map (λ n. n.1) (walk pattern text path names token at) ≡ token_parts t (behind p)
    at_byte [] h low first fits more = absurd (let never : false ≡ true = first in search rules)
    at_byte (b ∷ p) h low first fits more = ap (map (λ n. n.1)) (walk_byte pattern text path t p names x b token at h low) ∙ more (after_byte pattern path t p x b token at h)

    at_name : (names : List (ℕ × ℕ)) → Spot pattern path (param_token ∷ t) p token at → goes_on t ≡ true → token_fits t (rest p) ≡ true → length names ≡ suc (param_count t)
        → ((names : List (ℕ × ℕ)) → length names ≡ param_count t → Spot pattern path t (rest p) (after_token token) (at + length (part p))
        → map (λ n. n.1) (walk pattern text path names (after_token token) (at + length (part p))) ≡ token_parts t (rest p))
        → map (λ n. n.1) (walk pattern text path names token at) ≡ part p ∷ token_parts t (rest p)
    at_name [] h goes fits count more = absurd (omega (arith, count))
    at_name (name ∷ names) h goes fits count more =
        let stop = stop_is pattern path t p token at h goes fits in
        let here = part_is pattern path (param_token ∷ t) p token at h in
        rw (h.tokens, stop, here) (ap (λ parts. part p ∷ parts) (more names (omega (arith, count)) (after_part pattern path t p token at h)))

    by : (v : Bool) → (x == param_token) ≡ v → (cond v (goes_on t) (nat_lt x 128) && is_strict t) ≡ true
        → cond v (is_some_text (part p) && token_fits t (rest p)) (begins x p && token_fits t (behind p)) ≡ true → length names ≡ cond v (suc (param_count t)) (param_count t)
        → ((p : List ℕ) (names : List (ℕ × ℕ)) (token at : ℕ) → Spot pattern path t p token at → token_fits t p ≡ true → length names ≡ param_count t
        → map (λ n. n.1) (walk pattern text path names token at) ≡ token_parts t p)
        → map (λ n. n.1) (walk pattern text path names token at) ≡ cond v (part p ∷ token_parts t (rest p)) (token_parts t (behind p))
    by true e strict fits count more =
        let same : x ≡ param_token = grind (arith, nat_tests) in
        let goes = (and_parts (goes_on t) (is_strict t) strict).0 in
        let both = and_parts (is_some_text (part p)) (token_fits t (rest p)) fits in
        at_name names (rw same at h) goes both.1 count (λ names count spot. more (rest p) names (after_token token) (at + length (part p)) spot both.1 count)
    by false e strict fits count more =
        let low : x < 128 = let test = (and_parts (nat_lt x 128) (is_strict t) strict).0 in grind (arith, nat_tests) in
        let both = and_parts (begins x p) (token_fits t (behind p)) fits in
        at_byte p h low both.0 both.1 (λ spot. more (behind p) names (token + 1) (at + 1) spot both.1 count)

-- what the parameters of a whole pattern took of a path
pub params_are : (pattern text path : List ℕ) (names : List (ℕ × ℕ)) → length pattern ≤ 1000 → is_strict pattern ≡ true → token_fits pattern path ≡ true → length names ≡ param_count pattern
    → map (λ n. n.1) (walk pattern text path names 0 0) ≡ token_parts pattern path
params_are pattern text path names short strict fits count =
    walk_parts pattern pattern text path path names 0 0 (record { tokens = refl; bytes = refl; within = omega arith; short = short }) strict fits count
