-- Texts that JSON writes as they are.
use Rattle.std.proofs.Common.{◌≡◌, ℕ, ◌<◌, List, [], ◌∷◌, drop, All, true, false, not, refl, ap, arith, ◌==◌}
use Rattle.std.proofs.lemmas.Bool.{and_parts, not-true}
use Rattle.std.proofs.lemmas.Bool.Decides.{nat_tests}
use Rattle.std.proofs.lemmas.List.Elements.{All-head, All-tail}
use Rattle.std.specs.List.{list_all}
use Rattle.std.specs.Prelude.{nat_le, nat_lt}
use Rattle.serde_json.specs.Data.{string}
use Rattle.serde_json.specs.Written.{compact_text}
use Rattle.serde_json.proofs.OnLiterals.{serde_json_on_literals}
use Rattle.td_answers.specs.Unescaped.{is_unescaped, in_quotes}

-- what follows such a character in a text is written behind it
written_next : (c : ℕ) (text : List ℕ) → is_unescaped c ≡ true → compact_text (string text) ≡ in_quotes text → compact_text (string (c ∷ text)) ≡ in_quotes (c ∷ text)
unfolding serde_json_on_literals
written_next c text plain rest =
    let parts = and_parts (nat_le 32 c) _ plain in
    let others = and_parts (not (c == 34)) (not (c == 92)) parts.1 in
    let low : nat_le 32 c ≡ true = parts.0 in
    let quote : (c == 34) ≡ false = not-true _ others.0 in
    let slash : (c == 92) ≡ false = not-true _ others.1 in
    let backspace : (c == 8) ≡ false = grind (arith, nat_tests) in
    let feed : (c == 12) ≡ false = grind (arith, nat_tests) in
    let line : (c == 10) ≡ false = grind (arith, nat_tests) in
    let carriage : (c == 13) ≡ false = grind (arith, nat_tests) in
    let tab : (c == 9) ≡ false = grind (arith, nat_tests) in
    let control : nat_lt c 32 ≡ false = grind (arith, nat_tests) in
    rw (quote, slash, backspace, feed, line, carriage, tab, control) (ap (λ t. 34 ∷ c ∷ drop 1 t) rest)

-- a text of such characters is written as it is
pub written_text : (text : List ℕ) → list_all is_unescaped text ≡ true → compact_text (string text) ≡ in_quotes text
written_text [] h = refl
written_text (c ∷ text) h =
    let both = and_parts (is_unescaped c) (list_all is_unescaped text) h in
    written_next c text both.0 (written_text text both.1)

-- so is a text of characters of a class that has only such ones
pub written_class : (P : ℕ → Type 0) → ((c : ℕ) → P c → is_unescaped c ≡ true) → (text : List ℕ) → All P text → compact_text (string text) ≡ in_quotes text
written_class P each text all = written_text text (every text all)
  where
    every : (text : List ℕ) → All P text → list_all is_unescaped text ≡ true
    every [] all = refl
    every (c ∷ text) all = rw (each c (All-head P c text all), every text (All-tail P c text all)) refl

-- a character between the quote and the backslash
pub between : (c : ℕ) → 34 < c → c < 92 → is_unescaped c ≡ true
between c low high =
    let above : nat_le 32 c ≡ true = grind (arith, nat_tests) in
    let quote : (c == 34) ≡ false = grind (arith, nat_tests) in
    let slash : (c == 92) ≡ false = grind (arith, nat_tests) in
    rw (above, quote, slash) refl

-- or above the backslash
pub beyond : (c : ℕ) → 92 < c → is_unescaped c ≡ true
beyond c low =
    let above : nat_le 32 c ≡ true = grind (arith, nat_tests) in
    let quote : (c == 34) ≡ false = grind (arith, nat_tests) in
    let slash : (c == 92) ≡ false = grind (arith, nat_tests) in
    rw (above, quote, slash) refl
