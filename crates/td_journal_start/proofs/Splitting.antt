-- A text is split behind its last line feed in one way, and so is its last line.
use Rattle.std.proofs.Common.{◌≡◌, ◌⊎◌, ℕ, ◌+◌, ◌-◌, ◌<◌, ◌≤◌, ◌==◌, List, [], ◌∷◌, ◌++◌, length, take, drop, get_or, false, inl, inr, refl, sym, ap, subst, ◌∙◌, arith, append_assoc, length-append}
use Rattle.std.proofs.lemmas.Bool.{cases_lt}
use Rattle.std.proofs.lemmas.List.{append_cancel_right, drop_at, get_or-append-add, get_or-append_right, take_at}
use Rattle.std.proofs.lemmas.List.Elements.{All-get_or}
use Rattle.td_journal_rows.specs.Rows.{HasNoLineFeed}
use Rattle.td_journal_rows.specs.Rows.{IsOneLine}
use Rattle.td_journal_start.specs.Texts.{HasLast, IsWhole}

-- whole lines end with a line feed
last_feed : (a b : List ℕ) → IsWhole a → 0 < length a → get_or (a ++ b) (length a - 1) 0 ≡ 10
last_feed a b (inl none) some = absurd (let size : length a ≡ 0 = ap length none in omega (arith, size, some))
last_feed a b (inr (before, is)) some =
    let size : length a ≡ length before + 1 = ap length is ∙ length-append before (10 ∷ []) in
    let place : length a - 1 ≡ length before + 0 = omega (arith, size) in
    let all : a ++ b ≡ before ++ 10 ∷ b = ap (λ (t : List ℕ). t ++ b) is ∙ append_assoc before (10 ∷ []) b in
    ap (λ (t : List ℕ). get_or t (length a - 1) 0) all ∙ (ap (λ n. get_or (before ++ 10 ∷ b) n 0) place ∙ get_or-append-add before (10 ∷ b) 0 0)

-- none stands where there is none
no_feed : (c d : List ℕ) (i : ℕ) → HasNoLineFeed d → length c ≤ i → i < length c + length d → get_or (c ++ d) i 0 ≡ 10 → ⊥
no_feed c d i none from within is =
    let place : get_or d (i - length c) 0 ≡ 10 = sym (get_or-append_right c d (length c) i 0 refl from) ∙ is in
    let no : (get_or d (i - length c) 0 == 10) ≡ false = All-get_or (λ c. (c == 10) ≡ false) d (i - length c) 0 (omega (arith, from, within)) none in
    let bad : (10 == 10) ≡ false = subst (λ (n : ℕ). (n == 10) ≡ false) place no in
    cc

no_longer : (a b c d : List ℕ) → a ++ b ≡ c ++ d → IsWhole a → HasNoLineFeed d → length a ≤ length c
no_longer a b c d same whole none =
    elim (cases_lt (length c) (length a)) [
      | inl more ↦
          let size : length a + length b ≡ length c + length d = sym (length-append a b) ∙ (ap length same ∙ length-append c d) in
          absurd (no_feed c d (length a - 1) none (omega (arith, more)) (omega (arith, more, size))
          (ap (λ (t : List ℕ). get_or t (length a - 1) 0) (sym same) ∙ last_feed a b whole (omega (arith, more))))
      | inr less ↦ less
    ]

pub split_once : (a b c d : List ℕ) → a ++ b ≡ c ++ d → IsWhole a → HasNoLineFeed b → IsWhole c → HasNoLineFeed d → (a ≡ c) × (b ≡ d)
split_once a b c d same whole none other_whole other_none =
    let size : length a ≡ length c = omega (arith, no_longer a b c d same whole other_none, no_longer c d a b (sym same) other_whole none) in (
      sym (take_at a b (length a) refl) ∙ (ap (take (length a)) same ∙ take_at c d (length a) (sym size)),
      sym (drop_at a b (length a) refl) ∙ (ap (drop (length a)) same ∙ drop_at c d (length a) (sym size)),
    )

-- a line is some bytes
pub some_line : (line : List ℕ) → IsOneLine line → 0 < length line
some_line line one = let size : length line ≡ length one.front + 1 = ap length one.line_is ∙ length-append one.front (10 ∷ []) in omega (arith, size)

-- and whole, behind whatever stands before it
pub line_whole : (before line : List ℕ) → IsOneLine line → IsWhole (before ++ line)
line_whole before line one = inr (before ++ one.front, ap (λ (t : List ℕ). before ++ t) one.line_is ∙ sym (append_assoc before one.front (10 ∷ [])))

-- the last line of whole lines
pub line_once : (a x b y : List ℕ) → a ++ x ≡ b ++ y → IsWhole a → IsWhole b → IsOneLine x → IsOneLine y → (a ≡ b) × (x ≡ y)
line_once a x b y same whole other_whole one other =
    let left : (a ++ one.front) ++ 10 ∷ [] ≡ (b ++ other.front) ++ 10 ∷ [] =
    append_assoc a one.front (10 ∷ []) ∙ (ap (λ (t : List ℕ). a ++ t) (sym one.line_is)
    ∙ (same ∙ (ap (λ (t : List ℕ). b ++ t) other.line_is ∙ sym (append_assoc b other.front (10 ∷ []))))) in
    let both = split_once a one.front b other.front (append_cancel_right (a ++ one.front) (b ++ other.front) (10 ∷ []) left) whole one.none other_whole other.none in
    (both.0, one.line_is ∙ (ap (λ (t : List ℕ). t ++ 10 ∷ []) both.1 ∙ sym other.line_is))

-- the last line, what stands before it and what stands behind it
abbrev pub Same : List ℕ → List ℕ → List ℕ → List ℕ → List ℕ → List ℕ → Type 0
Same before line torn b l t = (before ≡ b) × (line ≡ l) × (torn ≡ t)

pub last_once : (bytes before line torn b l t : List ℕ) → HasLast bytes before line torn → HasLast bytes b l t → Same before line torn b l t
last_once bytes before line torn b l t one two =
    let both = split_once (before ++ line) torn (b ++ l) t (sym one.split.bytes_are ∙ two.split.bytes_are) one.split.whole one.split.none two.split.whole two.split.none in
    by both.0 both.1 one.line_is two.line_is
  where
    by : before ++ line ≡ b ++ l → torn ≡ t → IsOneLine line ⊎ ((before ≡ []) × (line ≡ [])) → IsOneLine l ⊎ ((b ≡ []) × (l ≡ [])) → Same before line torn b l t
    by same rest (inl x) (inl y) = let lines = line_once before line b l same one.before_whole two.before_whole x y in (lines.0, lines.1, rest)
    by same rest (inl x) (inr none) =
        let size : length before + length line ≡ 0 = sym (length-append before line) ∙ (ap length same ∙ (length-append b l ∙ (let first : length b ≡ 0 = ap length none.0 in let second : length l ≡ 0 = ap length none.1 in omega (arith, first, second)))) in
        absurd (omega (arith, size, some_line line x))
    by same rest (inr none) (inl y) =
        let size : length b + length l ≡ 0 = sym (length-append b l) ∙ (ap length (sym same) ∙ (length-append before line ∙ (let first : length before ≡ 0 = ap length none.0 in let second : length line ≡ 0 = ap length none.1 in omega (arith, first, second)))) in
        absurd (omega (arith, size, some_line l y))
    by same rest (inr none) (inr other) = (none.0 ∙ sym other.0, none.1 ∙ sym other.1, rest)
