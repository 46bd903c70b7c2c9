-- A pattern's tokens fit a path as its segments do, and take the same parts.
use Rattle.std.proofs.Common.{◌≡◌, ℕ, ◌<◌, List, [], ◌∷◌, ◌++◌, length, map, filter, Bool, true, false, cond, refl, sym, ap, ◌∙◌, arith, rules, ◌==◌}
use Rattle.std.proofs.lemmas.Bool.{and_parts, and_from, not-true, or_parts}
use Rattle.std.proofs.lemmas.Bool.Decides.{nat_tests}
use Rattle.std.proofs.lemmas.List.{append-nil}
use Rattle.std.specs.Prelude.{◌&&◌, nat_lt, bytes_eq}
use Rattle.std.specs.Cmp.Lexicographic.{pointwise, bytes_decides}
use Rattle.std.specs.List.{list_all, zip, onto_first}
use Rattle.matchit.specs.Rows.{param_token}
use Rattle.matchit.specs.Seek.{slash}
use Rattle.path_table.specs.Segments.{segments, is_some_text, is_part_name, segment_fits}
use Rattle.path_table.specs.Sound.{is_plain_character, is_name, is_plain_segment}
use Rattle.path_table.proofs.Tokens.{part, rest, is_none, begins, behind, token_fits, goes_on, is_strict, RestIs, at_end, at_slash, rest_is, part-rest, token_parts}

-- the tokens of a segment, and of segments
abbrev pub token_of : List ℕ → List ℕ
token_of s = cond (is_part_name s) (param_token ∷ []) s

abbrev pub tokens : List (List ℕ) → List ℕ
tokens [] = []
tokens (s ∷ []) = token_of s
tokens (s ∷ u ∷ ss) = token_of s ++ slash ∷ tokens (u ∷ ss)

-- ---- characters

plain_low : (c : ℕ) → is_plain_character c ≡ true → c < 128
plain_low c h = let test = (and_parts (nat_lt c 128) _ h).0 in grind (arith, nat_tests)

plain_no_slash : (c : ℕ) → is_plain_character c ≡ true → (c == slash) ≡ false
plain_no_slash c h =
    let other = not-true _ (and_parts (nat_lt c 128) _ h).1 in
    (or_parts (c == 47) _ (or_parts (c == 42) _ other).1).0

-- ---- the segments of a path

-- the segments behind the first
abbrev pub later : List ℕ → List (List ℕ)
later [] = []
later (c ∷ more) = segments more

pub segments_are : (path : List ℕ) → segments path ≡ part path ∷ later (rest path)
segments_are [] = refl
segments_are (b ∷ path) = by (b == slash) (segments_are path)
  where
    by : (v : Bool) → segments path ≡ part path ∷ later (rest path) → cond v ([] ∷ segments path) (onto_first b (segments path)) ≡ cond v [] (b ∷ part path) ∷ later (cond v (b ∷ path) (rest path))
    by true is = refl
    by false is = rw is refl

-- there is always a segment
pub some_segment : (path : List ℕ) → 0 < length (segments path)
some_segment path = rw (segments_are path) (omega arith)

-- ---- one segment

-- text of plain characters fits a path's first part where it is that part
text_fits : (s t path : List ℕ) → list_all is_plain_character s ≡ true → goes_on t ≡ true → token_fits (s ++ t) path ≡ bytes_eq s (part path) && token_fits t (rest path)
text_fits [] [] [] plain goes = refl
text_fits [] [] (b ∷ path) plain goes = by (b == slash)
  where
    by : (v : Bool) → false ≡ bytes_eq [] (cond v [] (b ∷ part path)) && is_none (cond v (b ∷ path) (rest path))
    by true = refl
    by false = refl
text_fits [] (y ∷ t) path plain goes =
    let same : y ≡ slash = grind (arith, nat_tests, goes) in
    let byte : (y == param_token) ≡ false = grind (arith, nat_tests) in
    rw byte (by path (λ b other. let differs : (y == b) ≡ false = grind (arith, nat_tests) in differs))
  where
    by : (path : List ℕ) → ((b : ℕ) → (b == slash) ≡ false → (y == b) ≡ false)
        → (begins y path && token_fits t (behind path)) ≡ (bytes_eq [] (part path) && (begins y (rest path) && token_fits t (behind (rest path))))
    by [] differs = refl
    by (b ∷ path) differs = at (b == slash) refl
      where
        at : (v : Bool) → (b == slash) ≡ v
            → ((y == b) && token_fits t path) ≡ (bytes_eq [] (cond v [] (b ∷ part path)) && (begins y (cond v (b ∷ path) (rest path)) && token_fits t (behind (cond v (b ∷ path) (rest path)))))
        at true e = refl
        at false e = rw (differs b e) refl
text_fits (c ∷ s) t path plain goes =
    let both = and_parts (is_plain_character c) (list_all is_plain_character s) plain in
    let low = plain_low c both.0 in
    let byte : (c == param_token) ≡ false = grind (arith, nat_tests) in
    rw byte (by path (plain_no_slash c both.0) (λ path. text_fits s t path both.1 goes))
  where
    by : (path : List ℕ) → (c == slash) ≡ false → ((path : List ℕ) → token_fits (s ++ t) path ≡ (bytes_eq s (part path) && token_fits t (rest path)))
        → (begins c path && token_fits (s ++ t) (behind path)) ≡ (bytes_eq (c ∷ s) (part path) && token_fits t (rest path))
    by [] other more = refl
    by (b ∷ path) other more = at (b == slash) refl
      where
        split : (v : Bool) → (v && token_fits (s ++ t) path) ≡ ((v && bytes_eq s (part path)) && token_fits t (rest path))
        split true = more path
        split false = refl

        at : (v : Bool) → (b == slash) ≡ v → ((c == b) && token_fits (s ++ t) path) ≡ (bytes_eq (c ∷ s) (cond v [] (b ∷ part path)) && token_fits t (cond v (b ∷ path) (rest path)))
        at true e =
            let differs : (c == b) ≡ false = grind (arith, nat_tests) in
            rw differs refl
        at false e = split (c == b)

-- a segment's tokens fit a path where the segment fits its first part
segment_tokens : (s t path : List ℕ) → is_plain_segment s ≡ true → goes_on t ≡ true → token_fits (token_of s ++ t) path ≡ (segment_fits s (part path) && token_fits t (rest path))
segment_tokens s t path plain goes = by (is_part_name s) plain
  where
    by : (v : Bool) → cond v (is_name s) (list_all is_plain_character s) ≡ true
        → token_fits (cond v (param_token ∷ []) s ++ t) path ≡ (cond v (is_some_text (part path)) (bytes_eq s (part path)) && token_fits t (rest path))
    by true plain = refl
    by false plain = text_fits s t path plain goes

-- ---- all segments

pub tokens_fit : (ss : List (List ℕ)) (path : List ℕ) → list_all is_plain_segment ss ≡ true → (0 < length ss) → token_fits (tokens ss) path ≡ pointwise segment_fits ss (segments path)
tokens_fit [] path plain some = absurd (omega (arith, some))
tokens_fit (s ∷ []) path plain some =
    let here = (and_parts (is_plain_segment s) true plain).0 in
    let alone = segment_tokens s [] path here refl in
    rw (segments_are path, ← (append-nil (token_of s))) (alone ∙ ap (λ v. segment_fits s (part path) && v) (nothing_more (rest path)))
  where
    nothing_more : (more : List ℕ) → is_none more ≡ pointwise segment_fits [] (later more)
    nothing_more [] = refl
    nothing_more (c ∷ more) = rw (segments_are more) refl
tokens_fit (s ∷ u ∷ ss) path plain some =
    let both = and_parts (is_plain_segment s) (list_all is_plain_segment (u ∷ ss)) plain in
    let here = segment_tokens s (slash ∷ tokens (u ∷ ss)) path both.0 refl in
    rw (segments_are path) (here ∙ ap (λ v. segment_fits s (part path) && v) (more_segments (λ path. tokens_fit (u ∷ ss) path both.1 (omega arith)) (rest_is path)))
  where
    more_segments : ((path : List ℕ) → token_fits (tokens (u ∷ ss)) path ≡ pointwise segment_fits (u ∷ ss) (segments path)) → RestIs path
        → token_fits (slash ∷ tokens (u ∷ ss)) (rest path) ≡ pointwise segment_fits (u ∷ ss) (later (rest path))
    more_segments again (at_end none) = rw none refl
    more_segments again (at_slash more is) = rw is (again more)

-- ---- parts

-- the parts of segments
abbrev pub segment_parts : List (List ℕ) → List (List ℕ) → List (List ℕ)
segment_parts ss us = map (λ p. p.1) (filter (λ p. is_part_name p.0) (zip ss us))

-- text takes no part
text_parts : (s t path : List ℕ) → list_all is_plain_character s ≡ true → bytes_eq s (part path) ≡ true → token_parts (s ++ t) path ≡ token_parts t (rest path)
text_parts s t path plain same =
    let is : s ≡ part path = (bytes_decides s (part path)).0 same in
    ap (token_parts (s ++ t)) (sym (part-rest path) ∙ ap (λ q. q ++ rest path) (sym is)) ∙ past s plain
  where
    past : (s : List ℕ) → list_all is_plain_character s ≡ true → token_parts (s ++ t) (s ++ rest path) ≡ token_parts t (rest path)
    past [] plain = refl
    past (c ∷ s) plain =
        let both = and_parts (is_plain_character c) (list_all is_plain_character s) plain in
        let low = plain_low c both.0 in
        let byte : (c == param_token) ≡ false = grind (arith, nat_tests) in
        rw byte (past s both.1)

-- a segment takes a part where it names one
segment_takes : (s t path : List ℕ) → is_plain_segment s ≡ true → segment_fits s (part path) ≡ true
    → token_parts (token_of s ++ t) path ≡ cond (is_part_name s) (part path ∷ token_parts t (rest path)) (token_parts t (rest path))
segment_takes s t path plain fits = by (is_part_name s) plain fits
  where
    by : (v : Bool) → cond v (is_name s) (list_all is_plain_character s) ≡ true → cond v (is_some_text (part path)) (bytes_eq s (part path)) ≡ true
        → token_parts (cond v (param_token ∷ []) s ++ t) path ≡ cond v (part path ∷ token_parts t (rest path)) (token_parts t (rest path))
    by true plain fits = refl
    by false plain fits = text_parts s t path plain fits

pub tokens_take : (ss : List (List ℕ)) (path : List ℕ) → list_all is_plain_segment ss ≡ true → pointwise segment_fits ss (segments path) ≡ true → token_parts (tokens ss) path ≡ segment_parts ss (segments path)
tokens_take [] path plain fits = refl
tokens_take (s ∷ []) path plain fits =
    let here = (and_parts (is_plain_segment s) true plain).0 in
    let first = (and_parts (segment_fits s (part path)) _ (rw (segments_are path) at fits)).0 in
    rw (segments_are path, ← (append-nil (token_of s))) (segment_takes s [] path here first ∙ by (is_part_name s))
  where
    by : (v : Bool) → cond v (part path ∷ []) [] ≡ map (λ (p : List ℕ × List ℕ). p.1) (cond v ((s, part path) ∷ []) [])
    by true = refl
    by false = refl
tokens_take (s ∷ u ∷ ss) path plain fits =
    let both = and_parts (is_plain_segment s) (list_all is_plain_segment (u ∷ ss)) plain in
    let parted = and_parts (segment_fits s (part path)) (pointwise segment_fits (u ∷ ss) (later (rest path))) (rw (segments_are path) at fits) in
    rw (segments_are path)
    (segment_takes s (slash ∷ tokens (u ∷ ss)) path both.0 parted.0
    ∙ by (is_part_name s) (more_parts (λ path fits. tokens_take (u ∷ ss) path both.1 fits) (rest_is path) parted.1))
  where
    more_parts : ((path : List ℕ) → pointwise segment_fits (u ∷ ss) (segments path) ≡ true → token_parts (tokens (u ∷ ss)) path ≡ segment_parts (u ∷ ss) (segments path)) → RestIs path
        → pointwise segment_fits (u ∷ ss) (later (rest path)) ≡ true → token_parts (slash ∷ tokens (u ∷ ss)) (rest path) ≡ segment_parts (u ∷ ss) (later (rest path))
    more_parts again (at_end none) fits = absurd (let never : false ≡ true = rw none at fits in search rules)
    more_parts again (at_slash more is) fits = rw is (again more (rw is at fits))

    by : (v : Bool) → token_parts (slash ∷ tokens (u ∷ ss)) (rest path) ≡ segment_parts (u ∷ ss) (later (rest path))
        → cond v (part path ∷ token_parts (slash ∷ tokens (u ∷ ss)) (rest path)) (token_parts (slash ∷ tokens (u ∷ ss)) (rest path))
        ≡ map (λ (p : List ℕ × List ℕ). p.1) (cond v ((s, part path) ∷ filter (λ p. is_part_name p.0) (zip (u ∷ ss) (later (rest path)))) (filter (λ p. is_part_name p.0) (zip (u ∷ ss) (later (rest path)))))
    by true same = ap (λ parts. part path ∷ parts) same
    by false same = same

-- ---- strict tokens

text_strict : (s t : List ℕ) → list_all is_plain_character s ≡ true → is_strict t ≡ true → is_strict (s ++ t) ≡ true
text_strict [] t plain strict = strict
text_strict (c ∷ s) t plain strict =
    let both = and_parts (is_plain_character c) (list_all is_plain_character s) plain in
    let low = plain_low c both.0 in
    let byte : (c == param_token) ≡ false = grind (arith, nat_tests) in
    let test : nat_lt c 128 ≡ true = grind (arith, nat_tests) in
    rw (byte, test) (text_strict s t both.1 strict)

segment_strict : (s t : List ℕ) → is_plain_segment s ≡ true → goes_on t ≡ true → is_strict t ≡ true → is_strict (token_of s ++ t) ≡ true
segment_strict s t plain goes strict = by (is_part_name s) plain
  where
    by : (v : Bool) → cond v (is_name s) (list_all is_plain_character s) ≡ true → is_strict (cond v (param_token ∷ []) s ++ t) ≡ true
    by true plain = and_from _ _ goes strict
    by false plain = text_strict s t plain strict

pub tokens_strict : (ss : List (List ℕ)) → list_all is_plain_segment ss ≡ true → is_strict (tokens ss) ≡ true
tokens_strict [] plain = refl
tokens_strict (s ∷ []) plain = rw (← (append-nil (token_of s))) (segment_strict s [] (and_parts (is_plain_segment s) true plain).0 refl refl)
tokens_strict (s ∷ u ∷ ss) plain =
    let both = and_parts (is_plain_segment s) (list_all is_plain_segment (u ∷ ss)) plain in
    segment_strict s (slash ∷ tokens (u ∷ ss)) both.0 refl (tokens_strict (u ∷ ss) both.1)
