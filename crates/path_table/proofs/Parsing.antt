-- What `matchit` reads in the text of a plain pattern: the tokens of its segments.
use Rattle.std.proofs.Common.{◌≡◌, ℕ, ◌+◌, ◌<◌, ◌≤◌, List, [], ◌∷◌, ◌++◌, length, Ok, None, Bool, true, false, cond, refl, sym, ap, ◌∙◌, arith, rules, ◌==◌, append_assoc, zero-add}
use Rattle.std.proofs.lemmas.Bool.{and_parts, not-true, or_parts}
use Rattle.std.proofs.lemmas.Bool.Decides.{nat_tests}
use Rattle.std.proofs.lemmas.List.{append-nil, length-append}
use Rattle.std.proofs.lemmas.List.Splits.{join_with_byte-slice_split}
use Rattle.std.specs.Prelude.{◌&&◌, nat_lt}
use Rattle.std.specs.List.{list_all, join_with_byte}
use Rattle.matchit.specs.Rows.{param_token, catch_all_token}
use Rattle.matchit.specs.Route.{Scan, scan, scan_start, parse_route, shape_error, outside, named, name_closed}
use Rattle.matchit.specs.Seek.{slash}
use Rattle.path_table.specs.Segments.{segments, is_part_name}
use Rattle.path_table.specs.Sound.{is_plain_character, is_closed, is_name, is_plain_segment}
use Rattle.path_table.proofs.Tokens.{goes_on, is_strict, param_count}
use Rattle.path_table.proofs.Patterns.{token_of, tokens, tokens_strict}

-- a scan with this read so far
abbrev scan_at : List ℕ → List ℕ → List (ℕ × ℕ) → ℕ → Bool → ℕ → Scan
scan_at p t names start all mode = record { pattern = p; text = t; names = names; name_start = start; catch_all = all; mode = mode }

-- a plain character is none of the four
record IsOther (c : ℕ) : Type 0 where
  low : c < 128
  star : (c == 42) ≡ false
  slash : (c == 47) ≡ false
  open_brace : (c == 123) ≡ false
  close_brace : (c == 125) ≡ false

other : (c : ℕ) → is_plain_character c ≡ true → IsOther c
other c h =
    let both = and_parts (nat_lt c 128) _ h in
    let first = or_parts (c == 42) _ (not-true _ both.1) in
    let second = or_parts (c == 47) _ first.1 in
    let third = or_parts (c == 123) _ second.1 in
    record { low = (let test = both.0 in grind (arith, nat_tests)); star = first.0; slash = second.0; open_brace = third.0; close_brace = third.1 }

-- plain text is read as it is
scan_text : (s p t : List ℕ) (names : List (ℕ × ℕ)) (start : ℕ) (all : Bool) (more : List ℕ) → list_all is_plain_character s ≡ true
    → scan (scan_at p t names start all outside) (s ++ more) ≡ scan (scan_at (p ++ s) (t ++ s) names start all outside) more
unfolding scan
scan_text [] p t names start all more plain = rw (append-nil p, append-nil t) refl
scan_text (c ∷ s) p t names start all more plain =
    let both = and_parts (is_plain_character c) (list_all is_plain_character s) plain in
    let is = other c both.0 in
    rw (is.open_brace, is.close_brace, ← (append_assoc p (c ∷ []) s), ← (append_assoc t (c ∷ []) s)) (scan_text s (p ++ c ∷ []) (t ++ c ∷ []) names start all more both.1)

-- a slash too
scan_slash : (p t : List ℕ) (names : List (ℕ × ℕ)) (start : ℕ) (all : Bool) (more : List ℕ)
    → scan (scan_at p t names start all outside) (slash ∷ more) ≡ scan (scan_at (p ++ slash ∷ []) (t ++ slash ∷ []) names start all outside) more
unfolding scan
scan_slash p t names start all more = refl

-- a character of a name
scan_character : (c : ℕ) (p t : List ℕ) (names : List (ℕ × ℕ)) (start : ℕ) (more : List ℕ) → IsOther c
    → scan (scan_at p t names start false named) (c ∷ more) ≡ scan (scan_at p (t ++ c ∷ []) names start false named) more
unfolding scan
scan_character c p t names start more is = rw (is.open_brace, is.close_brace, is.star, is.slash) refl

-- the rest of a name, up to its brace
scan_closed : (s p t : List ℕ) (names : List (ℕ × ℕ)) (start : ℕ) (more : List ℕ) → is_closed s ≡ true
    → (text : List ℕ) × (scan (scan_at p t names start false named) (s ++ more) ≡ scan (scan_at p text names start false name_closed) more)
unfolding scan
scan_closed [] p t names start more closed = absurd (let never : false ≡ true = closed in search rules)
scan_closed (c ∷ []) p t names start more closed = (t, rw closed refl)
scan_closed (c ∷ d ∷ s) p t names start more closed =
    let both = and_parts (is_plain_character c) (is_closed (d ∷ s)) closed in
    let again = scan_closed (d ∷ s) p (t ++ c ∷ []) names start more both.1 in
    (again.0, scan_character c p t names start (d ∷ (s ++ more)) (other c both.0) ∙ again.1)

-- the brace that opens a name, and the first character of the name
scan_opened : (b c : ℕ) (p t : List ℕ) (names : List (ℕ × ℕ)) (start : ℕ) (all : Bool) (more : List ℕ) → (b == 123) ≡ true → IsOther c
    → scan (scan_at p t names start all outside) (b ∷ c ∷ more) ≡ scan (scan_at p ((t ++ 123 ∷ []) ++ c ∷ []) names (length (t ++ 123 ∷ [])) false named) more
unfolding scan
scan_opened b c p t names start all more opens is = rw (opens, is.open_brace, is.close_brace, is.star) refl

-- a name
scan_name : (s p t : List ℕ) (names : List (ℕ × ℕ)) (start : ℕ) (all : Bool) (more : List ℕ) → is_part_name s ≡ true → is_name s ≡ true
    → (text : List ℕ) × (from : ℕ) × (scan (scan_at p t names start all outside) (s ++ more) ≡ scan (scan_at p text names from false name_closed) more)
scan_name [] p t names start all more opens closed = absurd (let never : false ≡ true = opens in search rules)
scan_name (b ∷ []) p t names start all more opens closed = absurd (let never : false ≡ true = closed in search rules)
scan_name (b ∷ c ∷ s) p t names start all more opens closed =
    let both = and_parts (is_plain_character c) (is_closed s) closed in
    let again = scan_closed s p ((t ++ 123 ∷ []) ++ c ∷ []) names (length (t ++ 123 ∷ [])) more both.1 in
    (again.0, length (t ++ 123 ∷ []), scan_opened b c p t names start all (s ++ more) opens (other c both.0) ∙ again.1)

-- behind a name the text ends, or a slash follows
name_ends : (p t : List ℕ) (names : List (ℕ × ℕ)) (start : ℕ)
    → scan (scan_at p t names start false name_closed) [] ≡ Ok (scan_at (p ++ param_token ∷ []) (t ++ 125 ∷ []) (names ++ (start, length t) ∷ []) start false outside)
unfolding scan
name_ends p t names start = refl

name_slash : (p t : List ℕ) (names : List (ℕ × ℕ)) (start : ℕ) (more : List ℕ)
    → scan (scan_at p t names start false name_closed) (slash ∷ more)
    ≡ scan (scan_at ((p ++ param_token ∷ []) ++ slash ∷ []) ((t ++ 125 ∷ []) ++ slash ∷ []) (names ++ (start, length t) ∷ []) start false outside) more
unfolding scan
name_slash p t names start more = refl

text_ends : (p t : List ℕ) (names : List (ℕ × ℕ)) (start : ℕ) (all : Bool) → scan (scan_at p t names start all outside) [] ≡ Ok (scan_at p t names start all outside)
unfolding scan
text_ends p t names start all = refl

-- ---- segments

-- a scan that read these tokens, and a name for each parameter of them
record Reads (start : Scan) (text t : List ℕ) : Type 0 where
  end : Scan
  read : scan start text ≡ Ok end
  pattern : end.pattern ≡ start.pattern ++ t
  names : length end.names ≡ length start.names + param_count t

text_count : (s t : List ℕ) → list_all is_plain_character s ≡ true → param_count (s ++ t) ≡ param_count t
text_count [] t plain = refl
text_count (c ∷ s) t plain =
    let both = and_parts (is_plain_character c) (list_all is_plain_character s) plain in
    let low = (other c both.0).low in
    let byte : (c == param_token) ≡ false = grind (arith, nat_tests) in
    rw byte (text_count s t both.1)

read_text : (s p t : List ℕ) (names : List (ℕ × ℕ)) (start : ℕ) (all : Bool) → list_all is_plain_character s ≡ true → Reads (scan_at p t names start all outside) s s
read_text s p t names start all plain =
    let none : param_count s ≡ 0 = sym (ap param_count (append-nil s)) ∙ text_count s [] plain in
    record {
      end = scan_at (p ++ s) (t ++ s) names start all outside;
      read = sym (ap (scan (scan_at p t names start all outside)) (append-nil s)) ∙ (scan_text s p t names start all [] plain ∙ text_ends (p ++ s) (t ++ s) names start all);
      pattern = refl;
      names = omega (arith, none);
    }

read_name : (s p t : List ℕ) (names : List (ℕ × ℕ)) (start : ℕ) (all : Bool) → is_part_name s ≡ true → is_name s ≡ true → Reads (scan_at p t names start all outside) s (param_token ∷ [])
read_name s p t names start all opens closed =
    let to = scan_name s p t names start all [] opens closed in
    record {
      end = scan_at (p ++ param_token ∷ []) (to.0 ++ 125 ∷ []) (names ++ (to.1, length to.0) ∷ []) to.1 false outside;
      read = sym (ap (scan (scan_at p t names start all outside)) (append-nil s)) ∙ (to.2 ∙ name_ends p to.0 names to.1);
      pattern = refl;
      names = length-append names ((to.1, length to.0) ∷ []);
    }

-- a segment, a slash and what follows
text_then : (s u rest p t : List ℕ) (names : List (ℕ × ℕ)) (start : ℕ) (all : Bool) → list_all is_plain_character s ≡ true
    → Reads (scan_at ((p ++ s) ++ slash ∷ []) ((t ++ s) ++ slash ∷ []) names start all outside) u rest → Reads (scan_at p t names start all outside) (s ++ slash ∷ u) (s ++ slash ∷ rest)
text_then s u rest p t names start all plain r =
    record {
      end = r.end;
      read = scan_text s p t names start all (slash ∷ u) plain ∙ (scan_slash (p ++ s) (t ++ s) names start all u ∙ r.read);
      pattern = r.pattern ∙ (append_assoc (p ++ s) (slash ∷ []) rest ∙ append_assoc p s (slash ∷ rest));
      names = r.names ∙ ap (λ n. length names + n) (sym (text_count s (slash ∷ rest) plain));
    }

name_then : (s u rest p t : List ℕ) (names : List (ℕ × ℕ)) (start : ℕ) (all : Bool) → is_part_name s ≡ true → is_name s ≡ true
    → ((p t : List ℕ) (names : List (ℕ × ℕ)) (start : ℕ) (all : Bool) → Reads (scan_at p t names start all outside) u rest)
    → Reads (scan_at p t names start all outside) (s ++ slash ∷ u) (param_token ∷ slash ∷ rest)
name_then s u rest p t names start all opens closed again =
    let to = scan_name s p t names start all (slash ∷ u) opens closed in
    let r = again ((p ++ param_token ∷ []) ++ slash ∷ []) ((to.0 ++ 125 ∷ []) ++ slash ∷ []) (names ++ (to.1, length to.0) ∷ []) to.1 false in
    record {
      end = r.end;
      read = to.2 ∙ (name_slash p to.0 names to.1 u ∙ r.read);
      pattern = r.pattern ∙ (append_assoc (p ++ param_token ∷ []) (slash ∷ []) rest ∙ append_assoc p (param_token ∷ []) (slash ∷ rest));
      names = r.names ∙ (ap (λ n. n + param_count rest) (length-append names ((to.1, length to.0) ∷ [])) ∙ omega arith);
    }

read_segments : (ss : List (List ℕ)) (p t : List ℕ) (names : List (ℕ × ℕ)) (start : ℕ) (all : Bool) → list_all is_plain_segment ss ≡ true → 0 < length ss
    → Reads (scan_at p t names start all outside) (join_with_byte slash ss) (tokens ss)
read_segments [] p t names start all plain some = absurd (omega (arith, some))
read_segments (s ∷ []) p t names start all plain some = by (is_part_name s) refl (and_parts (is_plain_segment s) true plain).0
  where
    by : (v : Bool) → is_part_name s ≡ v → cond v (is_name s) (list_all is_plain_character s) ≡ true → Reads (scan_at p t names start all outside) s (cond v (param_token ∷ []) s)
    by true opens closed = read_name s p t names start all opens closed
    by false opens plain = read_text s p t names start all plain
read_segments (s ∷ u ∷ ss) p t names start all plain some =
    let both = and_parts (is_plain_segment s) (list_all is_plain_segment (u ∷ ss)) plain in
    by (is_part_name s) refl both.0 (λ p t names start all. read_segments (u ∷ ss) p t names start all both.1 (omega arith))
  where
    by : (v : Bool) → is_part_name s ≡ v → cond v (is_name s) (list_all is_plain_character s) ≡ true
        → ((p t : List ℕ) (names : List (ℕ × ℕ)) (start : ℕ) (all : Bool) → Reads (scan_at p t names start all outside) (join_with_byte slash (u ∷ ss)) (tokens (u ∷ ss)))
        → Reads (scan_at p t names start all outside) (s ++ slash ∷ join_with_byte slash (u ∷ ss)) (cond v (param_token ∷ []) s ++ slash ∷ tokens (u ∷ ss))
    by true opens closed again = name_then s (join_with_byte slash (u ∷ ss)) (tokens (u ∷ ss)) p t names start all opens closed again
    by false opens plain again =
        text_then s (join_with_byte slash (u ∷ ss)) (tokens (u ∷ ss)) p t names start all plain
        (again ((p ++ s) ++ slash ∷ []) ((t ++ s) ++ slash ∷ []) names start all)

-- ---- the whole pattern

-- nothing is wrong with strict tokens
shape_is_good : (t : List ℕ) → is_strict t ≡ true → shape_error t ≡ None
shape_is_good [] strict = refl
shape_is_good (x ∷ t) strict = by (x == param_token) refl strict (shape_is_good t)
  where
    by : (v : Bool) → (x == param_token) ≡ v → (cond v (goes_on t) (nat_lt x 128) && is_strict t) ≡ true → (is_strict t ≡ true → shape_error t ≡ None) → shape_error (x ∷ t) ≡ None
    by true e strict more =
        let both = and_parts (goes_on t) (is_strict t) strict in
        let same : x ≡ param_token = grind (arith, nat_tests) in
        rw same (behind t both.0 (more both.1))
      where
        behind : (t : List ℕ) → goes_on t ≡ true → shape_error t ≡ None → shape_error (param_token ∷ t) ≡ None
        behind [] goes none = refl
        behind (y ∷ t) goes none =
            let same : y ≡ slash = grind (arith, nat_tests, goes) in
            rw same (rw same at none)
    by false e strict more =
        let both = and_parts (nat_lt x 128) (is_strict t) strict in
        let low : nat_lt catch_all_token x ≡ false = let test = both.0 in grind (arith, nat_tests) in
        let byte : (x == catch_all_token) ≡ false = let test = both.0 in grind (arith, nat_tests) in
        rw (low, e, byte) (more both.1)

-- there are no more tokens than bytes
token_short : (s : List ℕ) → length (token_of s) ≤ length s
token_short [] = omega arith
token_short (c ∷ s) = by (c == 123)
  where
    by : (v : Bool) → length (cond {A = List ℕ} v (param_token ∷ []) (c ∷ s)) ≤ length (c ∷ s)
    by true = omega arith
    by false = omega arith

tokens_short : (ss : List (List ℕ)) → length (tokens ss) ≤ length (join_with_byte slash ss)
tokens_short [] = omega arith
tokens_short (s ∷ []) = token_short s
tokens_short (s ∷ u ∷ ss) =
    omega (arith, token_short s, tokens_short (u ∷ ss), length-append (token_of s) (slash ∷ tokens (u ∷ ss)), length-append s (slash ∷ join_with_byte slash (u ∷ ss)))

-- what is read of a plain pattern
pub record IsRead (pattern : List ℕ) (s : Scan) : Type 0 where
  pub read : parse_route pattern ≡ Ok s
  pub pattern_is : s.pattern ≡ tokens (segments pattern)
  pub count : length s.names ≡ param_count (tokens (segments pattern))
  pub short : length s.pattern ≤ length pattern

pub plain_read : (pattern : List ℕ) → list_all is_plain_segment (segments pattern) ≡ true → 0 < length (segments pattern) → (s : Scan) × IsRead pattern s
plain_read pattern plain some =
    let r = read_segments (segments pattern) [] [] [] 0 false plain some in
    let text : scan scan_start pattern ≡ Ok r.end = ap (scan scan_start) (sym (join_with_byte-slice_split slash pattern)) ∙ r.read in
    let good : shape_error r.end.pattern ≡ None = rw r.pattern (shape_is_good (tokens (segments pattern)) (tokens_strict (segments pattern) plain)) in (
      r.end,
      record {
        read = rw (text, good) refl;
        pattern_is = r.pattern;
        count = r.names ∙ zero-add (param_count (tokens (segments pattern)));
        short = omega (arith, ap length r.pattern, tokens_short (segments pattern), ap length (join_with_byte-slice_split slash pattern));
      },
    )
