-- Tables of patterns that a path can be looked up in.
use Rattle.std.specs.Prelude.{ℕ, Bool, false, not, ◌==◌, ◌&&◌, ◌||◌, nat_lt, nat_le, List, [], ◌∷◌, length, bytes_eq, if◌then◌else◌}
use Rattle.std.specs.Cmp.Lexicographic.{pointwise}
use Rattle.std.specs.List.{list_all}
use Rattle.path_table.specs.Segments.{segments, is_part_name}

-- an ASCII character, and none of `*`, `/`, `{` and `}`
abbrev pub is_plain_character : ℕ → Bool
is_plain_character c = nat_lt c 128 && not (c == 42 || (c == 47 || (c == 123 || c == 125)))

-- plain characters, and then the brace that closes the name
abbrev pub is_closed : List ℕ → Bool
is_closed [] = false
is_closed (c ∷ []) = c == 125
is_closed (c ∷ d ∷ rest) = is_plain_character c && is_closed (d ∷ rest)

-- a name in braces: there is something in it
abbrev pub is_name : List ℕ → Bool
is_name [] = false
is_name (c ∷ []) = false
is_name (c ∷ d ∷ rest) = is_plain_character d && is_closed rest

-- a segment of a pattern is a name in braces, or else plain characters
abbrev pub is_plain_segment : List ℕ → Bool
is_plain_segment segment = if is_part_name segment then is_name segment else list_all is_plain_character segment

-- a pattern is made of such segments, and is at most 1,000 bytes
abbrev pub is_plain : List ℕ → Bool
is_plain pattern = nat_le (length pattern) 1000 && list_all is_plain_segment (segments pattern)

-- one segment of a path can fit both
abbrev pub can_share : List ℕ → List ℕ → Bool
can_share a b = is_part_name a || (is_part_name b || bytes_eq a b)

-- one path can fit both patterns
abbrev pub can_meet : List ℕ → List ℕ → Bool
can_meet a b = pointwise can_share (segments a) (segments b)

-- two patterns are the same, or no path can fit both
abbrev pub are_apart : List ℕ → List ℕ → Bool
are_apart a b = bytes_eq a b || not (can_meet a b)

-- the patterns of a table are plain, and no path fits two different ones
abbrev pub is_sound : List (List ℕ) → Bool
is_sound patterns = list_all is_plain patterns && list_all (λ a. list_all (are_apart a) patterns) patterns
