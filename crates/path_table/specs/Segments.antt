-- A path and a pattern of paths, compared segment by segment.
use Rattle.std.specs.Prelude.{ℕ, Bool, true, false, ◌==◌, List, [], ◌∷◌, map, filter, bytes_eq, if◌then◌else◌}
use Rattle.std.specs.Cmp.Lexicographic.{pointwise}
use Rattle.std.specs.List.{slice_split, zip}

-- the segments of a path: what stands between its slashes
abbrev pub segments : List ℕ → List (List ℕ)
segments path = slice_split (λ c. c == 47) path

-- there is something in it
abbrev pub is_some_text : List ℕ → Bool
is_some_text [] = false
is_some_text (c ∷ text) = true

-- a segment of a pattern that names a part stands in braces
abbrev pub is_part_name : List ℕ → Bool
is_part_name [] = false
is_part_name (c ∷ name) = c == 123

-- a segment of a path fits one of a pattern: where that names a part it isn't empty, and else it is the same text
abbrev pub segment_fits : List ℕ → List ℕ → Bool
segment_fits pattern segment = if is_part_name pattern then is_some_text segment else bytes_eq pattern segment

-- a path fits a pattern: it has as many segments, and each of them fits
abbrev pub fits : List ℕ → List ℕ → Bool
fits pattern path = pointwise segment_fits (segments pattern) (segments path)

-- the parts of a path: its segments that a pattern names, from left to right
abbrev pub parts_of : List ℕ → List ℕ → List (List ℕ)
parts_of pattern path = map (λ p. p.1) (filter (λ p. is_part_name p.0) (zip (segments pattern) (segments path)))
