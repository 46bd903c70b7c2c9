-- Texts that JSON writes as they are, and arrays of texts.
use Rattle.std.specs.Prelude.{ℕ, Bool, not, ◌&&◌, ◌==◌, nat_le, List, [], ◌∷◌, ◌++◌, flat_map, codes}

-- a character that is written as it is: a space or above, and neither a quote nor a backslash
abbrev pub is_unescaped : ℕ → Bool
is_unescaped c = nat_le 32 c && (not (c == 34) && not (c == 92))

-- a text as it is
abbrev pub in_quotes : List ℕ → List ℕ
in_quotes text = codes "\"" ++ (text ++ codes "\"")

-- texts with commas between them
abbrev pub with_commas : List (List ℕ) → List ℕ
with_commas [] = []
with_commas (text ∷ texts) = text ++ flat_map (λ next. codes "," ++ next) texts

-- the array of such texts
abbrev pub in_brackets : List (List ℕ) → List ℕ
in_brackets texts = codes "[" ++ (with_commas texts ++ codes "]")
