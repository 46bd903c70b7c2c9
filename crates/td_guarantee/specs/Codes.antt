-- The access codes of a guarantee.
use Rattle.std.specs.Prelude.{ℕ, List, [], ◌∷◌, ◌++◌, filter, Bool, not}
use Rattle.std.specs.Ordering.{nat_cmp, is_lt}
use Rattle.std.specs.Str.{bytes_eq}
use Rattle.std.specs.Cmp.Lexicographic.{slice_cmp}
use Rattle.std.specs.List.Sorted.{IsStrictlySortedBy}
use Rattle.td_guarantee.specs.declared.codes.Items.{Items}
use Rattle.td_guarantee.specs.declared.codes.Items.TheVariants.{One, Many}

-- the most access codes of a guarantee
abbrev pub most_codes : ℕ
most_codes = 20

-- they stand in ascending order of their characters, no two alike
abbrev pub AreAscending : List (List ℕ) → Type 0
AreAscending codes = IsStrictlySortedBy (slice_cmp nat_cmp) codes

-- a code stands before another
abbrev pub is_before : List ℕ → List ℕ → Bool
is_before a b = is_lt (slice_cmp nat_cmp a b)

-- the codes with this one: those before it, itself, and those behind it
abbrev pub with_code : List ℕ → List (List ℕ) → List (List ℕ)
with_code code codes = filter (λ c. is_before c code) codes ++ code ∷ filter (λ c. is_before code c) codes

-- the codes without this one
abbrev pub without_code : List ℕ → List (List ℕ) → List (List ℕ)
without_code code codes = filter (λ c. not (bytes_eq c code)) codes

-- the codes as they are kept: one that stands alone, or those of a list
abbrev pub codes_kept : Items → List (List ℕ)
codes_kept (One code) = code ∷ []
codes_kept (Many codes) = codes.items
