-- How the tokens of a pattern fit a path, as `matchit` has them: a byte, or a parameter, which takes what stands before the next slash.
use Rattle.std.proofs.Common.{◌≡◌, ℕ, suc, ◌==◌, List, [], ◌∷◌, ◌++◌, Bool, true, false, cond, refl, ap, arith}
use Rattle.std.proofs.lemmas.Bool.Decides.{nat_tests}
use Rattle.std.specs.Prelude.{◌&&◌, nat_lt}
use Rattle.matchit.specs.Rows.{param_token}
use Rattle.matchit.specs.Seek.{slash, has_slash}
use Rattle.path_table.specs.Segments.{is_some_text}

-- what stands before the first slash, and what stands from it on
abbrev pub part : List ℕ → List ℕ
part [] = []
part (b ∷ path) = cond (b == slash) [] (b ∷ part path)

abbrev pub rest : List ℕ → List ℕ
rest [] = []
rest (b ∷ path) = cond (b == slash) (b ∷ path) (rest path)

abbrev pub is_none : List ℕ → Bool
is_none [] = true
is_none (b ∷ path) = false

-- the path begins with this token, and what stands behind it
abbrev pub begins : ℕ → List ℕ → Bool
begins x [] = false
begins x (b ∷ path) = x == b

abbrev pub behind : List ℕ → List ℕ
behind [] = []
behind (b ∷ path) = path

-- the tokens fit the path
abbrev pub token_fits : List ℕ → List ℕ → Bool
token_fits [] path = is_none path
token_fits (x ∷ t) path = cond (x == param_token) (is_some_text (part path) && token_fits t (rest path)) (begins x path && token_fits t (behind path))

-- a pattern ends, or goes on with a slash
abbrev pub goes_on : List ℕ → Bool
goes_on [] = true
goes_on (y ∷ t) = y == slash

-- bytes and parameters, and behind a parameter the end or a slash
abbrev pub is_strict : List ℕ → Bool
is_strict [] = true
is_strict (x ∷ t) = cond (x == param_token) (goes_on t) (nat_lt x 128) && is_strict t

-- a path is its first part and the rest
pub part-rest : (path : List ℕ) → part path ++ rest path ≡ path
part-rest [] = refl
part-rest (b ∷ path) = by (b == slash) (part-rest path)
  where
    by : (v : Bool) → part path ++ rest path ≡ path → cond {A = List ℕ} v [] (b ∷ part path) ++ cond v (b ∷ path) (rest path) ≡ b ∷ path
    by true same = refl
    by false same = ap (λ p. b ∷ p) same

-- the first part has no slash
pub has_slash-part : (path : List ℕ) → has_slash (part path) ≡ false
has_slash-part [] = refl
has_slash-part (b ∷ path) = by (b == slash) refl (has_slash-part path)
  where
    by : (v : Bool) → (b == slash) ≡ v → has_slash (part path) ≡ false → has_slash (cond {A = List ℕ} v [] (b ∷ part path)) ≡ false
    by true e none = refl
    by false e none = rw e none

-- the rest is nothing or begins with a slash
pub data RestIs (path : List ℕ) : Type 0 where
  at_end : rest path ≡ [] → RestIs path
  at_slash : (more : List ℕ) → rest path ≡ slash ∷ more → RestIs path

pub rest_is : (path : List ℕ) → RestIs path
rest_is [] = at_end refl
rest_is (b ∷ path) = by (b == slash) refl (rest_is path)
  where
    by : (v : Bool) → (b == slash) ≡ v → RestIs path → RestIs (b ∷ path)
    by true e more =
        let same : b ≡ slash = grind (arith, nat_tests) in
        at_slash path (rw e (ap (λ c. c ∷ path) same))
    by false e (at_end none) = at_end (rw e none)
    by false e (at_slash more is) = at_slash more (rw e is)

-- how many parameters there are, and what they take of a path
abbrev pub param_count : List ℕ → ℕ
param_count [] = 0
param_count (x ∷ t) = cond (x == param_token) (suc (param_count t)) (param_count t)

abbrev pub token_parts : List ℕ → List ℕ → List (List ℕ)
token_parts [] path = []
token_parts (x ∷ t) path = cond (x == param_token) (part path ∷ token_parts t (rest path)) (token_parts t (behind path))
