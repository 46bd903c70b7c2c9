use Rattle.std.proofs.Common.{ℕ, List, [], ◌∷◌, map, ap, refl, rules, ◌≡◌}
use Rattle.path_table.proofs.Looking.{look_up}
use Rattle.path_table.proofs.laws.rows_are_found_as_by_matchit.Goals as goal

-- the patterns themselves
patterns_are : (patterns : List (List ℕ)) → map (λ p. p) patterns ≡ patterns
patterns_are [] = refl
patterns_are (p ∷ ps) = ap (λ l. p ∷ l) (patterns_are ps)

pub returns : goal.returns
returns g patterns path sound bytes = look_up (λ p. p) patterns path (rw (patterns_are patterns) (search rules)) bytes
