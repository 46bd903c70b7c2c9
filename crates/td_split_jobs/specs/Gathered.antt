-- What many desks have, each one thing for each place of its share, gathered in the order of all places.
use Rattle.std.specs.Prelude.{ℕ, ◌==◌, List, [], ◌∷◌, if◌then◌else◌}

-- what each desk has, where desk i has these left, and the others what they had
abbrev pub with_left : {X : Type 0} → ℕ → List X → (ℕ → List X) → ℕ → List X
with_left i left lists j = if i == j then left else lists j

-- the first thing, and what is made of those that are left; where there is none, none
abbrev pub first_and : {X : Type 0} → List X → (List X → List X) → List X
first_and [] more = []
first_and (x ∷ left) more = x ∷ more left

-- one thing for each place, in order, each taken from the desk whose number stands there
abbrev pub gathered : {X : Type 0} → List ℕ → (ℕ → List X) → List X
gathered [] lists = []
gathered (i ∷ desks) lists = first_and (lists i) (λ left. gathered desks (with_left i left lists))
