-- Rows in ascending order of their keys.
use Rattle.std.specs.Prelude.{ℕ, ◌+◌, ◌==◌, ◌≤◌, List, [], ◌∷◌, Option, find, nat_lt, if◌then◌else◌}
use Rattle.std.proofs.Math.Bridge.{le_prop}
use mathlib.Core.HLevel.{×_prop, Unit-prop}

-- the row with this key
abbrev pub row_at : {R : Type 0} → (R → ℕ) → ℕ → List R → Option R
row_at key k rows = find (λ r. key r == k) rows

-- the rows stand in ascending order of their keys, none below low and no two alike
abbrev pub Rises : {R : Type 0} → (R → ℕ) → ℕ → List R → Type 0
Rises key low [] = Unit {0}
Rises key low (r ∷ rows) = (low ≤ key r) × Rises key (key r + 1) rows

-- the order is a fact that stands in one way
pub Rises-prop : {R : Type 0} (key : R → ℕ) (low : ℕ) (rows : List R) → IsProp (Rises key low rows)
Rises-prop key low [] = Unit-prop
Rises-prop key low (r ∷ rows) = ×_prop le_prop (Rises-prop key (key r + 1) rows)

-- the rows with this one in its place, instead of one with its key
abbrev pub put_row : {R : Type 0} → (R → ℕ) → R → List R → List R
put_row key row [] = row ∷ []
put_row key row (r ∷ rows) =
    if nat_lt (key r) (key row) then r ∷ put_row key row rows
    else (if key r == key row then row ∷ rows else row ∷ r ∷ rows)
