-- What a walk along rows leaves, and what a walker knows once it was shown all of them.
use Rattle.std.specs.Prelude.{◌≡◌, ℕ, List, [], IsTrue}
use Rattle.sqlite_value.specs.Order.{Row}
use Rattle.sqlite.specs.State.{State}
use Rattle.typed_sql.specs.Reading.{Selects}

-- The walker was shown all rows that the text shows, in their order: if it knew what it does of no row, it now knows it of them.
abbrev pub HasWalked : {W : Type 0} → (List Row → W → Type 0) → List ℕ → State → W → W → Type 0
HasWalked Knows text state old new = Knows [] old → (rows : List Row) × Selects text [] state rows × Knows rows new

-- the connection is open only if it was, and then it shows what it did
pub record IsLeftAlone (old new : State) : Type 0 where
  pub live : IsTrue new.is_open → IsTrue old.is_open
  pub same : IsTrue new.is_open → new.now ≡ old.now
