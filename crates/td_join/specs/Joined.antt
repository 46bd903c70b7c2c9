-- Two contents in one, and the holders who stand in both.
use Rattle.std.specs.Prelude.{◌≡◌, ◌≤◌, ℕ, Option, Some, None, IsSome}
use Rattle.td_model.specs.Content.{Content, rows_of}
use Rattle.td_split.specs.Union.{put_all}

-- the second content, with the rows of each holder of the first in their place among its own
abbrev pub joined : Content → Content → Content
joined c d = record d { holders = put_all c.holders d.holders }

-- no holder of the first stands in the second
abbrev pub AreApart : Content → Content → Type 0
AreApart c d = (H : ℕ) → IsSome (rows_of H c) → rows_of H d ≡ None

-- this is the holder with the least number of those who stand in both
pub record IsFirstOfBoth (c d : Content) (H : ℕ) : Type 0 where
  pub first : IsSome (rows_of H c)
  pub second : IsSome (rows_of H d)
  pub least : (K : ℕ) → IsSome (rows_of K c) → IsSome (rows_of K d) → H ≤ K

-- the first holder who stands in both; none: there is no such holder
abbrev pub HasFirstOfBoth : Content → Content → Option ℕ → Type 0
HasFirstOfBoth c d None = AreApart c d
HasFirstOfBoth c d (Some H) = IsFirstOfBoth c d H
