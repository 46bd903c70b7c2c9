-- Laws of two contents in one.
use Rattle.std.specs.Prelude.{◌≡◌, ◌+◌, ◌≤◌, ℕ, if◌then◌else◌, is_some}
use Rattle.td_model.specs.Content.{Content, IsSound, account_in, rows_of}
use Rattle.td_extract.specs.Between.{content_between}
use Rattle.td_join.specs.Joined.{AreApart, joined}

-- It keeps of each holder of the first what this keeps, and of any other number what the second keeps.
abbrev pub AccountsAreOfEither : Type 0
AccountsAreOfEither =
    (c d : Content) → c.country ≡ d.country → (H : ℕ)
    → account_in H (joined c d) ≡ (if is_some (rows_of H c) then account_in H c else account_in H d)

-- It is sound where both are, so a desk may begin with it.
abbrev pub SoundContentsJoin : Type 0
SoundContentsJoin = (c d : Content) → c.country ≡ d.country → IsSound c → IsSound d → IsSound (joined c d)

-- The holders up to a number and those behind it, joined, are the holders of the whole range, in whichever order they are joined.
abbrev pub PartsJoinToTheWhole : Type 0
PartsJoinToTheWhole =
    (first middle last : ℕ) (c : Content) → IsSound c → first ≤ middle + 1 → middle ≤ last
    → (joined (content_between first middle c) (content_between (middle + 1) last c) ≡ content_between first last c)
    × (joined (content_between (middle + 1) last c) (content_between first middle c) ≡ content_between first last c)

-- No holder stands in both parts, so a join of them is never refused.
abbrev pub PartsAreApart : Type 0
PartsAreApart =
    (first middle last : ℕ) (c : Content)
    → AreApart (content_between first middle c) (content_between (middle + 1) last c)
    × AreApart (content_between (middle + 1) last c) (content_between first middle c)

-- So a content that is split at a number, whichever it is, is joined to what it was.
abbrev pub SplitsJoinBack : Type 0
SplitsJoinBack =
    (middle : ℕ) (c : Content) → IsSound c → middle ≤ 999999
    → (joined (content_between 1 middle c) (content_between (middle + 1) 999999 c) ≡ c)
    × (joined (content_between (middle + 1) 999999 c) (content_between 1 middle c) ≡ c)
