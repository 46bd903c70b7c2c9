-- What a content has of the holders of a range.
use Rattle.std.specs.Prelude.{ℕ, Bool, ◌&&◌, filter, nat_le}
use Rattle.td_model.specs.Account.{holder_key}
use Rattle.td_model.specs.Content.{Content}

-- the number is from the first on and up to the last
abbrev pub is_between : ℕ → ℕ → ℕ → Bool
is_between first last H = nat_le first H && nat_le H last

-- the rows of those holders alone, at an office of the same country
abbrev pub content_between : ℕ → ℕ → Content → Content
content_between first last c = record { country = c.country; holders = filter (λ h. is_between first last (holder_key h)) c.holders }
