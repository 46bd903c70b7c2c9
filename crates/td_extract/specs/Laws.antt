-- Laws of what a content has of the holders of a range.
use Rattle.std.specs.Prelude.{◌≡◌, ℕ, if◌then◌else◌}
use Rattle.td_model.specs.Account.{empty_account}
use Rattle.td_model.specs.Content.{Content, IsSound, account_in}
use Rattle.td_extract.specs.Between.{content_between, is_between}

-- It keeps of each holder in the range what the whole keeps, and of any other number nothing.
abbrev pub AccountsAreOfTheRange : Type 0
AccountsAreOfTheRange =
    (first last : ℕ) (c : Content) (H : ℕ)
    → account_in H (content_between first last c) ≡ (if is_between first last H then account_in H c else empty_account c.country)

-- It is sound where the whole is, so a desk may begin with it.
abbrev pub SoundPartsAreSound : Type 0
SoundPartsAreSound = (first last : ℕ) (c : Content) → IsSound c → IsSound (content_between first last c)
