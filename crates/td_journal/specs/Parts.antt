-- What the rows of one holder tell by themselves.
use Rattle.std.specs.Prelude.{◌≡◌, ℕ, List, [], ◌∷◌, if◌then◌else◌}
use Rattle.td_answers.specs.Answers.{said_body}
use Rattle.td_commands.specs.Commands.{owner_of}
use Rattle.td_commands.specs.declared.command.Stamped.{Stamped}
use Rattle.td_model.specs.Content.{Content, account_in}
use Rattle.td_desk.specs.Runs.{is_holder, part}
use Rattle.td_acts.specs.Weighing.{Carries, owner_account}
use Rattle.td_model.specs.Table.{said}

-- the body of the reply that a desk of this content gives to a command
abbrev pub reply_over : Content → Stamped → List ℕ
reply_over c s = said_body (said (owner_account c s.command) s.at s.command)

-- These replies are given to commands that are done one after the other.
abbrev pub AreTold : Content → List Stamped → List (List ℕ) → Content → Type 0
AreTold c [] replies end = (replies ≡ []) × (end ≡ c)
AreTold c (s ∷ list) replies end =
    (after : Content) × (rest : List (List ℕ)) × (replies ≡ reply_over c s ∷ rest) × Carries c s after × AreTold after list rest end

-- those of the commands that H owns
abbrev pub own_replies : List ℕ → ℕ → List Stamped → List (List ℕ) → List (List ℕ)
own_replies country H [] replies = []
own_replies country H (s ∷ list) [] = []
own_replies country H (s ∷ list) (reply ∷ replies) =
    if is_holder H (owner_of country s.command) then reply ∷ own_replies country H list replies else own_replies country H list replies

-- H's part of a list of commands, done by itself, has the replies that H's commands had in the whole list, from whatever contents
-- that have the same of H.
abbrev pub PartTellsTheSame : Type 0
PartTellsTheSame =
    (country : List ℕ) (H : ℕ) (c d end other_end : Content) (list : List Stamped) (replies others : List (List ℕ))
    → c.country ≡ country → d.country ≡ country → account_in H c ≡ account_in H d
    → AreTold c list replies end → AreTold d (part country H list) others other_end
    → others ≡ own_replies country H list replies
