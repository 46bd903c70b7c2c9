-- What a desk decides on a command, and what a decision that is carried does to the content.
use Rattle.std.specs.Prelude.{◌≡◌, ◌≢◌, ℕ, ℤ, Option, Some, None}
use Rattle.td_commands.specs.declared.command.Command.{Command}
use Rattle.td_commands.specs.declared.command.Stamped.{Stamped}
use Rattle.td_acts.specs.declared.rows.Verdict.{Verdict}
use Rattle.td_model.specs.Account.{Account, empty_account}
use Rattle.td_model.specs.Book.{account_of}
use Rattle.td_commands.specs.Commands.{owner_of, IsProper}
use Rattle.td_model.specs.Table.{said}
use Rattle.td_model.specs.Machine.{is_accepted, book_after}
use Rattle.td_model.specs.Changes.{is_change}
use Rattle.td_acts.specs.Deciding.{decision_on}
use Rattle.td_model.specs.Content.{Content, account_in, fresh, IsSound}

-- what the fresh book of a command's owner says; over a command that nobody owns there is nothing to say
abbrev pub account_for : Option ℕ → Content → Account
account_for None rows = empty_account rows.country
account_for (Some H) rows = account_of H (fresh H rows)

abbrev pub owner_account : Content → Command → Account
owner_account rows command = account_for (owner_of rows.country command) rows

-- what the desk keeps of a command's owner
abbrev pub kept_for : Option ℕ → Content → Account
kept_for None rows = empty_account rows.country
kept_for (Some H) rows = account_in H rows

abbrev pub kept_of : Content → Command → Account
kept_of rows command = kept_for (owner_of rows.country command) rows

-- The decision on a command: what it says is the model's verdict over the fresh book of the command's
-- owner, it changes something exactly where the model accepts the command, and what it writes is the rows
-- of that command.
pub record IsWeighed (rows : Content) (at : ℤ) (command : Command) (v : Verdict) : Type 0 where
  pub said : v.said ≡ said (owner_account rows command) at command
  pub changes : is_change v.change ≡ is_accepted (owner_account rows command) at command
  pub written : v.change ≡ (decision_on (owner_account rows command) at command).change

-- it is the decision on some command at some moment
abbrev pub IsDecision : Content → Verdict → Type 0
IsDecision rows v = (at : ℤ) × (command : Command) × IsProper command × IsWeighed rows at command v

-- What a command that was carried does to the content: the owner's rows are those of the owner's book with
-- the command, the country and every other holder's rows are as before, and the content is sound.
pub record Carries (old : Content) (s : Stamped) (new : Content) : Type 0 where
  pub country : new.country ≡ old.country
  pub own : (H : ℕ) → owner_of old.country s.command ≡ Some H
      → account_in H new ≡ account_of H (book_after H (fresh H old) s)
  pub others : (H : ℕ) → owner_of old.country s.command ≢ Some H → account_in H new ≡ account_in H old
  pub sound : IsSound new
