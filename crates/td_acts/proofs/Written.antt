-- Something is written exactly where a change is accepted.
use Rattle.std.proofs.Common.{◌≡◌, ℕ, ℤ, Bool, true, false, Option, Some, None, refl}
use Rattle.std.specs.Prelude.{if◌then◌else◌}
use Rattle.td_base.specs.Days.{moment_of}
use Rattle.td_model.specs.declared.change.Change.TheVariants as change
use Rattle.td_commands.specs.declared.command.Command.{Command}
use Rattle.td_model.specs.Account.{Account}
use Rattle.td_model.specs.Machine.{is_accepted_at, is_accepted_in, is_accepted}
use Rattle.td_model.specs.Changes.{is_change}
use Rattle.td_acts.specs.Deciding.{decision_on, change_at, change_in, change_of}
use Rattle.td_acts.proofs.EachCommand.{some_made}

-- where the rows of a command would be some, those that are written are some just where it is accepted
written_if : (account : Account) (t : ℕ) (command : Command) → (is_accepted_at account t command ≡ true → is_change (change_of account t command) ≡ true) → is_change (change_at account t command) ≡ is_accepted_at account t command
written_if account t command some = by_test (is_accepted_at account t command) refl
  where
    by_test : (b : Bool) → is_accepted_at account t command ≡ b → is_change (if b then change_of account t command else change.Nothing) ≡ b
    by_test true accepted = some accepted
    by_test false other = refl

written_in : (m : Option ℕ) (account : Account) (command : Command) → is_change (change_in m account command) ≡ is_accepted_in m account command
written_in None account command = refl
written_in (Some t) account command = written_if account t command (some_made account.country account.holder account.guarantees account.movements t command)

pub written_is_accepted : (account : Account) (at : ℤ) (command : Command) → is_change (decision_on account at command).change ≡ is_accepted account at command
written_is_accepted account at command = written_in (moment_of at) account command
