-- What is written for a command follows on its owner's account.
use Rattle.std.proofs.Common.{◌≡◌, ℕ, ℤ, Bool, true, false, List, [], Option, Some, None, refl, ap, arith, negsuc, pos}
use Rattle.std.specs.Prelude.{IfSome, if◌then◌else◌}
use Rattle.std.proofs.lemmas.Bool.Decides.{nat_tests}
use Rattle.td_base.specs.Days.{IsMoment, moment_of}
use Rattle.td_guarantee.specs.declared.guarantee.Guarantee.{Guarantee}
use Rattle.td_movement.specs.declared.movement.Movement.{Movement}
use Rattle.td_model.specs.declared.holder_row.HolderRow.{HolderRow}
use Rattle.td_model.specs.declared.change.Change.TheVariants as change
use Rattle.td_commands.specs.declared.command.Command.{Command}
use Rattle.td_model.specs.Account.{Account, empty_account}
use Rattle.td_model.specs.Machine.{is_accepted_at}
use Rattle.td_commands.specs.Commands.{owner_of, IsProper}
use Rattle.td_acts.specs.Deciding.{change_at, change_in, change_of}
use Rattle.td_acts.proofs.Accepted.{IsFor}
use Rattle.td_acts.proofs.EachCommand.{accepted_unregistered, rows_are_for}

-- the moment that the clock shows is in range
pub moment_is : (at : ℤ) → IfSome (moment_of at) IsMoment
moment_is (pos n) = grind (arith, nat_tests)
moment_is (negsuc n) = tt

-- the rows of an accepted command, else nothing
change_at_is_for : (H : ℕ) (country : List ℕ) (o : Option HolderRow) (gs : List Guarantee) (ms : List Movement) (t : ℕ) (command : Command) → owner_of country command ≡ Some H → IsProper command → IsMoment t
    → IsFor country H (record { country = country; holder = o; guarantees = gs; movements = ms }) (change_at (record { country = country; holder = o; guarantees = gs; movements = ms }) t command)
change_at_is_for H country o gs ms t command own proper moment = by_test (is_accepted_at account t command) refl
  where
    account : Account
    account = record { country = country; holder = o; guarantees = gs; movements = ms }

    by_test : (b : Bool) → is_accepted_at account t command ≡ b → IsFor country H account (if b then change_of account t command else change.Nothing)
    by_test true accepted = rows_are_for H country o gs ms t command own proper moment accepted
    by_test false other = tt

-- what a command of H writes over H's account follows on it
pub change_in_is_for : (H : ℕ) (account : Account) (m : Option ℕ) (command : Command) → owner_of account.country command ≡ Some H → IsProper command → IfSome m IsMoment
    → IsFor account.country H account (change_in m account command)
change_in_is_for H account None command own proper moment = tt
change_in_is_for H account (Some t) command own proper moment = change_at_is_for H account.country account.holder account.guarantees account.movements t command own proper moment

-- a command that nobody owns writes nothing
pub nobody_writes : (country : List ℕ) (m : Option ℕ) (command : Command) → owner_of country command ≡ None → change_in m (empty_account country) command ≡ change.Nothing
nobody_writes country None command none = refl
nobody_writes country (Some t) command none = by_test (is_accepted_at (empty_account country) t command) refl
  where
    by_test : (b : Bool) → is_accepted_at (empty_account country) t command ≡ b → (if b then change_of (empty_account country) t command else change.Nothing) ≡ change.Nothing
    by_test true accepted =
        let r = accepted_unregistered country [] [] t command accepted in
        let own : owner_of country command ≡ Some r.0 = ap (owner_of country) r.2 in
        absurd (cc)
    by_test false other = refl
