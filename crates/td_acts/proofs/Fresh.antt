-- A holder's fresh book says what the rows are.
use Rattle.std.proofs.Common.{◌≡◌, ℕ, List, Option, Some, None, refl}
use Rattle.std.specs.Prelude.{IfSome}
use Rattle.td_commands.specs.declared.command.Command.{Command}
use Rattle.td_model.specs.Account.{HolderRows, IsAccountOf, account_with, holder_key}
use Rattle.td_model.specs.Book.{account_of}
use Rattle.td_commands.specs.Commands.{owner_of}
use Rattle.td_acts.proofs.Growing.{account_fresh_book}
use Rattle.td_model.specs.Content.{Content, account_in, rows_of, fresh}
use Rattle.td_acts.specs.Weighing.{account_for, owner_account, kept_for, kept_of}
use Rattle.keyed_rows.proofs.Putting.{row_at_has}

number_with : (H : ℕ) (country : List ℕ) (o : Option HolderRows) → IfSome o (λ h. holder_key h ≡ H) → IfSome (account_with country o).holder (λ row. row.holder ≡ H)
number_with H country None is = tt
number_with H country (Some h) is = is

-- the rows of H that are found are H's
pub is_account_in : (H : ℕ) (rows : Content) → IsAccountOf H (account_in H rows)
is_account_in H rows = record { number = number_with H rows.country (rows_of H rows) (row_at_has holder_key H rows.holders) }

-- a book that begins now says what the rows are
pub account_fresh : (H : ℕ) (rows : Content) → account_of H (fresh H rows) ≡ account_in H rows
account_fresh H rows = account_fresh_book H (account_in H rows) (is_account_in H rows)

kept_is : (o : Option ℕ) (rows : Content) → account_for o rows ≡ kept_for o rows
kept_is None rows = refl
kept_is (Some H) rows = account_fresh H rows

-- what the fresh book of a command's owner says is what the desk keeps of the owner
pub owner_account_is_kept : (rows : Content) (command : Command) → owner_account rows command ≡ kept_of rows command
owner_account_is_kept rows command = kept_is (owner_of rows.country command) rows
