-- Laws that tie the rows which the code writes to the model, where they are not mentioned.
use Rattle.std.specs.Prelude.{◌≡◌, ℕ, ℤ, List, Option, Some, None, IfSome, IsSome}
use Rattle.td_base.specs.Codes.{IsCountry}
use Rattle.td_base.specs.References.{IsMrnSerial, mrn_text, older_mrn_text}
use Rattle.td_commands.specs.declared.command.Command.{Command}
use Rattle.td_commands.specs.declared.command.Stamped.{Stamped}
use Rattle.td_model.specs.declared.holder_row.HolderRow.{HolderRow}
use Rattle.td_model.specs.declared.change.Change.{Change}
use Rattle.td_model.specs.declared.change.Change.TheVariants.{Nothing}
use Rattle.td_model.specs.Account.{Account, HolderRows, account_with, empty_account, IsAccountOf, ReferencesDiffer, movement_by_mrn}
use Rattle.td_model.specs.Book.{Book, account_of, fresh_book}
use Rattle.td_commands.specs.Commands.{owner_of, IsProper}
use Rattle.td_model.specs.Machine.{is_accepted, book_after, IsGrown}
use Rattle.td_model.specs.Changes.{is_change, row_in, rows_after, rows_or_new, account_after}
use Rattle.td_acts.specs.Deciding.{decision_on}
use Rattle.td_model.specs.Sound.{AreHolderRows}

-- something is written exactly where the command is an accepted change
abbrev pub WritesWhatIsAccepted : Type 0
WritesWhatIsAccepted =
    (account : Account) (at : ℤ) (command : Command)
    → is_change (decision_on account at command).change ≡ is_accepted account at command

-- what is written is what the book with the command says, where the references in the account differ
abbrev pub WritesWhatTheBookSays : Type 0
WritesWhatTheBookSays =
    (H : ℕ) (book : Book) (s : Stamped) → IsGrown H book → ReferencesDiffer (account_of H book)
    → owner_of book.opening.country s.command ≡ Some H
    → account_of H (book_after H book s)
    ≡ account_after (decision_on (account_of H book) s.at s.command).change (account_of H book)

-- a book that begins with an account says that account
abbrev pub FreshBookSaysItsAccount : Type 0
FreshBookSaysItsAccount =
    (H : ℕ) (account : Account) → IsAccountOf H account → account_of H (fresh_book account) ≡ account

-- What a change makes of H's rows: rows of that number, whose account is the account after the change, and
-- which keep their rules.
pub record FollowsOn (country : List ℕ) (H : ℕ) (found : Option HolderRows) (change : Change)
    (rows : HolderRows) : Type 0 where
  pub number : rows.row.holder ≡ H
  pub account : account_with country (Some rows) ≡ account_after change (account_with country found)
  pub sound : AreHolderRows country rows

-- what is written for a command into its owner's rows keeps them sound
abbrev pub KeepsRowsSound : Type 0
KeepsRowsSound =
    (country : List ℕ) (H : ℕ) (found : Option HolderRows) (s : Stamped) → IsCountry country
    → IfSome found (λ h. h.row.holder ≡ H) → IfSome found (AreHolderRows country)
    → owner_of country s.command ≡ Some H → IsProper s.command
    → let change = (decision_on (account_with country found) s.at s.command).change in
    (row : HolderRow) → row_in change ≡ Some row
    → FollowsOn country H found change (rows_after change (rows_or_new row found))

-- Over sound rows a movement is found by its MRN in one form alone: where the text of a serial with the letter is one's, the
-- older text of that serial is nobody's, whatever its year, and the other way round.
abbrev pub OtherFormNamesNothing : Type 0
OtherFormNamesNothing =
    (country : List ℕ) (h : HolderRows) (year older_year serial : ℕ) → IsCountry country → AreHolderRows country h
    → IsMrnSerial serial
    → let new = movement_by_mrn (mrn_text year country h.row.holder serial) h.movements in
    let older = movement_by_mrn (older_mrn_text older_year country h.row.holder serial) h.movements in
    (IsSome new → older ≡ None) × (IsSome older → new ≡ None)

-- nothing is written for a command that nobody owns
abbrev pub NobodyWrites : Type 0
NobodyWrites =
    (country : List ℕ) (s : Stamped) → owner_of country s.command ≡ None
    → (decision_on (empty_account country) s.at s.command).change ≡ Nothing
