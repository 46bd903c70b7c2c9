-- Which commands are accepted changes.
-- A holder's own machine: the verdicts on a list of commands, one after the other, each over the holder's
-- book so far. Nothing of any other holder takes part.
use Rattle.std.specs.Prelude.{ℕ, ℤ, Option, Some, None, Bool, true, false, ◌&&◌, not, ◌≡◌, List, [], ◌∷◌, ◌++◌, if◌then◌else◌}
use Rattle.std.specs.Option.{is_some}
use Rattle.td_base.specs.Days.{moment_of}
use Rattle.td_commands.specs.declared.command.Command.{Command}
use Rattle.td_commands.specs.declared.command.Command.TheVariants.{Ie015}
use Rattle.td_commands.specs.declared.said.Said.{Said}
use Rattle.td_commands.specs.declared.said.Said.TheVariants.{Answered, Refused}
use Rattle.td_model.specs.Account.{Account, movement_by_lrn}
use Rattle.td_commands.specs.Commands.{is_changing, owner_of}
use Rattle.td_model.specs.Table.{said_at, said}
use Rattle.td_commands.specs.declared.command.Stamped.{Stamped}
use Rattle.td_model.specs.Book.{Act, Book, account_of, fresh_book}

abbrev pub is_answer : Said → Bool
is_answer (Answered answer) = true
is_answer (Refused refusal) = false

-- A declaration under an LRN that the holder has used already. Where it is answered it is a repeat.
abbrev pub has_known_lrn : Account → Command → Bool
has_known_lrn account (Ie015 holder lrn departure destination lines) =
    is_some (movement_by_lrn lrn account.movements)
has_known_lrn account command = false

-- an answered command that is neither a view nor a repeat; refusals, views and repeats are no changes
abbrev pub is_accepted_at : Account → ℕ → Command → Bool
is_accepted_at account t command =
    is_changing command && is_answer (said_at account t command) && not (has_known_lrn account command)

-- at no moment nothing is accepted
abbrev pub is_accepted_in : Option ℕ → Account → Command → Bool
is_accepted_in None account command = false
is_accepted_in (Some t) account command = is_accepted_at account t command

-- the command is an accepted change at that number of seconds since 1970
abbrev pub is_accepted : Account → ℤ → Command → Bool
is_accepted account at command = is_accepted_in (moment_of at) account command

-- what is said to H by the book
abbrev pub verdict : ℕ → Book → ℤ → Command → Said
verdict H book at command = said (account_of H book) at command

-- the book with an accepted change at its end
abbrev pub appended : Book → ℕ → Command → Book
appended book t command =
    record { opening = book.opening; acts = book.acts ++ record { at = t; command = command } ∷ [] }

-- the book after a command at a moment, where there is one
abbrev pub book_after_at : ℕ → Book → Option ℕ → Command → Book
book_after_at H book None command = book
book_after_at H book (Some t) command =
    if is_accepted_at (account_of H book) t command then appended book t command else book

-- the book after a command
abbrev pub book_after : ℕ → Book → Stamped → Book
book_after H book s = book_after_at H book (moment_of s.at) s.command

-- what is said to a list of H's commands
abbrev pub machine_says : ℕ → Book → List Stamped → List Said
machine_says H book [] = []
machine_says H book (s ∷ list) = verdict H book s.at s.command ∷ machine_says H (book_after H book s) list

-- the book in the end
abbrev pub machine_book : ℕ → Book → List Stamped → Book
machine_book H book [] = book
machine_book H book (s ∷ list) = machine_book H (book_after H book s) list

-- Acts that came one after the other upon a book: each is H's own, and was accepted over what the book with
-- the acts before it says.
abbrev pub AreAccepted : ℕ → Book → List Act → Type 0
AreAccepted H book [] = Unit {0}
AreAccepted H book (a ∷ acts) =
    (owner_of book.opening.country a.command ≡ Some H)
    × (is_accepted_at (account_of H book) a.at a.command ≡ true)
    × AreAccepted H (appended book a.at a.command) acts

-- H's book has grown: all its acts came so upon its opening
abbrev pub IsGrown : ℕ → Book → Type 0
IsGrown H book = AreAccepted H (fresh_book book.opening) book.acts
