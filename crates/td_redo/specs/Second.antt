-- What is said to a change that was done and is asked again at its moment.
use Rattle.std.specs.Prelude.{◌≡◌, ◌≢◌, ◌⊎◌, ℕ, ℤ, true, List, Some}
use Rattle.td_commands.specs.declared.command.Command.{Command}
use Rattle.td_commands.specs.declared.command.Command.TheVariants.{Register, Revoke, Ie014, AddCode, RemoveCode, Ie029, Ie007, Ie018, Ie045, Ie140}
use Rattle.td_commands.specs.declared.said.Answer.TheVariants.{Opened}
use Rattle.td_commands.specs.declared.said.Refusal.TheVariants.{HolderKnown, AlreadyEnded, CodeKnown, NoCode, SerialsSpent, WrongState}
use Rattle.td_commands.specs.declared.said.Said.{Said}
use Rattle.td_commands.specs.declared.said.Said.TheVariants.{Answered, Refused}
use Rattle.td_movement.specs.declared.state.State.TheVariants.{Arrived, Cancelled, Cleared, Enquired, Released, WrittenOff}
use Rattle.td_movement.specs.declared.state.Control.{Control}
use Rattle.td_movement.specs.declared.state.Control.TheVariants.{A1, A2, B1}
use Rattle.td_model.specs.Account.{Account}
use Rattle.td_model.specs.Effects.{openings}
use Rattle.td_model.specs.Machine.{is_accepted}
use Rattle.td_model.specs.Table.{said}
use Rattle.td_commands.specs.declared.command.Stamped.{Stamped}
use Rattle.td_commands.specs.Commands.{owner_of}
use Rattle.td_model.specs.Content.{Content, IsSound}
use Rattle.td_acts.specs.Weighing.{owner_account, Carries}
use Rattle.td_redo.specs.Redo.{account_done, said_over}

-- what is said to an opening the second time, where this GRN was said to it: that no serial is left, or another GRN
abbrev pub IsAnotherOpening : List ℕ → Said → Type 0
IsAnotherOpening grn words =
    (words ≡ Refused SerialsSpent) ⊎ ((other : List ℕ) × (words ≡ Answered (Opened other)) × (other ≢ grn))

-- a control that was not satisfactory is told again as it was
abbrev pub judged_again : Control → Said → Said
judged_again A1 first = Refused (WrongState Cleared)
judged_again A2 first = Refused (WrongState Cleared)
judged_again B1 first = first

-- the second words, by the command and the first words; of an opening and of views they are not told here
abbrev pub said_again : Command → Said → Said
said_again (Register holder eori) first = Refused HolderKnown
said_again (Revoke grn) first = Refused AlreadyEnded
said_again (Ie014 holder mrn) first = Refused (WrongState Cancelled)
said_again (AddCode holder grn code) first = Refused CodeKnown
said_again (RemoveCode holder grn code) first = Refused NoCode
said_again (Ie029 mrn limit) first = Refused (WrongState Released)
said_again (Ie007 mrn office) first = Refused (WrongState Arrived)
said_again (Ie018 mrn result) first = judged_again result first
said_again (Ie045 mrn cause) first = Refused (WrongState WrittenOff)
said_again (Ie140 mrn) first = Refused (WrongState Enquired)
said_again command first = first

-- So an accepted change that opens no guarantee is answered the second time.
abbrev pub SaidTheSecondTime : Type 0
SaidTheSecondTime =
    (account : Account) (at : ℤ) (command : Command) → openings command ≡ 0 → is_accepted account at command ≡ true
    → said (account_done account at command) at command ≡ said_again command (said account at command)

-- And so over a desk's content in which the change of a holder stands.
abbrev pub StandsIsTold : Type 0
StandsIsTold =
    (begin done : Content) (s : Stamped) (H : ℕ) → IsSound begin → owner_of begin.country s.command ≡ Some H → Carries begin s done
    → openings s.command ≡ 0 → is_accepted (owner_account begin s.command) s.at s.command ≡ true
    → said_over done s ≡ said_again s.command (said_over begin s)
