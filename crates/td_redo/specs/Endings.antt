-- How a redo of a row ends, by what is said to the row's command and by the body of the reply in the row.
use Rattle.std.specs.Prelude.{◌≡◌, ◌≢◌, ◌⊎◌, ℕ, Bool, true, List, Some, None, Result, Ok, Err}
use Rattle.td_commands.specs.declared.command.Command.{Command}
use Rattle.td_commands.specs.declared.command.Command.TheVariants.{Register, OpenGuarantee, Revoke, Ie014, AddCode, RemoveCode, Ie029, Ie007, Ie018, Ie045, Ie140}
use Rattle.td_commands.specs.declared.command.Stamped.{Stamped}
use Rattle.td_commands.specs.declared.said.Answer.TheVariants.{Opened}
use Rattle.td_commands.specs.declared.said.Refusal.TheVariants.{AlreadyEnded, CodeKnown, HolderKnown, NoCode, SerialsSpent, WrongState}
use Rattle.td_commands.specs.declared.said.Said.{Said}
use Rattle.td_commands.specs.declared.said.Said.TheVariants.{Answered, Refused}
use Rattle.td_movement.specs.declared.state.Control.{Control}
use Rattle.td_movement.specs.declared.state.Control.TheVariants.{A1, A2, B1}
use Rattle.td_movement.specs.declared.state.State.TheVariants.{Arrived, Cancelled, Cleared, Enquired, Released, WrittenOff}
use Rattle.td_model.specs.Machine.{is_accepted}
use Rattle.td_model.specs.Content.{Content}
use Rattle.td_desk.specs.View.{DeskView}
use Rattle.td_acts.specs.Weighing.{owner_account, Carries}
use Rattle.td_desk.specs.declared.fault.Fault.{Fault}
use Rattle.td_desk.specs.declared.fault.Fault.TheVariants as fault
use Rattle.td_redo.specs.Redo.{said_over}
use Rattle.td_redo.specs.Replies.{body_text}
use Rattle.td_redo.specs.declared.redoing.Redone.{Redone}
use Rattle.td_redo.specs.declared.redoing.Redone.TheVariants.{Carried, Stands, Foreign}

-- a GRN was said, whichever it is
abbrev pub IsOpening : Said → Type 0
IsOpening words = (grn : List ℕ) × (words ≡ Answered (Opened grn))

-- what is said to an opening the second time: that no serial is left, or a GRN, and not in the same reply
abbrev pub IsOpenedAgain : Type 0 → Said → Type 0
IsOpenedAgain same words = (words ≡ Refused SerialsSpent) ⊎ (IsOpening words × (same → ⊥))

-- what is said to a control the second time, by its result
abbrev pub IsJudgedAgain : Control → Type 0 → Said → Type 0
IsJudgedAgain A1 same words = words ≡ Refused (WrongState Cleared)
IsJudgedAgain A2 same words = words ≡ Refused (WrongState Cleared)
IsJudgedAgain B1 same words = same

-- What is said to a change the second time, command by command; `same` is that the reply has the body of the first one.
-- A change that is named here by no refusal is answered again as it was.
abbrev pub IsSecond : Command → Type 0 → Said → Type 0
IsSecond (Register holder eori) same words = words ≡ Refused HolderKnown
IsSecond (OpenGuarantee holder reference cover code) same words = IsOpenedAgain same words
IsSecond (Revoke grn) same words = words ≡ Refused AlreadyEnded
IsSecond (Ie014 holder mrn) same words = words ≡ Refused (WrongState Cancelled)
IsSecond (AddCode holder grn code) same words = words ≡ Refused CodeKnown
IsSecond (RemoveCode holder grn code) same words = words ≡ Refused NoCode
IsSecond (Ie029 mrn limit) same words = words ≡ Refused (WrongState Released)
IsSecond (Ie007 mrn office) same words = words ≡ Refused (WrongState Arrived)
IsSecond (Ie018 mrn result) same words = IsJudgedAgain result same words
IsSecond (Ie045 mrn cause) same words = words ≡ Refused (WrongState WrittenOff)
IsSecond (Ie140 mrn) same words = words ≡ Refused (WrongState Enquired)
IsSecond command same words = same

-- what is said to a row's command is what is said the second time to a change that was told by this body the first time
abbrev pub IsSaidAgain : Command → List ℕ → Said → Type 0
IsSaidAgain command reply words = IsSecond command (body_text words ≡ reply) words

-- Which ending it is, by what is said to the row's command and by whether that is an accepted change now; just one holds. An
-- accepted change that is told as in the row is carried. Else the row stands where this is said again, and is foreign where not.
abbrev pub IsEndingFor : Redone → Command → List ℕ → Bool → Said → Type 0
IsEndingFor Carried command reply accepted words = (accepted ≡ true) × (body_text words ≡ reply)
IsEndingFor Stands command reply accepted words =
    (accepted ≡ true → body_text words ≢ reply) × IsSaidAgain command reply words
IsEndingFor Foreign command reply accepted words =
    (accepted ≡ true → body_text words ≢ reply) × (IsSaidAgain command reply words → ⊥)

-- what each does to the content
abbrev pub IsLeft : Redone → Content → Stamped → Content → Type 0
IsLeft Carried old s new = Carries old s new
IsLeft Stands old s new = new ≡ old
IsLeft Foreign old s new = new ≡ old

-- A row with this reply was redone over a content, ended so, and left that content.
abbrev pub IsRedoneAs : Redone → Stamped → List ℕ → Content → Content → Type 0
IsRedoneAs ending s reply old new =
    IsEndingFor ending s.command reply (is_accepted (owner_account old s.command) s.at s.command) (said_over old s)
    × IsLeft ending old s new

-- The calls that a redo makes of a desk: the command is weighed; and only where it ends as carried, or where that
-- fails, the decision is carried. Memory may be missing for the body that is compared, too.
abbrev pub IsRedoneBy : {D : Type 0} → DeskView D → D → Stamped → Result Redone Fault → D → Type 0
IsRedoneBy {D} view old s (Ok Carried) new = (weighed : D) × view.weighed old s None weighed × view.carried weighed None new
IsRedoneBy view old s (Ok Stands) new = view.weighed old s None new
IsRedoneBy view old s (Ok Foreign) new = view.weighed old s None new
IsRedoneBy {D} view old s (Err why) new =
    view.weighed old s (Some why) new
    ⊎ (((why ≡ fault.NoMemory) × view.weighed old s None new)
    ⊎ ((weighed : D) × view.weighed old s None weighed × view.carried weighed (Some why) new))
