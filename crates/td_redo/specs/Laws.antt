-- Laws of commands that are asked again at their moment.
use Rattle.std.specs.Prelude.{◌≡◌, ◌≢◌, ◌⊎◌, ℕ, ℤ, List, [], ◌∷◌, ◌++◌, Bool, true}
use Rattle.td_base.specs.Codes.{IsCountry}
use Rattle.td_commands.specs.declared.command.Command.{Command}
use Rattle.td_commands.specs.declared.command.Command.TheVariants.{OpenGuarantee}
use Rattle.td_commands.specs.declared.command.Stamped.{Stamped}
use Rattle.td_commands.specs.declared.said.Answer.TheVariants.{Opened}
use Rattle.td_commands.specs.declared.said.Said.{Said}
use Rattle.td_commands.specs.declared.said.Said.TheVariants.{Answered}
use Rattle.td_commands.specs.Commands.{IsProper}
use Rattle.td_model.specs.Account.{Account}
use Rattle.td_model.specs.Effects.{openings}
use Rattle.td_model.specs.Machine.{is_accepted}
use Rattle.td_model.specs.Table.{said}
use Rattle.td_model.specs.Content.{Content, IsSound}
use Rattle.td_desk.specs.View.{DeskView}
use Rattle.td_acts.specs.Weighing.{Carries}
use Rattle.td_redo.specs.Crashes.{IsCommandAt}
use Rattle.td_redo.specs.Endings.{IsRedoneAs, IsSaidAgain}
use Rattle.td_redo.specs.Redo.{account_done, said_over, opened_by, TellsOpenings, Row, IsDone, AreDone, IsRedone}
use Rattle.td_redo.specs.Replies.{body_text}
use Rattle.td_redo.specs.Second.{IsAnotherOpening}
use Rattle.td_redo.specs.declared.redoing.Redone.{Redone}
use Rattle.td_redo.specs.declared.redoing.Redone.TheVariants.{Carried, Foreign}

-- Every command that opens no guarantee, done a second time at its moment, leaves the account, whatever is said to it then.
abbrev pub DoneTwiceIsDoneOnce : Type 0
DoneTwiceIsDoneOnce =
    (account : Account) (at : ℤ) (command : Command) → openings command ≡ 0
    → account_done (account_done account at command) at command ≡ account_done account at command

-- An opening that was done was answered with a GRN, and is never answered so again: no serial is left, or the GRN is another.
abbrev pub AnotherGrn : Type 0
AnotherGrn =
    (account : Account) (at : ℤ) (holder reference cover : ℕ) (code : List ℕ) → IsCountry account.country
    → let command = OpenGuarantee holder reference cover code in
    IsProper command → is_accepted account at command ≡ true
    → (grn : List ℕ) × (said account at command ≡ Answered (Opened grn))
    × IsAnotherOpening grn (said (account_done account at command) at command)

-- The redo law of accounts. A command whose answer shows the second time as it did the first time leaves the account.
abbrev pub RedoLaw : Type 0 → Type 0
RedoLaw X =
    (shown : Said → X) → TellsOpenings shown
    → (account : Account) (at : ℤ) (command : Command) → IsCountry account.country → IsProper command
    → shown (said (account_done account at command) at command) ≡ shown (said account at command)
    → account_done (account_done account at command) at command ≡ account_done account at command

-- The first law, of a desk's content.
abbrev pub TwiceAtADeskIsOnce : Type 0
TwiceAtADeskIsOnce =
    (begin once twice : Content) (s : Stamped) → IsSound begin → IsProper s.command → openings s.command ≡ 0
    → Carries begin s once → Carries once s twice → twice ≡ once

-- Where the row's command was not done yet, a redo does it.
abbrev pub RedoneOverItsBeginning : Type 0 → Type 0
RedoneOverItsBeginning X =
    (shown : Said → X) (begin done new : Content) (s : Stamped) → IsSound begin → Carries begin s done
    → IsRedone shown s (shown (said_over begin s)) begin new → new ≡ done

-- Where it was, a redo leaves it: the content is the same.
abbrev pub RedoneOverItsEnd : Type 0 → Type 0
RedoneOverItsEnd X =
    (shown : Said → X) → TellsOpenings shown
    → (begin done new : Content) (s : Stamped) → IsSound begin → IsProper s.command → Carries begin s done
    → IsRedone shown s (shown (said_over begin s)) done new → new ≡ done

-- What is said to a row's command where its change stands is what is said to such a change the second time.
abbrev pub RowIsSaidAgain : Type 0
RowIsSaidAgain =
    (begin done : Content) (row : Row (List ℕ)) → IsSound begin → IsDone body_text begin row done
    → IsSaidAgain row.stamped.command row.shown (said_over done row.stamped)

-- A row that stands in a content is told so, or is carried to the same content: it is never foreign.
abbrev pub RowThatStandsIsTold : Type 0
RowThatStandsIsTold =
    (begin done new : Content) (row : Row (List ℕ)) (ending : Redone) → IsSound begin → IsDone body_text begin row done
    → IsRedoneAs ending row.stamped row.shown done new → (ending ≢ Foreign) × (new ≡ done)

-- A row that can be done is carried.
abbrev pub RowThatIsDueIsCarried : Type 0
RowThatIsDueIsCarried =
    (begin done new : Content) (row : Row (List ℕ)) (ending : Redone) → IsDone body_text begin row done
    → IsRedoneAs ending row.stamped row.shown begin new → (ending ≡ Carried) × (new ≡ done)

-- A redo of what was redone does nothing, over any sound content and whatever reply the row has; and only what was
-- foreign is told as foreign then.
abbrev pub RedoneTwiceIsRedoneOnce : Type 0
RedoneTwiceIsRedoneOnce =
    (old once twice : Content) (s : Stamped) (reply : List ℕ) (first second : Redone) → IsSound old → IsProper s.command
    → IsRedoneAs first s reply old once → IsRedoneAs second s reply once twice
    → (twice ≡ once) × (second ≡ Foreign → first ≡ Foreign)

-- A redo with its ending is a redo: the command is carried, or nothing is done.
abbrev pub EndsAsRedone : Type 0
EndsAsRedone =
    (s : Stamped) (reply : List ℕ) (old new : Content) (ending : Redone) → IsSound old → IsProper s.command
    → IsRedoneAs ending s reply old new → IsRedone body_text s reply old new

-- A redo over one content ends in one way.
abbrev pub OneEnding : Type 0
OneEnding =
    (s : Stamped) (reply : List ℕ) (old new other : Content) (one second : Redone)
    → IsRedoneAs one s reply old new → IsRedoneAs second s reply old other → (one ≡ second) × (new ≡ other)

-- A start that redoes the journal's last row: whether the file holds what all rows did, or what all but the last did, it
-- holds after it what all rows did, and the journal is that of the file. The row isn't told as foreign.
abbrev pub StartIsWhole : Type 0
StartIsWhole =
    (begin before after file new : Content) (rows : List (Row (List ℕ))) (row : Row (List ℕ)) (ending : Redone)
    → IsSound begin → AreDone body_text begin rows before → IsDone body_text before row after
    → (file ≡ before) ⊎ (file ≡ after) → IsRedoneAs ending row.stamped row.shown file new
    → (new ≡ after) × AreDone body_text begin (rows ++ row ∷ []) new × (ending ≢ Foreign)

-- A start may stop on its way and begin again: what it left, and what it was about to leave, are the two contents with
-- which it may begin.
abbrev pub StartMayBeginAgain : Type 0
StartMayBeginAgain =
    (before after file left : Content) (row : Row (List ℕ)) → IsSound before → IsDone body_text before row after
    → (file ≡ before) ⊎ (file ≡ after) → (left ≡ file) ⊎ IsRedoneAs Carried row.stamped row.shown file left
    → (left ≡ before) ⊎ (left ≡ after)

-- The rows of a journal make one content of that with which it began: a desk may be rebuilt from them.
abbrev pub JournalMakesOneContent : Type 0 → Type 0
JournalMakesOneContent X =
    (shown : Said → X) (begin one other : Content) (rows : List (Row X))
    → AreDone shown begin rows one → AreDone shown begin rows other → one ≡ other

-- All that a row has to show is the GRN of an opening.
abbrev pub GrnIsEnough : Type 0
GrnIsEnough = TellsOpenings opened_by

-- A crash after a command, whether that was answered or failed, leaves the content before it or the
-- content after it.
abbrev pub CrashLeavesEither : {D : Type 0} → DeskView D → Type 0
CrashLeavesEither {D} view =
    (old new : D) (s : Stamped) (failed : Bool) (file after : Content) → IsCommandAt view old s failed new
    → Carries (view.content old) s after → view.may_leave new file → (file ≡ view.content old) ⊎ (file ≡ after)

-- So where the command's row was written before it was carried, a start that redoes the row after the crash comes to what the
-- command does, once, the journal is that of the content, and the row isn't told as foreign.
abbrev pub StartAfterCrashIsWhole : {D : Type 0} → DeskView D → Type 0
StartAfterCrashIsWhole {D} view =
    (begin file after end : Content) (rows : List (Row (List ℕ))) (row : Row (List ℕ)) (old new : D) (failed : Bool)
    (ending : Redone) → IsSound begin → AreDone body_text begin rows (view.content old)
    → IsDone body_text (view.content old) row after → IsCommandAt view old row.stamped failed new
    → view.may_leave new file → IsRedoneAs ending row.stamped row.shown file end
    → (end ≡ after) × AreDone body_text begin (rows ++ row ∷ []) end × (ending ≢ Foreign)
