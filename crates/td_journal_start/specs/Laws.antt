-- Laws of starts.
use Rattle.std.specs.Prelude.{◌≡◌, ◌⊎◌, ℕ, ◌+◌, ◌<◌, List, [], ◌∷◌, ◌++◌, IsTrue, length}
use Rattle.sqlite_disk.specs.declared.Disk.{Ghosts}
use Rattle.td_model.specs.Content.{Content, IsSound}
use Rattle.td_desk.specs.View.{DeskView}
use Rattle.td_journal.specs.Journal.{IsTight, file_of, next_number, text_of}
use Rattle.td_journal.specs.declared.desk.JournaledDesk.{JournaledDesk}
use Rattle.td_journal_rows.specs.Rows.{HasNoLineFeed}
use Rattle.td_journal_lines.specs.Lines.{IsLine}
use Rattle.td_journal_start.specs.Lines.{AreLines, tail}
use Rattle.td_journal_start.specs.Starts.{IsStartRefused, IsStarted}
use Rattle.td_journal_start.specs.declared.refused.StartFault.TheVariants.{BadJournal, ForeignRow}
use Rattle.td_redo.specs.Redo.{AreDone, IsDone, Row}
use Rattle.td_redo.specs.Replies.{body_text}

-- A desk and a file as a start left them: the desk's content, and the file's bytes.
pub record IsLeft {D F : Type 0} {g : Ghosts F} (view : DeskView D) (j : JournaledDesk D F g) (desk : D) (file : F) : Type 0 where
  pub tight : IsTight j.journal
  pub content : view.content desk ≡ view.content j.desk
  pub bytes : g.seen file ≡ file_of j.journal

-- what is said of both holds: the disks under the desk and under the journal returned what was written
abbrev pub IsClean : {D F : Type 0} → DeskView D → Ghosts F → D → F → Type 0
IsClean view g desk file = view.is_clean desk × IsTrue (g.is_clean file)

-- A start behind a start does nothing: content, text and next number stay.
abbrev pub StartedTwice : {D F : Type 0} → DeskView D → Ghosts F → Type 0
StartedTwice {D} {F} view g =
    (desk again : D) (file found : F) (one two : JournaledDesk D F g) → IsSound (view.content desk)
    → IsStarted view desk file one → IsClean view g one.desk one.journal.file
    → IsLeft view one again found
    → IsStarted view again found two → IsClean view g two.desk two.journal.file
    → (view.content two.desk ≡ view.content one.desk) × (text_of two.journal ≡ text_of one.journal) × (next_number two.journal ≡ next_number one.journal)

-- And it isn't refused for what stands in the journal.
abbrev pub NotRefusedAgain : {D F : Type 0} → DeskView D → Ghosts F → Type 0
NotRefusedAgain {D} {F} view g =
    (desk again new : D) (file found left : F) (one : JournaledDesk D F g) → IsSound (view.content desk)
    → IsStarted view desk file one → IsClean view g one.desk one.journal.file
    → IsLeft view one again found → IsClean view g new left
    → (IsStartRefused view g again found BadJournal new left → ⊥)
    × ((row : ℕ) → IsStartRefused view g again found (ForeignRow row) new left → ⊥)

-- A journal's rows: the content that they begin with, the number of the first, all but the last and what these make, the last one and
-- what it makes; their lines, and what is torn behind them.
pub record JournalRows : Type 0 where
  pub begin : Content
  pub first : ℕ
  pub rows : List (Row (List ℕ))
  pub before : Content
  pub row : Row (List ℕ)
  pub after : Content
  pub text : List ℕ
  pub torn : List ℕ

-- They were done one after the other, and stand in the file. The desk's content is that before the last row or that behind it.
pub record IsJournaled {D F : Type 0} (view : DeskView D) (g : Ghosts F) (all : JournalRows) (desk : D) (file : F) : Type 0 where
  pub sound : IsSound all.begin
  pub done : AreDone body_text all.begin all.rows all.before
  pub last : IsDone body_text all.before all.row all.after
  pub holds : (view.content desk ≡ all.before) ⊎ (view.content desk ≡ all.after)
  pub lines : AreLines all.first (all.rows ++ all.row ∷ []) all.text
  pub bytes : g.seen file ≡ all.text ++ all.torn
  pub torn_is : HasNoLineFeed all.torn

-- After a start the desk's content is what all rows make, and the text is their lines.
abbrev pub StartIsWhole : {D F : Type 0} → DeskView D → Ghosts F → Type 0
StartIsWhole {D} {F} view g =
    (all : JournalRows) (desk : D) (file : F) (j : JournaledDesk D F g) → IsJournaled view g all desk file
    → IsStarted view desk file j → IsClean view g j.desk j.journal.file
    → (view.content j.desk ≡ all.after) × AreDone body_text all.begin (all.rows ++ all.row ∷ []) (view.content j.desk)
    × (text_of j.journal ≡ all.text) × (next_number j.journal ≡ all.first + (length all.rows + 1))

-- And no row is told as foreign.
abbrev pub NoRowIsForeign : {D F : Type 0} → DeskView D → Ghosts F → Type 0
NoRowIsForeign {D} {F} view g =
    (all : JournalRows) (desk new : D) (file left : F) (number : ℕ)
    → IsJournaled view g all desk file → IsClean view g new left
    → IsStartRefused view g desk file (ForeignRow number) new left → ⊥

-- Nor is the file none of a journal, where the last line and what is torn behind it are less than what is read of a file.
abbrev pub JournalIsRead : {D F : Type 0} → DeskView D → Ghosts F → Type 0
JournalIsRead {D} {F} view g =
    (all : JournalRows) (desk new : D) (file left : F)
    → IsJournaled view g all desk file
    → ((line : List ℕ) → IsLine (record { number = all.first + length all.rows; row = all.row }) line → length line + length all.torn < tail)
    → IsClean view g new left → IsStartRefused view g desk file BadJournal new left → ⊥
