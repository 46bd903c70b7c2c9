-- What a crash leaves of a desk that keeps a journal, and what the next start makes of it.
use Rattle.std.specs.Prelude.{◌≡◌, ◌⊎◌, ℕ, ◌^◌, ◌<◌, ◌≤◌, List, [], ◌∷◌, ◌++◌, take, Option, None, Some, if◌then◌else◌}
use Rattle.std.specs.Option.{is_some}
use Rattle.sqlite_disk.specs.declared.Disk.{Ghosts}
use Rattle.td_commands.specs.declared.command.Stamped.{Stamped}
use Rattle.td_model.specs.Content.{Content}
use Rattle.td_desk.specs.View.{AddsAtMost, DeskView, LeavesOnly}
use Rattle.td_acts.specs.Weighing.{Carries}
use Rattle.td_desk.specs.declared.fault.Fault.{Fault}
use Rattle.td_desk.specs.declared.running.Outcome.{Outcome}
use Rattle.td_desk.specs.declared.running.Outcome.TheVariants.{Failed, Said}
use Rattle.td_journal.specs.Growth.{HasGrown}
use Rattle.td_journal.specs.Journal.{IsDurable, IsTight, next_number, text_of}
use Rattle.td_journal.specs.Journaled.{journaled, waiting, written}
use Rattle.td_journal.specs.Texts.{IsNoted, is_change_at}
use Rattle.td_journal.specs.declared.desk.JournaledDesk.{JournaledDesk}
use Rattle.td_journal_laws.specs.Kept.{BeginsAt, IsKeptAt}
use Rattle.td_journal_laws.specs.Laws.{AreTyped}
use Rattle.td_journal_rows.specs.Requests.{IsTyped}
use Rattle.td_journal_start.specs.Laws.{IsClean}
use Rattle.td_journal_start.specs.Starts.{IsStartRefused, IsStarted}
use Rattle.td_journal_start.specs.declared.refused.StartFault.TheVariants.{ForeignRow}
use Rattle.td_redo.specs.Crashes.{IsCommandAt}
use Rattle.td_redo.specs.Redo.{Row, said_over}
use Rattle.td_redo.specs.Replies.{body_text}

-- A desk whose journal's rows make its content, and whose journal is on the disk, with nothing behind its rows: as a start leaves it.
pub record IsAtRest {D F : Type 0} {g : Ghosts F} (view : DeskView D) (begin : Content) (rows : List (Row (List ℕ))) (first : ℕ) (j : JournaledDesk D F g) : Type 0 where
  pub kept : IsKeptAt view begin rows first j
  pub begins : BeginsAt first rows
  pub tight : IsTight j.journal
  pub durable : IsDurable j.journal

-- A command was weighed at such a desk, and its decision was carried, or this fault ended that. So much the two calls promise of a
-- desk that is clean in the end, and live once the command was weighed.
pub record IsCarriedAt {D F : Type 0} {g : Ghosts F} (view : DeskView D) (old : JournaledDesk D F g) (s : Stamped) (mid : JournaledDesk D F g) (fault : Option Fault) (new : JournaledDesk D F g) : Type 0 where
  pub clean : view.is_clean new.desk
  pub weighed : (journaled view).weighed old s None mid
  pub mid_clean : view.is_clean mid.desk
  pub live : view.is_live mid.desk
  pub same : view.content mid.desk ≡ view.content old.desk
  pub carried : (journaled view).carried mid fault new
  pub leaves : IsCommandAt (journaled view) mid s (is_some fault) new

-- Nothing was carried since: the journal is as it was, and a crash leaves no content more. So it is of a desk that nobody called, and of
-- one at which a command was weighed, also where that failed.
pub record IsUncarried {D F : Type 0} {g : Ghosts F} (view : DeskView D) (old new : JournaledDesk D F g) : Type 0 where
  pub journal : new.journal ≡ old.journal
  pub leaves : AddsAtMost view (λ _. ⊥) old.desk new.desk

-- A command ended so at such a desk: it was told what the desk says to it, and its decision was carried; or this fault ended the
-- weighing, or the carrying.
abbrev pub IsDoneAt : {D F : Type 0} {g : Ghosts F} → DeskView D → JournaledDesk D F g → Stamped → Outcome → JournaledDesk D F g → Type 0
IsDoneAt {D} {F} {g} view old s (Said words) new =
    (words ≡ said_over (view.content old.desk) s) × (mid : JournaledDesk D F g) × IsCarriedAt view old s mid None new
IsDoneAt {D} {F} {g} view old s (Failed why) new =
    ((journaled view).weighed old s (Some why) new × IsUncarried view old new) ⊎ ((mid : JournaledDesk D F g) × IsCarriedAt view old s mid (Some why) new)

-- A crash left what a start comes to: the desk's content, and the bytes of the journal's file.
pub record IsLeftBy {D F : Type 0} (view : DeskView D) (g : Ghosts F) (crashed : JournaledDesk D F g) (desk : D) (file : F) : Type 0 where
  pub content : view.may_leave crashed.desk (view.content desk)
  pub bytes : g.may_leave crashed.journal.file (g.seen file)

-- These bytes are a beginning of the text with the row that waited behind it, which is what a process leaves that is killed as it
-- writes the row. A power cut may leave other bytes behind the text: docs/DECISIONS.md, "A journal", says what is done then.
abbrev pub AreABeginning : List ℕ → List ℕ → List ℕ → Type 0
AreABeginning text row bytes = (n : ℕ) × (bytes ≡ take n (text ++ row))

-- the row of a command that a desk of this content accepts as a change, and of any other command none
abbrev pub rows_for : Content → Stamped → List (Row (List ℕ))
rows_for c s = if is_change_at c s then record { stamped = s; shown = body_text (said_over c s) } ∷ [] else []

-- What is left where a row is written before its change is carried, also by a crash between: the text and a beginning of the row,
-- and a desk of the content as it was, or, once the row stands whole, of that with the change.
pub record IsRowFirst (c : Content) (s : Stamped) (text row : List ℕ) (content : Content) (bytes : List ℕ) : Type 0 where
  pub torn : (m : ℕ) × (bytes ≡ text ++ take m row)
  pub ahead : (content ≡ c) ⊎ ((bytes ≡ text ++ row) × Carries c s content)

-- Whatever of this a start finds, it comes to the rows as before, or to those with the command's row.
abbrev pub ARowFirstIsMadeGood : {D F : Type 0} → DeskView D → Ghosts F → Type 0
ARowFirstIsMadeGood {D} {F} view g =
    (begin : Content) (rows : List (Row (List ℕ))) (first : ℕ) (old j : JournaledDesk D F g) (s : Stamped) (row : Option (List ℕ)) (desk : D) (file : F)
    → IsAtRest view begin rows first old → IsTyped s.command → next_number old.journal < 10 ^ 18
    → IsNoted (next_number old.journal) (view.content old.desk) s row
    → IsRowFirst (view.content old.desk) s (text_of old.journal) (written row) (view.content desk) (g.seen file)
    → IsStarted view desk file j → IsClean view g j.desk j.journal.file
    → IsKeptAt view begin rows first j ⊎ IsKeptAt view begin (rows ++ rows_for (view.content old.desk) s) first j

-- A desk whose command was answered is at rest again, with the command's row.
abbrev pub AnAnswerIsAtRest : {D F : Type 0} → DeskView D → Ghosts F → Type 0
AnAnswerIsAtRest {D} {F} view g =
    (begin : Content) (rows : List (Row (List ℕ))) (first : ℕ) (old mid new : JournaledDesk D F g) (s : Stamped)
    → IsAtRest view begin rows first old → IsTyped s.command → next_number old.journal < 10 ^ 18 → IsCarriedAt view old s mid None new
    → IsAtRest view begin (rows ++ rows_for (view.content old.desk) s) first new

-- The content after the next start is that of the rows before and of the command's row; if the command failed, perhaps without that.
abbrev pub IsMadeGood : {D F : Type 0} {g : Ghosts F} → DeskView D → Content → List (Row (List ℕ)) → ℕ → Content → Stamped → Option Fault → JournaledDesk D F g → Type 0
IsMadeGood view begin rows first c s None j = IsKeptAt view begin (rows ++ rows_for c s) first j
IsMadeGood view begin rows first c s (Some why) j = IsKeptAt view begin rows first j ⊎ IsKeptAt view begin (rows ++ rows_for c s) first j

-- So it is after a crash that comes once a decision was carried, or failed to be.
abbrev pub ACrashIsMadeGood : {D F : Type 0} → DeskView D → Ghosts F → Type 0
ACrashIsMadeGood {D} {F} view g =
    (begin : Content) (rows : List (Row (List ℕ))) (first : ℕ) (old mid new j : JournaledDesk D F g) (s : Stamped) (fault : Option Fault) (desk : D) (file : F)
    → IsAtRest view begin rows first old → IsTyped s.command → next_number old.journal < 10 ^ 18
    → IsCarriedAt view old s mid fault new → IsLeftBy view g new desk file
    → AreABeginning (text_of old.journal) (written (waiting mid)) (g.seen file)
    → IsStarted view desk file j → IsClean view g j.desk j.journal.file
    → IsMadeGood view begin rows first (view.content old.desk) s fault j

-- And the start isn't refused for a row of another desk.
abbrev pub NoCrashIsForeign : {D F : Type 0} → DeskView D → Ghosts F → Type 0
NoCrashIsForeign {D} {F} view g =
    (begin : Content) (rows : List (Row (List ℕ))) (first number : ℕ) (old mid new : JournaledDesk D F g) (s : Stamped) (fault : Option Fault) (desk after : D) (file left : F)
    → IsAtRest view begin rows first old → IsTyped s.command → next_number old.journal < 10 ^ 18
    → IsCarriedAt view old s mid fault new → IsLeftBy view g new desk file
    → AreABeginning (text_of old.journal) (written (waiting mid)) (g.seen file)
    → IsClean view g after left → IsStartRefused view g desk file (ForeignRow number) after left → ⊥

-- A crash before that, or between commands, costs nothing.
abbrev pub ACrashBetweenIsMadeGood : {D F : Type 0} → DeskView D → Ghosts F → Type 0
ACrashBetweenIsMadeGood {D} {F} view g =
    (begin : Content) (rows : List (Row (List ℕ))) (first : ℕ) (old new j : JournaledDesk D F g) (desk : D) (file : F)
    → IsAtRest view begin rows first old → LeavesOnly view old.desk (view.content old.desk) → IsUncarried view old new
    → IsLeftBy view g new desk file → IsStarted view desk file j → IsClean view g j.desk j.journal.file
    → IsKeptAt view begin rows first j

abbrev pub NoCrashBetweenIsForeign : {D F : Type 0} → DeskView D → Ghosts F → Type 0
NoCrashBetweenIsForeign {D} {F} view g =
    (begin : Content) (rows : List (Row (List ℕ))) (first number : ℕ) (old new : JournaledDesk D F g) (desk after : D) (file left : F)
    → IsAtRest view begin rows first old → LeavesOnly view old.desk (view.content old.desk) → IsUncarried view old new
    → IsLeftBy view g new desk file → IsClean view g after left → IsStartRefused view g desk file (ForeignRow number) after left → ⊥

-- ---- after many commands, in whatever way they came: a stream, connections, the rows of a batch

-- A desk at rest is at rest after them, too, with their rows behind those before.
abbrev pub ARunIsAtRest : {D F : Type 0} → DeskView D → Ghosts F → Type 0
ARunIsAtRest {D} {F} view g =
    (begin : Content) (rows : List (Row (List ℕ))) (first : ℕ) (list : List Stamped) (old new : JournaledDesk D F g)
    → IsAtRest view begin rows first old → AreTyped list → next_number new.journal ≤ 10 ^ 18 → HasGrown view list old new
    → (more : List (Row (List ℕ))) × IsAtRest view begin (rows ++ more) first new

-- So a crash behind them loses none of their rows, and the next start isn't refused for a row of another desk.
abbrev pub ACrashAfterARunIsMadeGood : {D F : Type 0} → DeskView D → Ghosts F → Type 0
ACrashAfterARunIsMadeGood {D} {F} view g =
    (begin : Content) (rows : List (Row (List ℕ))) (first : ℕ) (list : List Stamped) (old new j : JournaledDesk D F g) (desk : D) (file : F)
    → IsAtRest view begin rows first old → AreTyped list → next_number new.journal ≤ 10 ^ 18 → HasGrown view list old new
    → LeavesOnly view new.desk (view.content new.desk) → IsLeftBy view g new desk file
    → IsStarted view desk file j → IsClean view g j.desk j.journal.file
    → (more : List (Row (List ℕ))) × IsKeptAt view begin (rows ++ more) first j

abbrev pub NoCrashAfterARunIsForeign : {D F : Type 0} → DeskView D → Ghosts F → Type 0
NoCrashAfterARunIsForeign {D} {F} view g =
    (begin : Content) (rows : List (Row (List ℕ))) (first number : ℕ) (list : List Stamped) (old new : JournaledDesk D F g) (desk after : D) (file left : F)
    → IsAtRest view begin rows first old → AreTyped list → next_number new.journal ≤ 10 ^ 18 → HasGrown view list old new
    → LeavesOnly view new.desk (view.content new.desk) → IsLeftBy view g new desk file
    → IsClean view g after left → IsStartRefused view g desk file (ForeignRow number) after left → ⊥
