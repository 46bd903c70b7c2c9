-- Laws of what a journal's rows make: over commands that were answered, and over a start.
use Rattle.std.specs.Prelude.{◌≡◌, ℕ, ◌^◌, ◌≤◌, List, ◌++◌}
use Rattle.std.specs.List.{AllByRecursion}
use Rattle.sqlite_disk.specs.declared.Disk.{Ghosts}
use Rattle.td_commands.specs.declared.command.Stamped.{Stamped}
use Rattle.td_model.specs.Content.{Content, IsSound}
use Rattle.td_desk.specs.View.{DeskView}
use Rattle.td_journal.specs.Growth.{AreJournaled, HasGrown}
use Rattle.td_journal.specs.Journal.{next_number, text_of}
use Rattle.td_journal.specs.declared.desk.JournaledDesk.{JournaledDesk}
use Rattle.td_journal_laws.specs.Kept.{IsKept, IsKeptAt, IsToBeStarted, JournalText}
use Rattle.td_journal_rows.specs.Requests.{IsTyped}
use Rattle.td_journal_start.specs.Laws.{IsClean}
use Rattle.td_journal_start.specs.Starts.{IsStartRefused, IsStarted}
use Rattle.td_journal_start.specs.declared.refused.StartFault.TheVariants.{ForeignRow}
use Rattle.td_redo.specs.Redo.{Row}

-- the parts of each command are in the ranges of their types, as they are of whatever command the code has
abbrev pub AreTyped : List Stamped → Type 0
AreTyped list = AllByRecursion (λ s. IsTyped s.command) list

-- What a journal has grown by is the lines of rows, with numbers of at most 18 digits, that were done over the content before, and
-- made the one behind.
abbrev pub RowsAreDone : Type 0
RowsAreDone =
    (number next : ℕ) (c end : Content) (list : List Stamped) (text : List ℕ) → IsSound c → AreTyped list → next ≤ 10 ^ 18
    → AreJournaled number c list text next end → (rows : List (Row (List ℕ))) × IsKept c rows number next text end

-- So where rows made the content of a desk that keeps a journal, these and more of them make it after commands that were answered.
abbrev pub ARunIsWhole : {D F : Type 0} → DeskView D → Ghosts F → Type 0
ARunIsWhole {D} {F} view g =
    (begin : Content) (rows : List (Row (List ℕ))) (first : ℕ) (list : List Stamped) (old new : JournaledDesk D F g)
    → IsKeptAt view begin rows first old → AreTyped list → next_number new.journal ≤ 10 ^ 18 → HasGrown view list old new
    → (more : List (Row (List ℕ))) × IsKeptAt view begin (rows ++ more) first new

-- And they make it after a start, where the desk may have lacked the last row, and the file may have had a torn one behind them.
abbrev pub AStartIsWhole : {D F : Type 0} → DeskView D → Ghosts F → Type 0
AStartIsWhole {D} {F} view g =
    (all : JournalText) (desk : D) (file : F) (j : JournaledDesk D F g)
    → IsToBeStarted view g all desk file → IsStarted view desk file j → IsClean view g j.desk j.journal.file
    → IsKeptAt view all.begin all.rows all.first j × (view.content j.desk ≡ all.content) × (text_of j.journal ≡ all.text)

-- Such a start isn't refused for a row of another desk.
abbrev pub NoStartIsForeign : {D F : Type 0} → DeskView D → Ghosts F → Type 0
NoStartIsForeign {D} {F} view g =
    (all : JournalText) (number : ℕ) (desk new : D) (file left : F)
    → IsToBeStarted view g all desk file → IsClean view g new left
    → IsStartRefused view g desk file (ForeignRow number) new left → ⊥
