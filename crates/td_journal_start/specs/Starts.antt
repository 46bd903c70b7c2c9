-- What a start does to a desk and to the file of its journal.
use Rattle.std.specs.Prelude.{◌≡◌, ◌≢◌, ◌⊎◌, ℕ, List, Option, None, Some, Result, Ok, Err, IfOk, IsTrue, OnErr, OnOk, length, take}
use Rattle.sqlite_disk.specs.declared.Disk.{Ghosts}
use Rattle.td_commands.specs.Commands.{IsProper}
use Rattle.td_model.specs.Content.{IsSound}
use Rattle.td_desk.specs.View.{AddsAtMost, DeskView, IsSettled}
use Rattle.td_desk.specs.declared.fault.Fault.{Fault}
use Rattle.td_desk.specs.declared.fault.Fault.TheVariants as fault
use Rattle.td_journal.specs.Journal.{FileFailed, next_number, text_of}
use Rattle.td_journal.specs.declared.desk.JournaledDesk.{JournaledDesk}
use Rattle.td_journal_lines.specs.Lines.{Numbered}
use Rattle.td_journal_start.specs.Lines.{IsJournal, IsNoJournal, next_after}
use Rattle.td_journal_start.specs.declared.refused.StartFault.{StartFault}
use Rattle.td_journal_start.specs.declared.refused.StartFault.TheVariants.{BadJournal, ForeignRow, NoMemory, Store}
use Rattle.td_redo.specs.Endings.{IsRedoneAs, IsRedoneBy}
use Rattle.td_redo.specs.Redo.{Row}
use Rattle.td_redo.specs.declared.redoing.Redone.{Redone}
use Rattle.td_redo.specs.declared.redoing.Redone.TheVariants.{Carried, Foreign}

-- A row was asked again at a desk, with this ending or fault: what the call that redoes a row promises.
pub record IsAsked {D : Type 0} (view : DeskView D) (old : D) (row : Row (List ℕ)) (result : Result Redone Fault) (new : D) : Type 0 where
  pub proper : IsProper row.stamped.command
  pub clean : view.is_clean new → view.is_clean old
  pub live : view.is_clean new → view.is_live new → view.is_live old
  pub shown : view.is_clean new → OnOk result (view.is_live old × view.is_live new)
  pub ends : view.is_clean new → IsSound (view.content old)
      → IfOk result (λ ending. IsRedoneAs ending row.stamped row.shown (view.content old) (view.content new))
  pub err : view.is_clean new → view.is_live new → OnErr result (view.content new ≡ view.content old)
  pub memory : view.is_clean new → result ≡ Err fault.NoMemory → view.is_live new
  pub store : result ≡ Err fault.Store → view.has_store
  -- a crash leaves what it could leave before, or the content with the row's change
  pub crash : view.is_clean new → AddsAtMost view
      (λ x. view.is_live old × (IsSound (view.content old) → IsRedoneAs Carried row.stamped row.shown (view.content old) x)) old new
  pub settled : view.is_clean new → IsSettled view new
  pub calls : IsRedoneBy view old row.stamped result new

-- the last row was asked, and it is of the desk; where there is none, the desk wasn't asked
abbrev pub IsTaken : {D : Type 0} → DeskView D → D → Option Numbered → D → Type 0
IsTaken view old None new = new ≡ old
IsTaken view old (Some r) new = (ending : Redone) × (ending ≢ Foreign) × IsAsked view old r.row (Ok ending) new

-- the file is as it was found, and a crash leaves no more than it could leave before
pub record IsAsFound {F : Type 0} (g : Ghosts F) (file left : F) : Type 0 where
  pub seen : g.seen left ≡ g.seen file
  pub leaves : (bytes : List ℕ) → g.may_leave left bytes → g.may_leave file bytes
  pub clean : IsTrue (g.is_clean left) → IsTrue (g.is_clean file)

-- A start: the last row of the file's text was taken, and the text alone is left. What is said of the file's bytes is said
-- where they were read as they are.
pub record IsStarted {D F : Type 0} {g : Ghosts F} (view : DeskView D) (desk : D) (file : F) (j : JournaledDesk D F g) : Type 0 where
  pub last : Option Numbered
  pub next : next_number j.journal ≡ next_after last
  pub desk_is : IsTaken view desk last j.desk
  pub found : IsTrue (g.is_clean j.journal.file) → IsJournal (g.seen file) (text_of j.journal) last
  pub clean : IsTrue (g.is_clean j.journal.file) → IsTrue (g.is_clean file)

-- The row was asked, with this ending or fault. It is the last one of the file, which is as it was found.
pub record IsRefusedAt {D F : Type 0} (view : DeskView D) (g : Ghosts F) (desk : D) (file : F) (r : Numbered) (result : Result Redone Fault) (new : D) (left : F) : Type 0 where
  pub asked : IsAsked view desk r.row result new
  pub file_is : IsAsFound g file left
  pub found : IsTrue (g.is_clean left) → (text : List ℕ) × IsJournal (g.seen file) text (Some r)

-- A file's text, and that the file still begins with it, also after a crash.
pub record IsKept {F : Type 0} (g : Ghosts F) (file : F) (last : Option Numbered) (left : F) : Type 0 where
  pub text : List ℕ
  pub found : IsJournal (g.seen file) text last
  pub begins : take (length text) (g.seen left) ≡ text
  pub leaves : ((bytes : List ℕ) → g.may_leave file bytes → take (length text) bytes ≡ text)
      → (bytes : List ℕ) → g.may_leave left bytes → take (length text) bytes ≡ text

-- The last row was taken, and a torn one couldn't be cut off.
pub record IsUncut {D F : Type 0} (view : DeskView D) (g : Ghosts F) (desk : D) (file : F) (new : D) (left : F) : Type 0 where
  pub last : Option Numbered
  pub desk_is : IsTaken view desk last new
  pub failed : FileFailed g file left
  pub kept : IsTrue (g.is_clean left) → IsKept g file last left
  pub clean : IsTrue (g.is_clean left) → IsTrue (g.is_clean file)

-- Neither the desk was asked nor the file changed.
pub record IsUnasked {D F : Type 0} (g : Ghosts F) (desk : D) (file : F) (new : D) (left : F) : Type 0 where
  pub desk_is : new ≡ desk
  pub file_is : IsAsFound g file left

-- Why there was no start, and what is left of the desk and of the file.
abbrev pub IsStartRefused : {D F : Type 0} → DeskView D → Ghosts F → D → F → StartFault → D → F → Type 0
IsStartRefused view g desk file BadJournal new left = IsUnasked g desk file new left × (IsTrue (g.is_clean left) → IsNoJournal (g.seen file))
IsStartRefused view g desk file (ForeignRow row) new left =
    (r : Numbered) × (r.number ≡ row) × IsRefusedAt view g desk file r (Ok Foreign) new left
IsStartRefused view g desk file NoMemory new left =
    IsUnasked g desk file new left ⊎ ((r : Numbered) × IsRefusedAt view g desk file r (Err fault.NoMemory) new left)
IsStartRefused view g desk file Store new left =
    (IsUnasked g desk file new left × FileFailed g file left)
    ⊎ (((r : Numbered) × IsRefusedAt view g desk file r (Err fault.Store) new left) ⊎ IsUncut view g desk file new left)
