-- A start, step by step: the last row is taken at the desk, and what stands behind the text is cut off.
use Rattle.std.specs.Prelude.{◌≡◌, Option, None, Some, Ok, Err, IsTrue, length}
use Rattle.sqlite_disk.specs.Disk.{Only}
use Rattle.sqlite_disk.specs.declared.Disk.{Ghosts}
use Rattle.td_desk.specs.View.{DeskView}
use Rattle.td_desk.specs.declared.fault.Fault.TheVariants as fault
use Rattle.td_journal_lines.specs.Lines.{Numbered}
use Rattle.td_journal_start.specs.Lines.{IsJournal}
use Rattle.td_journal_start.specs.Rows.{last_seen}
use Rattle.td_journal_start.specs.Starts.{IsAsked, IsTaken}
use Rattle.td_journal_start.specs.Tails.{HasNext}
use Rattle.td_journal_start.specs.declared.refused.StartFault.{StartFault}
use Rattle.td_journal_start.specs.declared.refused.StartFault.TheVariants.{BadJournal, ForeignRow, NoMemory, Store}
use Rattle.td_journal_start.specs.declared.tail.Found.{Found}
use Rattle.td_redo.specs.declared.redoing.Redone.TheVariants.{Foreign}

-- the last row was asked, and isn't taken
abbrev pub IsUntaken : {D : Type 0} → DeskView D → D → Option Numbered → StartFault → D → Type 0
IsUntaken view old None why new = ⊥
IsUntaken view old (Some r) BadJournal new = ⊥
IsUntaken view old (Some r) (ForeignRow row) new = (r.number ≡ row) × IsAsked view old r.row (Ok Foreign) new
IsUntaken view old (Some r) NoMemory new = IsAsked view old r.row (Err fault.NoMemory) new
IsUntaken view old (Some r) Store new = IsAsked view old r.row (Err fault.Store) new

-- the text that was found stands alone in the file, and its last row was taken
pub record IsBegun {D F : Type 0} (view : DeskView D) (g : Ghosts F) (desk : D) (file : F) (found : Found) (new : D) (left : F) : Type 0 where
  pub next : HasNext found
  pub desk_is : IsTaken view desk (last_seen found.last) new
  pub text : IsTrue (g.is_clean left) → IsJournal (g.seen file) (g.seen left) (last_seen found.last)
  pub clean : IsTrue (g.is_clean left) → IsTrue (g.is_clean file)
  pub size : length (g.seen left) ≡ found.end
  pub durable : Only (g.seen left) (g.may_leave left)
