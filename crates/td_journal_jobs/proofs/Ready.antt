-- The desk that keeps a journal is ready, where the one was around which it stands.
use Rattle.std.proofs.Common.{sym, subst, List, ℕ, None, Some, Option}
use Rattle.sqlite_disk.specs.declared.Disk.{Ghosts}
use Rattle.td_commands.specs.declared.command.Stamped.{Stamped}
use Rattle.td_model.specs.Content.{Content, IsSound}
use Rattle.td_desk.specs.View.{DeskView}
use Rattle.td_jobs.specs.Desks.{IsReady}
use Rattle.td_journal.specs.Journaled.{journaled}
use Rattle.td_journal.specs.declared.desk.JournaledDesk.{JournaledDesk}
use Rattle.td_journal_lines.specs.Lines.{Numbered}
use Rattle.td_journal_start.specs.Starts.{IsTaken}
use Rattle.td_redo.specs.Endings.{IsRedoneAs}
use Rattle.td_redo.specs.declared.redoing.Redone.{Redone}
use Rattle.td_redo.specs.declared.redoing.Redone.TheVariants.{Carried, Stands, Foreign}
use Rattle.td_journal_jobs.specs.Journaling.{BeginsJournal}

left_sound : (ending : Redone) (s : Stamped) (reply : List ℕ) (old new : Content) → IsSound old → IsRedoneAs ending s reply old new → IsSound new
left_sound Carried s reply old new sound ends = ends.1.sound
left_sound Stands s reply old new sound ends = subst IsSound (sym ends.1) sound
left_sound Foreign s reply old new sound ends = subst IsSound (sym ends.1) sound

taken_ready : {D : Type 0} (view : DeskView D) (opened desk : D) (last : Option Numbered) → IsTaken view opened last desk → IsReady view opened → IsReady view desk
taken_ready view opened desk None taken ready = subst (IsReady view) (sym taken) ready
taken_ready view opened desk (Some r) (ending, of, asked) ready = λ clean.
    let was = ready (asked.clean clean) in
    ((asked.shown clean).1, left_sound ending _ _ _ _ was.1 (asked.ends clean was.1))

pub begun_ready : {D F : Type 0} {g : Ghosts F} (view : DeskView D) (opened : D) (file : F) (begun : JournaledDesk D F g)
    → BeginsJournal view opened file begun → IsReady view opened → IsReady (journaled view) begun
begun_ready view opened file begun begins ready = λ clean.
    let taken = taken_ready view opened begun.desk begins.started.last begins.started.desk_is ready clean in
    ((taken.0, begins.open_is), taken.1)
