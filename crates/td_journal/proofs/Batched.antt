-- Rows of a batch at a desk that keeps a journal.
use Rattle.std.proofs.Common.{◌≡◌, ℤ, List, [], ◌∷◌, None, Some, inl, inr, refl, sym, subst}
use Rattle.std.specs.List.{FoldsTo}
use Rattle.sqlite_disk.specs.declared.Disk.{Ghosts}
use Rattle.td_batch.specs.Runs.{IsRowCausedBy, IsRowDone, at_moment}
use Rattle.td_batch.proofs.AgainAtDesk.{clean_back, live_back}
use Rattle.td_commands.specs.declared.command.Command.{Command}
use Rattle.td_model.specs.Content.{IsSound}
use Rattle.td_desk.specs.Runs.{IsStep}
use Rattle.td_desk.specs.View.{DeskView}
use Rattle.td_desk.specs.declared.fault.Fault.TheVariants as fault
use Rattle.td_desk.specs.declared.running.Outcome.{Outcome}
use Rattle.td_desk.specs.declared.running.Outcome.TheVariants as outcome
use Rattle.td_journal.specs.Growth.{BatchIsJournaled, HasGrown, answered_rows}
use Rattle.td_journal.specs.Journaled.{journaled}
use Rattle.td_journal.specs.declared.desk.JournaledDesk.{JournaledDesk}
use Rattle.td_journal.proofs.Growing.{grown_on, nothing_grown, one_grown, taken_back, weighed_alone}

module _ {D F : Type 0} (g : Ghosts F) (view : DeskView D) (at : ℤ) where
  -- one row
  module _ (command : Command) (old new : JournaledDesk D F g) (clean : view.is_clean new.desk) (live : (journaled view).is_live new)
      (sound : IsSound (view.content old.desk)) where
    abbrev Live : JournaledDesk D F g → Type 0
    Live = (journaled view).is_live

    abbrev Grown : Outcome → Type 0
    Grown o = HasGrown view (answered_rows at ((command, o) ∷ [])) old new × IsSound (view.content new.desk)

    by_outcome : (o : Outcome) → IsRowCausedBy (journaled view) old (at_moment at command) o new
        → IsStep (Live old) (Live new) (view.content old.desk) (at_moment at command) o (view.content new.desk) → Grown o
    by_outcome (outcome.Said words) (inl (mid, weighed, carried)) step =
        let carries = (step.2 sound).1 in
        (one_grown view old mid new (at_moment at command) weighed carried carries clean sound, carries.sound)
    by_outcome (outcome.Said words) (inr memory) step = absurd (said memory.0)
      where
        said : outcome.Said words ≡ outcome.Failed fault.NoMemory → ⊥
        said is = cc
    by_outcome (outcome.Failed why) (inl (inl weighed)) step =
        (weighed_alone view old new (at_moment at command) (Some why) weighed (step live), subst IsSound (sym (step live)) sound)
    by_outcome (outcome.Failed why) (inl (inr (mid, weighed, carried))) step =
        (taken_back view old mid new (at_moment at command) why weighed carried live (step live), subst IsSound (sym (step live)) sound)
    by_outcome (outcome.Failed why) (inr memory) step =
        (weighed_alone view old new (at_moment at command) None memory.1 (step live), subst IsSound (sym (step live)) sound)

  -- the row of a command that was answered stands before those of the ones behind it
  first_row : (command : Command) (o : Outcome) (rows : List (Command × Outcome)) (old mid new : JournaledDesk D F g)
      → HasGrown view (answered_rows at ((command, o) ∷ [])) old mid → HasGrown view (answered_rows at rows) mid new
      → HasGrown view (answered_rows at ((command, o) ∷ rows)) old new
  first_row command (outcome.Said words) rows old mid new one more = grown_on view (at_moment at command ∷ []) (answered_rows at rows) old mid new one more
  first_row command (outcome.Failed why) rows old mid new one more = grown_on view [] (answered_rows at rows) old mid new one more

  rows_grown : (rows : List (Command × Outcome)) (old new : JournaledDesk D F g) → FoldsTo (IsRowDone (journaled view) at) old rows new
      → view.is_clean new.desk → (journaled view).is_live new → IsSound (view.content old.desk) → HasGrown view (answered_rows at rows) old new
  rows_grown [] old new steps clean live sound =
      subst (λ (d : JournaledDesk D F g). HasGrown view [] old d) steps (nothing_grown view old old refl refl refl (λ tight. tight) (λ durable. durable))
  rows_grown ((command, o) ∷ rows) old new steps clean live sound =
      let mid = steps.0 in
      let mid_clean = clean_back (journaled view) at rows mid new steps.2 clean in
      let mid_live = live_back (journaled view) at rows mid new steps.2 clean live in
      let one = by_outcome command old mid mid_clean mid_live sound o steps.1.calls (steps.1.performs mid_clean) in
      first_row command o rows old mid new one.0 (rows_grown rows mid new steps.2 clean live one.1)

pub batch_grown : {D F : Type 0} (g : Ghosts F) (view : DeskView D) → BatchIsJournaled g view
batch_grown g view line header at rows r old new done clean live sound =
    rows_grown g view at _ old new done.steps clean live sound
