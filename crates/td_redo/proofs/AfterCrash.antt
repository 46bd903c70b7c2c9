-- What a crash leaves of a desk after a command that was answered or failed, and what a redo makes of it.
use Rattle.std.proofs.Common.{◌≡◌, ◌⊎◌, Bool, true, false, refl, ◌∙◌, inl, inr}
use Rattle.td_commands.specs.declared.command.Stamped.{Stamped}
use Rattle.td_model.specs.Machine.{is_accepted}
use Rattle.td_model.specs.Content.{Content}
use Rattle.td_desk.specs.View.{DeskView}
use Rattle.td_acts.specs.Weighing.{owner_account, Carries}
use Rattle.td_redo.specs.Laws.{CrashLeavesEither, StartAfterCrashIsWhole}
use Rattle.td_redo.proofs.Contents.{carried_alike}
use Rattle.td_redo.proofs.Journals.{start_is_whole}

-- what was left before, or what this command does
either : {D : Type 0} (view : DeskView D) (old : D) (s : Stamped) (file after : Content) → ((x : Content) → view.may_leave old x → x ≡ view.content old)
    → Carries (view.content old) s after → view.may_leave old file ⊎ Carries (view.content old) s file → (file ≡ view.content old) ⊎ (file ≡ after)
either view old s file after only carried (inl before) = inl (only file before)
either view old s file after only carried (inr done) = inr (carried_alike (view.content old) file after s done carried)

none_added : {D : Type 0} (view : DeskView D) (old : D) (s : Stamped) (file : Content) → view.may_leave old file ⊎ ⊥ → view.may_leave old file ⊎ Carries (view.content old) s file
none_added view old s file (inl before) = inl before
none_added view old s file (inr none) = absurd none

added : {D : Type 0} (view : DeskView D) (old : D) (s : Stamped) (file : Content) (live sound : Type 0) → sound
    → view.may_leave old file ⊎ (live × (sound → Carries (view.content old) s file)) → view.may_leave old file ⊎ Carries (view.content old) s file
added view old s file live sound is (inl before) = inl before
added view old s file live sound is (inr more) = inr (more.1 is)

pub crash_leaves_either : {D : Type 0} (view : DeskView D) → CrashLeavesEither view
crash_leaves_either view old new s true file after at carried left =
    either view old s file after at.settled.only carried (added view old s file (view.is_live old) _ at.sound (at.leaves.outcomes file left))
crash_leaves_either view old new s false file after at carried left =
    by_test (is_accepted (owner_account (view.content old) s.command) s.at s.command) refl
  where
    by_test : (b : Bool) → is_accepted (owner_account (view.content old) s.command) s.at s.command ≡ b → (file ≡ view.content old) ⊎ (file ≡ after)
    by_test true accepted =
        inr (((at.leaves at.sound).0 accepted).only file left ∙ carried_alike (view.content old) (view.content new) after s (at.answered refl) carried)
    by_test false other =
        either view old s file after at.settled.only carried (none_added view old s file (((at.leaves at.sound).1 other).outcomes file left))

pub start_after_crash_is_whole : {D : Type 0} (view : DeskView D) → StartAfterCrashIsWhole view
start_after_crash_is_whole view begin file after end rows row old new failed ending sound done last at left ends =
    start_is_whole begin (view.content old) after file end rows row ending sound done last
    (crash_leaves_either view old new row.stamped failed file after at last.carried left) ends
