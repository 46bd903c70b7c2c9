-- A desk at rest after many commands, and a crash behind them.
use Rattle.std.proofs.Common.{◌≡◌, ℕ, List, [], ◌∷◌, ◌++◌, inl, refl}
use Rattle.sqlite_disk.specs.declared.Disk.{Ghosts}
use Rattle.td_desk.specs.View.{DeskView}
use Rattle.td_journal.specs.declared.desk.JournaledDesk.{JournaledDesk}
use Rattle.td_journal_laws.specs.Crashes.{ACrashAfterARunIsMadeGood, ACrashBetweenIsMadeGood, ARunIsAtRest, IsUncarried, NoCrashAfterARunIsForeign, NoCrashBetweenIsForeign}
use Rattle.td_journal_laws.specs.Laws.{ARunIsWhole}
use Rattle.td_redo.specs.Redo.{Row}

none_before : (rows more : List (Row (List ℕ))) → rows ++ more ≡ [] → rows ≡ []
none_before [] more none = refl
none_before (row ∷ rows) more none = cc

-- nobody called the desk since
idle : {D F : Type 0} {g : Ghosts F} (view : DeskView D) (j : JournaledDesk D F g) → IsUncarried view j j
idle view j = record { journal = refl; leaves = record { outcomes = λ x may. inl may; recovers = λ is. is } }

module _ {D F : Type 0} (view : DeskView D) (g : Ghosts F) where
  pub run_is_at_rest : ARunIsWhole view g → ARunIsAtRest view g
  run_is_at_rest whole begin rows first list old new rest typed most grown =
      let kept = whole begin rows first list old new rest.kept typed most grown in (
        kept.0,
        record {
          kept = kept.1;
          begins = λ none. rest.begins (none_before rows kept.0 none);
          tight = grown.tight rest.tight;
          durable = grown.durable rest.durable;
        },
      )

  pub crash_after_is_made_good : ARunIsWhole view g → ACrashBetweenIsMadeGood view g → ACrashAfterARunIsMadeGood view g
  crash_after_is_made_good whole between begin rows first list old new j desk file rest typed most grown settled left start clean =
      let after = run_is_at_rest whole begin rows first list old new rest typed most grown in
      (after.0, between begin (rows ++ after.0) first new new j desk file after.1 settled (idle view new) left start clean)

  pub no_crash_after_is_foreign : ARunIsWhole view g → NoCrashBetweenIsForeign view g → NoCrashAfterARunIsForeign view g
  no_crash_after_is_foreign whole between begin rows first number list old new desk other file kept rest typed most grown settled left clean refused =
      let after = run_is_at_rest whole begin rows first list old new rest typed most grown in
      between begin (rows ++ after.0) first number new new desk other file kept after.1 settled (idle view new) left clean refused
