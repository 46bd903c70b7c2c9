-- What a journal has after a job, by what it has after the commands of the job.
use Rattle.std.proofs.Common.{◌≡◌, ◌∙◌, sym, subst, ℤ, List, ℕ, Option}
use Rattle.std.specs.Prelude.{map}
use Rattle.sqlite_disk.specs.declared.Disk.{Ghosts}
use Rattle.td_model.specs.Content.{IsSound}
use Rattle.td_desk.specs.View.{DeskView}
use Rattle.td_http.specs.Serving.{desk_of}
use Rattle.td_http.proofs.Streamed.{ending_stays}
use Rattle.td_journal.specs.Growth.{BatchIsJournaled, HasGrown, ServingIsJournaled, StreamIsJournaled, answered, answered_over}
use Rattle.td_journal.specs.Journaled.{journaled}
use Rattle.td_journal.specs.declared.desk.JournaledDesk.{JournaledDesk}
use Rattle.td_machine.specs.Machine.{Around}
use Rattle.td_journal_jobs.specs.Kept.{BatchIsKept, ServingIsKept, StreamIsKept}

module _ {D F : Type 0} (g : Ghosts F) (view : DeskView D) where
  pub stream_kept : {R W C : Type 0} (remaining : R → Option (List ℕ)) (contents : W → Option (List ℕ)) (ticks : C → ℤ → C → Type 0)
      → StreamIsJournaled g view ticks → StreamIsKept g view remaining contents ticks
  stream_kept remaining contents ticks law old new end piped ends =
      let stopped = new.desk in
      let run = piped.served.run in
      let grown = answered 0 run.exchanges in
      let same : stopped ≡ desk_of run.handler =
      sym piped.left_is ∙ ending_stays run.handler piped.service_left run.rest run.ending piped.served.ending in
      subst (λ (d : JournaledDesk D F g). HasGrown view grown d stopped) piped.opened_is
      (subst (λ (d : JournaledDesk D F g). HasGrown view grown (desk_of piped.service) d) (sym same)
      (law 0 run.exchanges (old.machine, piped.service) (new.machine, run.handler) piped.served.chain
      (subst (λ (d : JournaledDesk D F g). view.is_clean d.desk) same ends.clean)
      (subst (journaled view).is_live same ends.live)
      (subst (λ (d : JournaledDesk D F g). IsSound (view.content d.desk)) (sym piped.opened_is) ends.sound)))

  pub serving_kept : {M L Reads Writes C : Type 0} (around : Around M L Reads Writes) (ticks : C → ℤ → C → Type 0)
      → ServingIsJournaled g view around.connections ticks → ServingIsKept g view around ticks
  serving_kept around ticks law connections old new answer served ends =
      let stopped = new.desk in
      let grown = answered_over (map (λ connection. connection.exchanges) served.served.all_served) in
      subst (λ (d : JournaledDesk D F g). HasGrown view grown d stopped) served.opened_is
      (subst (λ (d : JournaledDesk D F g). HasGrown view grown (desk_of served.service) d) served.left_is
      (law (record { source = old.source; clock = old.clock; handler = served.service }) (record { source = new.source; clock = new.clock; handler = served.service_left })
      connections answer served.served
      (subst (λ (d : JournaledDesk D F g). view.is_clean d.desk) (sym served.left_is) ends.clean)
      (subst (journaled view).is_live (sym served.left_is) ends.live)
      (subst (λ (d : JournaledDesk D F g). IsSound (view.content d.desk)) (sym served.opened_is) ends.sound)))

  pub batch_kept : {M : Type 0} (ticks : M → ℤ → M → Type 0) → BatchIsJournaled g view → BatchIsKept g view ticks
  batch_kept ticks law at which commands old new r rows done ends =
      law _ _ rows.moment commands r old.desk new.desk done ends.clean ends.live ends.sound
