-- A desk that has followed a journal is ready, where it was before; and goes on with the books that the rows ended with.
use Rattle.std.proofs.Common.{◌≡◌, ℕ, ℤ, List, Option, Ok, map, sym, subst}
use Rattle.counted_io.specs.declared.counted.Counted.{Counted}
use Rattle.td_acts.proofs.Fresh.{account_fresh}
use Rattle.td_model.specs.Content.{Content, IsSound}
use Rattle.td_desk.specs.Runs.{IsRun, IsTied, heard}
use Rattle.td_desk.specs.View.{DeskView}
use Rattle.td_jobs.specs.Desks.{IsReady, fresh_books}
use Rattle.td_http.specs.Private.{IsServedOver}
use Rattle.td_journal_jobs.specs.Standby.{StandbyGoesOn, said_to}
use Rattle.td_machine.specs.Machine.{Around}
use Rattle.td_model.specs.Book.{Book}
use Rattle.td_model.specs.Machine.{machine_book}
use Rattle.td_replay.specs.Following.{Follows}
use Rattle.td_replay.specs.Replays.{stamped_of}

fresh_tied : (c : Content) → IsTied c (fresh_books c)
fresh_tied c = record { each = λ H. sym (account_fresh H c); grown = λ H. tt }

pub followed_ready : {D R : Type 0} (view : DeskView D) (remaining : R → Option (List ℕ)) (opened begun : D) (reader read : Counted R) (count : ℕ)
    → Follows view remaining opened reader begun read (Ok count) → IsReady view opened → IsReady view begun
followed_ready view remaining opened begun reader read count all ready = λ clean.
    let told = all.followed.done in
    let was = ready (told.clean clean) in
    let live = told.live clean was.0 in
    let ran = told.tried.private clean was.0 was.1 (fresh_books (view.content opened)) (fresh_tied (view.content opened)) in
    (live, subst IsSound (sym (ran.2 live)) ran.1.sound)

pub standby_goes_on : {D R M L Reads Writes C : Type 0} (view : DeskView D) (remaining : R → Option (List ℕ)) (around : Around M L Reads Writes) (ticks : C → ℤ → C → Type 0)
    → StandbyGoesOn view remaining around ticks
standby_goes_on view remaining around ticks opened reader read count connections old new answer followed serving was_live sound is_clean books tied =
    let told = followed.followed.done in
    let clean = serving.clean is_clean in
    let live = told.live clean was_live in
    let (c, run, same) = told.tried.private clean was_live sound books tied in
    let at_begun = subst (IsRun (view.content opened).country books (map stamped_of followed.rows) (said_to told.said)) (sym (same live)) run in
    let later : ℕ → Book = λ H. machine_book H (books H) (heard (view.content opened).country H (map stamped_of followed.rows) (said_to told.said)) in
    let served = serving.private is_clean later at_begun.tied in (
      at_begun,
      subst
          (λ (country : List ℕ). (e : Content) × IsServedOver country later (map (λ connection. connection.exchanges) serving.served.all_served) e × (view.is_live new.desk → view.content new.desk ≡ e))
          at_begun.country_stays served,
    )
