-- What a desk tells that followed a journal and then served.
use Rattle.std.specs.Prelude.{◌≡◌, ℕ, ℤ, List, map, Option, Result}
use Rattle.std.specs.declared.io.Error.{Error}
use Rattle.counted_io.specs.declared.counted.Counted.{Counted}
use Rattle.td_commands.specs.declared.said.Said.{Said}
use Rattle.td_model.specs.Content.{Content, IsSound}
use Rattle.td_desk.specs.Runs.{IsRun, IsTied, heard}
use Rattle.td_desk.specs.View.{DeskView}
use Rattle.td_desk.specs.declared.running.Outcome.{Outcome}
use Rattle.td_desk.specs.declared.running.Outcome.TheVariants as outcome
use Rattle.td_http.specs.Private.{IsServedOver}
use Rattle.td_jobs.specs.Listening.{HasServed, ServingState}
use Rattle.td_machine.specs.Machine.{Around}
use Rattle.td_model.specs.Book.{Book}
use Rattle.td_model.specs.Machine.{machine_book}
use Rattle.td_replay.specs.Following.{FollowsAll}
use Rattle.td_replay.specs.Replays.{stamped_of}

-- what was said to the rows, each of which was told what it has
abbrev pub said_to : List Said → List Outcome
said_to said = map (λ words. outcome.Said words) said

-- A desk of sound content followed the rows of a journal, and then served connections; and it is clean in the end. Each holder was told
-- what the holder's own machine says, over the rows and then over all connections, from any books that say what the desk had at first:
-- the serving goes on with the books that the rows ended with.
abbrev pub StandbyGoesOn : {D R M L Reads Writes C : Type 0} → DeskView D → (R → Option (List ℕ)) → Around M L Reads Writes → (C → ℤ → C → Type 0) → Type 0
StandbyGoesOn {D} {R} {L = L} {C = C} view remaining around ticks =
    (opened : D) (reader read : Counted R) (count connections : ℕ) (old new : ServingState L C D) (answer : Result Unit Error)
    → (followed : FollowsAll view remaining opened reader count old.desk read)
    → (served : HasServed view around ticks connections old new answer)
    → view.is_live opened → IsSound (view.content opened) → view.is_clean new.desk
    → (books : ℕ → Book) → IsTied (view.content opened) books
    → let country = (view.content opened).country in
    let list = map stamped_of followed.rows in
    let outcomes = said_to followed.followed.done.said in
    IsRun country books list outcomes (view.content old.desk)
    × ((c : Content) × IsServedOver country (λ H. machine_book H (books H) (heard country H list outcomes))
    (map (λ connection. connection.exchanges) served.served.all_served) c
    × (view.is_live new.desk → view.content new.desk ≡ c))
