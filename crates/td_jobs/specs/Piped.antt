-- One stream of requests at a desk.
use Rattle.std.specs.Prelude.{◌≡◌, ℕ, ℤ, List, Option}
use Rattle.td_model.specs.Book.{Book}
use Rattle.td_model.specs.Content.{Content}
use Rattle.td_desk.specs.Runs.{IsTied}
use Rattle.td_desk.specs.View.{DeskView}
use Rattle.td_http.specs.Serving.{desk_of, IsHandledBy, IsHeadHandledBy, IsServed}
use Rattle.td_http.specs.declared.service.Service.{Service}
use Rattle.http_wire.specs.declared.stream.StreamEnd.{StreamEnd}
use Rattle.http_wire.specs.Stream.{Serves}
use Rattle.td_jobs.specs.Desks.{ByClock}
use Rattle.td_jobs.specs.Jobs.{JobState, KnownJob, by_machine}

-- A stream of requests was served at a service of a desk that is seen so, by a clock: the bytes consumed are whole requests and a
-- rest, and what was written is the replies to them and what parts with the rest. Where the desk is clean in the end, each holder's
-- requests had the replies of that holder's own machine, from any books that say what the desk had at first, as fresh ones do;
-- and where no fault has shut it, its content is the one after them.
pub record IsPiped {D R W C : Type 0} (view : DeskView D) (remaining : R → Option (List ℕ)) (contents : W → Option (List ℕ))
    (ticks : C → ℤ → C → Type 0) (old new : JobState D R W C) (end : StreamEnd) : Type 0 where
  pub service : Service D
  pub service_left : Service D
  pub opened_is : desk_of service ≡ old.desk
  pub left_is : desk_of service_left ≡ new.desk
  pub served : Serves remaining contents ticks (IsHandledBy view) IsHeadHandledBy
      (record { reader = old.input; writer = old.output; clock = old.machine; handler = service })
      (record { reader = new.input; writer = new.output; clock = new.machine; handler = service_left }) end
  pub clean : view.is_clean new.desk → view.is_clean old.desk
  pub private : view.is_clean new.desk → (books : ℕ → Book) → IsTied (view.content old.desk) books
      → (c : Content) × IsServed (view.content old.desk).country books 0 served.run.exchanges c
      × (view.is_live new.desk → view.content new.desk ≡ c)

-- the same by the clock of a job
abbrev pub IsPipedAt : {D R W M L Reads Writes : Type 0} → DeskView D → KnownJob R W M L Reads Writes → Option ℤ → JobState D R W M → JobState D R W M
    → StreamEnd → Type 0
IsPipedAt view known at old new end =
    ByClock known.around.ticks at old.machine new.machine
    (λ C by clock clock_left. IsPiped view known.remaining known.contents by (by_machine clock old) (by_machine clock_left new) end)
