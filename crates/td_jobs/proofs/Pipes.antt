-- Streams at desks.
use Rattle.std.proofs.Common.{ℕ, ℤ, List, Option, refl}
use Rattle.counted_io.specs.declared.counted.Counted.{Counted}
use Rattle.http_wire.specs.declared.stream.StreamEnd.{StreamEnd}
use Rattle.http_wire.specs.Stream.{Serves}
use Rattle.td_http.specs.declared.service.Service.{Service}
use Rattle.td_http.specs.Serving.{desk_of, IsHandledBy, IsHeadHandledBy, IsPrivate}
use Rattle.td_http.proofs.Streamed.{stream_clean}
use Rattle.td_desk.specs.View.{DeskView}
use Rattle.td_jobs.specs.Desks.{IsReady}
use Rattle.td_jobs.specs.Jobs.{state_of}
use Rattle.td_jobs.specs.Piped.{IsPiped}

-- a stream that was served at a service of a desk
pub piped_at : {D R W C : Type 0} (view : DeskView D) (remaining : R → Option (List ℕ)) (contents : W → Option (List ℕ)) (ticks : C → ℤ → C → Type 0)
    (reader reader_left : Counted R) (writer writer_left : Counted W) (clock clock_left : C) (old new : Service D) (end : StreamEnd)
    → (served : Serves remaining contents ticks (IsHandledBy view) IsHeadHandledBy
    (record { reader = reader; writer = writer; clock = clock; handler = old }) (record { reader = reader_left; writer = writer_left; clock = clock_left; handler = new }) end)
    → IsPrivate view old new served.run.exchanges → IsReady view (desk_of old)
    → IsPiped view remaining contents ticks (state_of (desk_of old) reader writer clock) (state_of (desk_of new) reader_left writer_left clock_left) end
piped_at view remaining contents ticks reader reader_left writer writer_left clock clock_left old new end served private ready =
    let run = served.run in
    let was = stream_clean ticks view clock clock_left old run.handler new run.exchanges run.rest run.ending served.chain served.ending in
    record {
      service = old;
      service_left = new;
      opened_is = refl;
      left_is = refl;
      served = served;
      clean = was;
      private = λ clean books tied. let is = ready (was clean) in private clean is.0 is.1 books tied;
    }
