-- Connections at desks.
use Rattle.std.proofs.Common.{◌≡◌, ℕ, ◌<◌, ℤ, List, length, map, Result, Ok, Err, refl, subst}
use Rattle.std.specs.Prelude.{MatchResult}
use Rattle.std.specs.declared.io.Error.{Error}
use Rattle.td_http.specs.declared.service.Service.{Service}
use Rattle.td_http.specs.Serving.{desk_of}
use Rattle.td_http.specs.Private.{IsPrivateOver}
use Rattle.td_http.specs.Connections.{Between, Connection, IsRefused, ServesConnections, desk_server}
use Rattle.td_http.proofs.Private.{connections_clean}
use Rattle.td_desk.specs.View.{DeskView}
use Rattle.td_machine.specs.Machine.{Around}
use Rattle.td_jobs.specs.Desks.{IsReady}
use Rattle.td_jobs.specs.Listening.{HasServed}

-- a desk that is clean after the connections, and after an accept that failed, was clean after the last connection
last_clean : {L R W C D : Type 0} (is_clean : D → Type 0) (refuses : L → Error → L → Type 0) (all_served : List (Connection R W)) (last new : Between L C (Service D))
    (count : ℕ) (answer : Result (Unit {0}) Error)
    → MatchResult answer (λ _. (length all_served ≡ count) × (new ≡ last)) (λ why. (length all_served < count) × IsRefused refuses last why new)
    → is_clean (desk_of new.handler) → is_clean (desk_of last.handler)
last_clean {L} {C = C} {D = D} is_clean refuses all_served last new count (Ok done) ended clean = subst (λ (b : Between L C (Service D)). is_clean (desk_of b.handler)) ended.1 clean
last_clean {D = D} is_clean refuses all_served last new count (Err why) ended clean = subst (λ (s : Service D). is_clean (desk_of s)) ended.1.handler clean

-- connections that were served at a service of a desk
pub has_served : {D M L Reads Writes C : Type 0} (view : DeskView D) (around : Around M L Reads Writes) (ticks : C → ℤ → C → Type 0) (count : ℕ)
    (came gone : L) (clock clock_left : C) (old new : Service D) (answer : Result (Unit {0}) Error)
    → (served : ServesConnections around.connections (desk_server ticks view)
    (record { source = came; clock = clock; handler = old }) (record { source = gone; clock = clock_left; handler = new }) count answer)
    → IsPrivateOver view old new (map (λ connection. connection.exchanges) served.all_served) → IsReady view (desk_of old)
    → HasServed view around ticks count (record { source = came; clock = clock; desk = desk_of old })
    (record { source = gone; clock = clock_left; desk = desk_of new }) answer
has_served view around ticks count came gone clock clock_left old new answer served private ready =
    let was : view.is_clean (desk_of new) → view.is_clean (desk_of old) = (λ clean. connections_clean around.connections ticks view
    served.all_served (record { source = came; clock = clock; handler = old }) served.last served.were_served
    (last_clean view.is_clean around.connections.refuses served.all_served served.last (record { source = gone; clock = clock_left; handler = new }) count answer served.ended clean)) in
    record {
      service = old;
      service_left = new;
      opened_is = refl;
      left_is = refl;
      served = served;
      clean = was;
      private = λ clean books tied. let is = ready (was clean) in private clean is.0 is.1 books tied;
    }
