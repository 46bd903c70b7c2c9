-- Connections at a desk that keeps a journal.
use Rattle.std.proofs.Common.{◌≡◌, ℕ, ◌<◌, ℤ, List, [], ◌∷◌, length, map, Result, Ok, Err, refl, sym, ap, subst}
use Rattle.std.specs.Prelude.{MatchResult}
use Rattle.std.specs.declared.io.Error.{Error}
use Rattle.http_wire.specs.Stream.{Exchange}
use Rattle.sqlite_disk.specs.declared.Disk.{Ghosts}
use Rattle.td_model.specs.Content.{IsSound}
use Rattle.td_desk.specs.View.{DeskView}
use Rattle.td_http.specs.Connections.{Between, Connection, IsRefused, IsServedConnection, KnownConnections, ServedConnections, desk_server}
use Rattle.td_http.specs.Serving.{desk_of}
use Rattle.td_http.specs.declared.service.Service.{Service}
use Rattle.td_http.proofs.Private.{connections_clean}
use Rattle.td_http.proofs.Streamed.{ending_stays}
use Rattle.td_journal.specs.Growth.{HasGrown, ServingIsJournaled, answered, answered_over}
use Rattle.td_journal.specs.Journaled.{journaled}
use Rattle.td_journal.specs.declared.desk.JournaledDesk.{JournaledDesk}
use Rattle.td_journal.proofs.Growing.{grown_on, nothing_grown}
use Rattle.td_journal.proofs.Streamed.{chain_grown, chain_live}

module _ {D F R W L C : Type 0} (g : Ghosts F) (view : DeskView D) (known : KnownConnections L R W) (ticks : C → ℤ → C → Type 0) where
  abbrev State : Type 0
  State = Between L C (Service (JournaledDesk D F g))

  abbrev desk : State → JournaledDesk D F g
  desk b = desk_of b.handler

  abbrev Served : State → List (Connection R W) → State → Type 0
  Served = ServedConnections known (desk_server ticks (journaled view))

  abbrev IsEnd : JournaledDesk D F g → Type 0
  IsEnd d = view.is_clean d.desk × (journaled view).is_live d

  module _ (connection : Connection R W) (old new : State)
      (served : IsServedConnection known (desk_server ticks (journaled view)) old connection new) where
    stays : desk new ≡ desk_of served.served.run.handler
    stays = ending_stays served.served.run.handler new.handler served.served.run.rest served.served.run.ending served.served.ending

    ended : IsEnd (desk new) → IsEnd (desk_of served.served.run.handler)
    ended is = subst IsEnd stays is

    pub connection_live : IsEnd (desk new) → (journaled view).is_live (desk old)
    connection_live is =
        let it = ended is in
        chain_live g view C (Service (JournaledDesk D F g)) ticks desk_of served.served.run.exchanges 0 (old.clock, old.handler)
        (new.clock, served.served.run.handler) served.served.chain it.0 it.1

    pub connection_grown : IsEnd (desk new) → IsSound (view.content (desk old).desk)
        → HasGrown view (answered 0 connection.exchanges) (desk old) (desk new) × IsSound (view.content (desk new).desk)
    connection_grown is sound =
        let it = ended is in
        let grown = chain_grown g view C (Service (JournaledDesk D F g)) ticks desk_of 0 served.served.run.exchanges (old.clock, old.handler)
        (new.clock, served.served.run.handler) served.served.chain it.0 it.1 sound in (
          subst (λ (es : List Exchange). HasGrown view (answered 0 es) (desk old) (desk new)) (sym served.exchanges)
              (subst (λ (d : JournaledDesk D F g). HasGrown view (answered 0 served.served.run.exchanges) (desk old) d) (sym stays) grown.0),
          subst (λ (d : JournaledDesk D F g). IsSound (view.content d.desk)) (sym stays) grown.1,
        )

  clean_back : (all_served : List (Connection R W)) (old new : State) → Served old all_served new → view.is_clean (desk new).desk → view.is_clean (desk old).desk
  clean_back = connections_clean known ticks (journaled view)

  live_back : (all_served : List (Connection R W)) (old new : State) → Served old all_served new → IsEnd (desk new) → IsEnd (desk old)
  live_back [] old new were is = subst (λ (b : State). IsEnd (desk b)) (sym were) is
  live_back (connection ∷ all_served) old new were is =
      let mid = live_back all_served were.0 new were.2 is in
      (clean_back (connection ∷ all_served) old new were is.0, connection_live connection old were.0 were.1 mid)

  connections_grown : (all_served : List (Connection R W)) (old new : State) → Served old all_served new → IsEnd (desk new)
      → IsSound (view.content (desk old).desk)
      → HasGrown view (answered_over (map (λ connection. connection.exchanges) all_served)) (desk old) (desk new)
  connections_grown [] old new were is sound =
      subst (λ (b : State). HasGrown view [] (desk old) (desk b)) were (nothing_grown view (desk old) (desk old) refl refl refl (λ tight. tight) (λ durable. durable))
  connections_grown (connection ∷ all_served) old new were is sound =
      let mid = live_back all_served were.0 new were.2 is in
      let one = connection_grown connection old were.0 were.1 mid sound in
      grown_on view (answered 0 connection.exchanges) _ (desk old) (desk were.0) (desk new) one.0 (connections_grown all_served were.0 new were.2 is one.1)

  -- an accept that failed leaves the desk
  same_end : (all_served : List (Connection R W)) (last new : State) (count : ℕ) (answer : Result (Unit {0}) Error)
      → MatchResult answer (λ _. (length all_served ≡ count) × (new ≡ last)) (λ why. (length all_served < count) × IsRefused known.refuses last why new)
      → desk new ≡ desk last
  same_end all_served last new count (Ok done) ended = ap desk ended.1
  same_end all_served last new count (Err why) ended = ap desk_of ended.1.handler

  pub serving_grown : ServingIsJournaled g view known ticks
  serving_grown old new count answer served clean live sound =
      let same = same_end served.all_served served.last new count answer served.ended in
      let is : IsEnd (desk served.last) = subst IsEnd same (clean, live) in
      subst (λ (d : JournaledDesk D F g). HasGrown view (answered_over (map (λ connection. connection.exchanges) served.all_served)) (desk old) d) (sym same)
      (connections_grown served.all_served old served.last served.were_served is sound)
