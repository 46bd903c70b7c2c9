-- Connections that are served one after another, and those of a listening socket.
use Rattle.std.specs.Prelude.{◌≡◌, ℕ, ◌<◌, ℤ, false, List, length, Option, Result, MatchResult, None}
use Rattle.std.specs.List.{FoldsTo}
use Rattle.std.specs.declared.io.Error.{Error}
use Rattle.counted_io.specs.declared.counted.Counted.{Counted}
use Rattle.counted_io.specs.Counted.{calls_of, has_failed, inner_of}
use Rattle.http_wire.specs.declared.reply.Reply.{Reply}
use Rattle.http_wire.specs.declared.stream.StreamEnd.{StreamEnd}
use Rattle.http_wire.specs.Wire.{Asked}
use Rattle.http_wire.specs.Stream.{Exchange, Serves}
use Rattle.td_desk.specs.View.{DeskView}
use Rattle.td_http.specs.Serving.{IsHandledBy, IsHeadHandledBy}
use Rattle.td_http.specs.declared.service.Service.{Service}
use Rattle.td_http.specs.declared.sides.ReplySide.{ReplySide}
use Rattle.td_http.specs.declared.sides.RequestSide.{RequestSide}

-- What is known of connections that come by a source of type L, with sides of the types R and W.
pub record KnownConnections (L R W : Type 0) : Type 1 where
  -- the bytes of a connection that are still to be read, and those written
  pub remaining : R → Option (List ℕ)
  pub contents : W → Option (List ℕ)
  -- the source gives a connection, takes it back, or has none
  pub gives : L → R → W → L → Type 0
  pub takes : L → R → W → L → Type 0
  pub refuses : L → Error → L → Type 0

-- What is known of who serves them: how the clock ticks, and what the handler answers to a request, and to a HEAD.
pub record KnownServer (C H : Type 0) : Type 1 where
  pub ticks : C → ℤ → C → Type 0
  pub handles : H → ℤ → Asked → Reply → H → Type 0
  pub heads : H → List ℕ → Reply → H → Type 0

abbrev pub connections_by : {L R W : Type 0} → (R → Option (List ℕ)) → (W → Option (List ℕ)) → (L → R → W → L → Type 0)
    → (L → R → W → L → Type 0) → (L → Error → L → Type 0) → KnownConnections L R W
connections_by remaining contents gives takes refuses =
    record { remaining = remaining; contents = contents; gives = gives; takes = takes; refuses = refuses }

-- a service of a desk that is seen so, by that clock
abbrev pub desk_server : {C D : Type 0} → (C → ℤ → C → Type 0) → DeskView D → KnownServer C (Service D)
desk_server ticks view = record { ticks = ticks; handles = IsHandledBy view; heads = IsHeadHandledBy }

-- what a connection that was served left: its two sides as they came and as they were handed back, how its
-- stream ended, and its requests with their replies
pub record Connection (R W : Type 0) : Type 0 where
  pub reader : Counted R
  pub writer : Counted W
  pub reader_left : Counted R
  pub writer_left : Counted W
  pub end : StreamEnd
  pub exchanges : List Exchange

-- what one connection hands on to the next: where connections come from, who tells the time, who answers
pub record Between (L C H : Type 0) : Type 0 where
  pub source : L
  pub clock : C
  pub handler : H

-- the source had no connection, for that reason; the clock and the handler stay
pub record IsRefused {C H L : Type 0} (refuses : L → Error → L → Type 0)
    (old : Between L C H) (why : Error) (new : Between L C H) : Type 0 where
  pub refused : refuses old.source why new.source
  pub clock : new.clock ≡ old.clock
  pub handler : new.handler ≡ old.handler

module _ {L R W C H : Type 0} (known : KnownConnections L R W) (server : KnownServer C H) where
  -- One connection was served. The source gave its two sides, on which no call had been made; one stream was
  -- served on them, from the clock and the handler that the connection before had left, whatever its end; and
  -- the source took back the sides as the stream left them.
  pub record IsServedConnection (old : Between L C H) (connection : Connection R W) (new : Between L C H) : Type 0 where
    pub busy : L
    pub came : known.gives old.source (inner_of connection.reader) (inner_of connection.writer) busy
    pub unread : (calls_of connection.reader ≡ 0) × (has_failed connection.reader ≡ false)
    pub unwritten : (calls_of connection.writer ≡ 0) × (has_failed connection.writer ≡ false)
    pub served : Serves known.remaining known.contents server.ticks server.handles server.heads
        (record { reader = connection.reader; writer = connection.writer; clock = old.clock; handler = old.handler })
        (record {
          reader = connection.reader_left;
          writer = connection.writer_left;
          clock = new.clock;
          handler = new.handler;
        })
        connection.end
    pub exchanges : connection.exchanges ≡ served.run.exchanges
    pub went : known.takes busy (inner_of connection.reader_left) (inner_of connection.writer_left) new.source

  -- connections that were served one after another, each from what the one before left
  abbrev pub ServedConnections : Between L C H → List (Connection R W) → Between L C H → Type 0
  ServedConnections old all_served new = FoldsTo IsServedConnection old all_served new

  -- the next connection was served; or, where the answer is an error, the source had none
  abbrev pub ServesNext : Between L C H → Between L C H → Result Unit Error → Type 0
  ServesNext old new answer =
      MatchResult answer (λ _. (connection : Connection R W) × IsServedConnection old connection new)
      (λ why. IsRefused known.refuses old why new)

  -- So many connections were asked for. Where the answer is Ok all of them were served, and nothing else was
  -- done; where it is an error fewer were, and then the source had no further one, for just that reason.
  pub record ServesConnections (old new : Between L C H) (count : ℕ) (answer : Result Unit Error) : Type 0 where
    pub all_served : List (Connection R W)
    pub last : Between L C H
    pub were_served : ServedConnections old all_served last
    pub ended : MatchResult answer
        (λ _. (length all_served ≡ count) × (new ≡ last))
        (λ why. (length all_served < count) × IsRefused known.refuses last why new)

-- the clock and the handler alone: of a listening socket nothing is known
abbrev pub beside : {C H : Type 0} → C → H → Between (Unit {0}) C H
beside clock handler = record { source = tt; clock = clock; handler = handler }

abbrev pub unknown_source : {R W : Type 0} → (R → Option (List ℕ)) → (W → Option (List ℕ)) → KnownConnections (Unit {0}) R W
unknown_source remaining contents =
    connections_by remaining contents (λ _ _ _ _. Unit {0}) (λ _ _ _ _. Unit {0}) (λ _ _ _. Unit {0})

-- nor of its connections
abbrev pub sockets : KnownConnections (Unit {0}) RequestSide ReplySide
sockets = unknown_source (λ _. None) (λ _. None)

-- a connection of a listening socket
abbrev pub SocketConnection : Type 0
SocketConnection = Connection RequestSide ReplySide

-- So many connections of a listening socket were served, one after another, by this clock and this handler.
-- The bytes of each are some bytes: no contract can say what came over a network, what becomes of what is
-- sent, or when an accept fails.
abbrev pub ServesSockets : {C H : Type 0} → KnownServer C H → C → H → C → H → ℕ → Result Unit Error → Type 0
ServesSockets server clock handler clock_left handler_left count answer =
    ServesConnections sockets server (beside clock handler) (beside clock_left handler_left) count answer
