-- Connections to a port of this machine, served at a desk.
use Rattle.std.specs.Prelude.{◌≡◌, ◌⊎◌, ℕ, ℤ, List, ◌++◌, codes, map, string_bytes, Option, Result, Ok, Err}
use Rattle.std.specs.Fmt.{decimal}
use Rattle.std.specs.Io.KnownBytes.{Appends}
use Rattle.std.specs.declared.io.Error.{Error}
use Rattle.counted_io.specs.declared.counted.Counted.{Counted}
use Rattle.counted_io.specs.Counted.{known_bytes}
use Rattle.counted_io.specs.Chains.{IsCutShort}
use Rattle.td_model.specs.Book.{Book}
use Rattle.td_model.specs.Content.{Content}
use Rattle.td_desk.specs.Runs.{IsTied}
use Rattle.td_desk.specs.View.{DeskView}
use Rattle.td_http.specs.Private.{IsServedOver}
use Rattle.td_http.specs.Connections.{ServesConnections, desk_server}
use Rattle.td_http.specs.Serving.{desk_of}
use Rattle.td_http.specs.declared.service.Service.{Service}
use Rattle.td_machine.specs.Machine.{Around}
use Rattle.td_jobs.specs.Desks.{ByClock}
use Rattle.td_jobs.specs.Jobs.{JobState}
use Rattle.td_words.specs.declared.words.Listening.{Listening}
use Rattle.td_jobs.specs.declared.serving.PrintedLines.{PrintedLines}
use Rattle.td_jobs.specs.declared.serving.ServingEnd.{ServingEnd}
use Rattle.td_jobs.specs.declared.serving.ServingEnd.TheVariants.{Done, NoMemory, Socket, Write}

-- what is printed once the port is listened on, and once all connections were served
abbrev pub listening_line : ℕ → List ℕ
listening_line port = codes "listening 127.0.0.1:" ++ (decimal port ++ codes "\n")

abbrev pub served_line : ℕ → List ℕ
served_line connections = codes "served " ++ (decimal connections ++ codes "\n")

-- the lines that a serving prints are these two
abbrev pub AreLinesOf : Listening → PrintedLines → Type 0
AreLinesOf listening lines =
    (string_bytes lines.first ≡ listening_line listening.port)
    × (string_bytes lines.last ≡ served_line listening.connections)

-- What a serving has at one moment once it listens: where connections come from, the machine, or the clock that it goes by, and its desk.
pub record ServingState (L C D : Type 0) : Type 0 where
  pub source : L
  pub clock : C
  pub desk : D

-- So many connections were served, one after another, at a service of a desk that is seen so, by a clock: those that the source
-- gave, each its own replies. Where the desk is clean in the end, to each holder the bytes of the replies, over all connections, are
-- those of that holder's own machine, from any books that say what the desk had at first, as fresh ones do; and where no fault has
-- shut it, its content is the one after them. Where the answer is an error, no further connection came.
pub record HasServed {D M L Reads Writes C : Type 0} (view : DeskView D) (around : Around M L Reads Writes)
    (ticks : C → ℤ → C → Type 0) (connections : ℕ) (old new : ServingState L C D) (answer : Result Unit Error) : Type 0 where
  pub service : Service D
  pub service_left : Service D
  pub opened_is : desk_of service ≡ old.desk
  pub left_is : desk_of service_left ≡ new.desk
  pub served : ServesConnections around.connections (desk_server ticks view)
      (record { source = old.source; clock = old.clock; handler = service })
      (record { source = new.source; clock = new.clock; handler = service_left }) connections answer
  pub clean : view.is_clean new.desk → view.is_clean old.desk
  pub private : view.is_clean new.desk → (books : ℕ → Book) → IsTied (view.content old.desk) books
      → (c : Content) × IsServedOver (view.content old.desk).country books
      (map (λ connection. connection.exchanges) served.all_served) c
      × (view.is_live new.desk → view.content new.desk ≡ c)

-- the same by the clock of a job
abbrev pub HasServedAt : {D M L Reads Writes : Type 0} → DeskView D → Around M L Reads Writes → Option ℤ → ℕ → ServingState L M D → ServingState L M D
    → Result Unit Error → Type 0
HasServedAt view around at connections old new answer =
    ByClock around.ticks at old.clock new.clock
    (λ C by clock clock_left. HasServed view around by connections
    (record { source = old.source; clock = clock; desk = old.desk })
    (record { source = new.source; clock = clock_left; desk = new.desk }) answer)

-- the same with what was printed so far
pub record PrintingState (L C D W : Type 0) : Type 0 where
  pub serving : ServingState L C D
  pub output : Counted W

-- What a serving has at one moment before it listens, and once it listens no more: its desk, its output and the machine.
pub record ServerState (D W M : Type 0) : Type 0 where
  pub desk : D
  pub output : Counted W
  pub machine : M

abbrev pub server_of : {D W M : Type 0} → D → Counted W → M → ServerState D W M
server_of desk output machine = record { desk = desk; output = output; machine = machine }

-- what it has of what a job has: all but the input
abbrev pub without_input : {D R W M : Type 0} → JobState D R W M → ServerState D W M
without_input state = server_of state.desk state.output state.machine

-- and while it listens, with the source of its connections and the machine then
abbrev pub listening_from : {L M D W : Type 0} → L → M → ServerState D W M → PrintingState L M D W
listening_from source machine server =
    record { serving = record { source = source; clock = machine; desk = server.desk }; output = server.output }

module _ {D W M L Reads Writes : Type 0} (view : DeskView D) (contents : W → Option (List ℕ)) (around : Around M L Reads Writes)
    (at : Option ℤ) (listening : Listening) where
  -- That the port is listened on was printed, and then the connections that came to it were served.
  abbrev pub HasPrintedAndServed : PrintingState L M D W → PrintingState L M D W → Result Unit Error → Type 0
  HasPrintedAndServed old new answer =
      Appends (known_bytes contents old.output) (known_bytes contents new.output) (listening_line listening.port)
      × HasServedAt view around at listening.connections old.serving new.serving answer

  -- What a serving did that ended so, once the port was listened on. All connections were served where that is printed in the end, or
  -- couldn't be; where the first line couldn't be printed, no connection was accepted.
  abbrev pub ServesThere : ServingEnd → PrintingState L M D W → PrintingState L M D W → Type 0
  ServesThere Done old new =
      (said : Counted W) × HasPrintedAndServed old (record { serving = new.serving; output = said }) (Ok tt)
      × Appends (known_bytes contents said) (known_bytes contents new.output) (served_line listening.connections)
  ServesThere NoMemory old new = ⊥
  ServesThere Socket old new = (why : Error) × HasPrintedAndServed old new (Err why)
  ServesThere Write old new =
      (IsCutShort contents old.output new.output (listening_line listening.port) × (new.serving ≡ old.serving))
      ⊎ ((said : Counted W) × HasPrintedAndServed old (record { serving = new.serving; output = said }) (Ok tt)
      × IsCutShort contents said new.output (served_line listening.connections))

  -- How a serving ended that couldn't listen: nothing was printed and no request served. Either there was no memory for what is
  -- printed, and nothing was asked of the machine; or the port couldn't be listened on.
  abbrev pub IsNotListening : ServingEnd → ServerState D W M → ServerState D W M → Type 0
  IsNotListening Done old new = ⊥
  IsNotListening NoMemory old new = new ≡ old
  IsNotListening Socket old new =
      (new.output ≡ old.output) × (new.desk ≡ old.desk)
      × around.known.cannot_listen old.machine listening.port listening.idle new.machine
  IsNotListening Write old new = ⊥

  -- The machine listened on the port, with the idle limit, that was done with the connections that came, and it listens no more.
  pub record HasListened (end : ServingEnd) (old new : ServerState D W M) : Type 0 where
    pub came : L
    pub gone : L
    pub begun : M
    pub ended : M
    pub listens : around.known.listens old.machine listening.port listening.idle came begun
    pub serves : ServesThere end (listening_from came begun old) (listening_from gone ended new)
    pub stops_listening : around.known.stops_listening ended gone new.machine

  -- what a serving did that ended so
  abbrev pub ServesAs : ServingEnd → ServerState D W M → ServerState D W M → Type 0
  ServesAs end old new = IsNotListening end old new ⊎ HasListened end old new
