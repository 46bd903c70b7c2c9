-- What is known of the machine that a program stands in.
use Rattle.std.specs.Prelude.{◌≡◌, ℕ, ℤ, List, Option, None, Some}
use Rattle.td_http.specs.Connections.{KnownConnections}
use Rattle.td_machine.specs.declared.machine.ReadError.{ReadError}
use Rattle.td_machine.specs.declared.machine.ReadError.TheVariants.{File, NoMemory}

-- A machine of type M, to which connections come by a source of type L.
pub record Known (M L : Type 0) : Type 1 where
  -- the bytes of the file at a path, where they are known
  pub holds : M → List ℕ → Option (List ℕ)
  -- a file was read: the machine before it and after it
  pub reads : M → M → Type 0
  -- a port is listened on with an idle limit in seconds: the machine, the port, the limit, the connections that come, the machine after it
  pub listens : M → ℕ → ℕ → L → M → Type 0
  -- it couldn't be
  pub cannot_listen : M → ℕ → ℕ → M → Type 0
  -- it is listened on no more
  pub stops_listening : M → L → M → Type 0

-- A machine with its clock, and the connections to it, whose requests are read from an R and whose replies are written to a W.
pub record Around (M L R W : Type 0) : Type 1 where
  pub known : Known M L
  -- its clock is asked: the machine, the seconds since 1970, the machine after it
  pub ticks : M → ℤ → M → Type 0
  pub connections : KnownConnections L R W

-- The bytes are those of the file at the path, where these are known.
abbrev pub AreHeld : Option (List ℕ) → List ℕ → Type 0
AreHeld None bytes = Unit {0}
AreHeld (Some all) bytes = bytes ≡ all

-- The file at the path was read, and its bytes are these as far as they are known.
pub record HasRead {M L : Type 0} (known : Known M L) (path : List ℕ) (old : M) (bytes : List ℕ) (new : M) : Type 0 where
  pub held : AreHeld (known.holds old path) bytes
  pub reads : known.reads old new

-- It wasn't read, for this reason: that there is none at the path is said only where no bytes of it are known.
abbrev pub IsNotRead : {M L : Type 0} → Known M L → List ℕ → M → M → ReadError → Type 0
IsNotRead known path old new File = (known.holds old path ≡ None) × known.reads old new
IsNotRead known path old new NoMemory = known.reads old new
