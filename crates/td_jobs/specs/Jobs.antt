-- What is said of a job that is done at a desk.
use Rattle.std.specs.Prelude.{◌≡◌, ℕ, ℤ, List, Option}
use Rattle.counted_io.specs.declared.counted.Counted.{Counted}
use Rattle.td_desk.specs.View.{DeskView}
use Rattle.td_machine.specs.Machine.{Around}

-- What a job has at one moment: its desk, its input and its output, and the machine, or the clock that it goes by.
pub record JobState (D R W M : Type 0) : Type 0 where
  pub desk : D
  pub input : Counted R
  pub output : Counted W
  pub machine : M

abbrev pub state_of : {D R W M : Type 0} → D → Counted R → Counted W → M → JobState D R W M
state_of desk input output machine = record { desk = desk; input = input; output = output; machine = machine }

-- the same at another desk
abbrev pub at_desk : {D E R W M : Type 0} → E → JobState D R W M → JobState E R W M
at_desk desk state = state_of desk state.input state.output state.machine

-- and with another machine, or clock
abbrev pub by_machine : {D R W M C : Type 0} → C → JobState D R W M → JobState D R W C
by_machine clock state = state_of state.desk state.input state.output clock

-- a desk and the machine alone
pub record DeskAndMachine (D M : Type 0) : Type 0 where
  pub desk : D
  pub machine : M

abbrev pub with_machine : {D M : Type 0} → D → M → DeskAndMachine D M
with_machine desk machine = record { desk = desk; machine = machine }

-- What is known of what a job has: of the bytes that are still to be read, of those written, and of the machine.
pub record KnownJob (R W M L Reads Writes : Type 0) : Type 1 where
  pub remaining : R → Option (List ℕ)
  pub contents : W → Option (List ℕ)
  pub around : Around M L Reads Writes

abbrev pub job_known : {R W M L Reads Writes : Type 0} → (R → Option (List ℕ)) → (W → Option (List ℕ)) → Around M L Reads Writes
    → KnownJob R W M L Reads Writes
job_known remaining contents around = record { remaining = remaining; contents = contents; around = around }

-- What a job does that ends so, at a desk that is seen so: at a moment that is given, or else by the machine's clock.
abbrev pub Doing : Type 0 → Type 0 → Type 1
Doing Job End = (D R W M L Reads Writes : Type 0) → DeskView D → KnownJob R W M L Reads Writes → Option ℤ → Job
    → JobState D R W M → JobState D R W M → End → Type 0

-- nothing was read or written, and nothing asked of the machine
abbrev pub IsUntouched : {R W M : Type 0} → Counted R → Counted R → Counted W → Counted W → M → M → Type 0
IsUntouched reader reader_left writer writer_left machine machine_left =
    (reader_left ≡ reader) × (writer_left ≡ writer) × (machine_left ≡ machine)

-- so of a job, whose desk isn't in it
abbrev pub IsStillBeside : {D E R W M : Type 0} → JobState D R W M → JobState E R W M → Type 0
IsStillBeside old new = IsUntouched old.input new.input old.output new.output old.machine new.machine
