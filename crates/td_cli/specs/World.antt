-- What the program stands in.
use Rattle.std.specs.Prelude.{◌≡◌, Option, List, ℕ}
use Rattle.counted_io.specs.declared.counted.Counted.{Counted}
use Rattle.sqlite_disk.specs.declared.Disk.{Ghosts}
use Rattle.td_files.specs.Found.{FileHeld}
use Rattle.td_jobs.specs.Jobs.{IsUntouched, JobState, KnownJob, job_known, state_of}
use Rattle.td_machine.specs.Drive.{KnownDrive}
use Rattle.td_machine.specs.Machine.{Around}
use Rattle.td_cli.specs.declared.context.Context.{Context}

-- What the program is lent, by what is known of it: the machine, the input and both outputs, and the drives and disks of the files that its
-- words name, if they name one, or two.
pub record Lent : Type 1 where
  pub Machine : Type 0
  pub Source : Type 0
  pub Reads : Type 0
  pub Writes : Type 0
  pub machine : Around Machine Source Reads Writes
  pub Input : Type 0
  pub input : Input → Option (List ℕ)
  pub Output : Type 0
  pub output : Output → Option (List ℕ)
  pub Errors : Type 0
  pub errors : Errors → Option (List ℕ)
  pub Drive : Type 0
  pub Disk : Type 0
  pub drive : KnownDrive Drive Disk
  pub disk : Ghosts Disk
  pub OtherDrive : Type 0
  pub OtherDisk : Type 0
  pub other_drive : KnownDrive OtherDrive OtherDisk
  pub other_disk : Ghosts OtherDisk

abbrev pub lent_by : {M L Reads Writes R W E V S O T : Type 0} → Around M L Reads Writes → (R → Option (List ℕ)) → (W → Option (List ℕ)) → (E → Option (List ℕ))
    → KnownDrive V S → Ghosts S → KnownDrive O T → Ghosts T → Lent
lent_by {M} {L} {Reads} {Writes} {R} {W} {E} {V} {S} {O} {T} machine input output errors drive disk other_drive other_disk = record {
  Machine = M;
  Source = L;
  Reads = Reads;
  Writes = Writes;
  machine = machine;
  Input = R;
  input = input;
  Output = W;
  output = output;
  Errors = E;
  errors = errors;
  Drive = V;
  Disk = S;
  drive = drive;
  disk = disk;
  OtherDrive = O;
  OtherDisk = T;
  other_drive = other_drive;
  other_disk = other_disk;
}

module _ (lent : Lent) where
  -- All of that at one moment. Of a file it has the drive, and what a job left of it: a connection, or a file that holds no database, or that
  -- of a journal.
  pub record World : Type 0 where
    pub machine : lent.Machine
    pub input : Counted lent.Input
    pub output : Counted lent.Output
    pub errors : Counted lent.Errors
    pub file : FileHeld lent.Drive lent.disk
    pub other : FileHeld lent.OtherDrive lent.other_disk

  -- what stands behind the references that a job is lent
  abbrev pub world_of : Context lent.Machine lent.Drive lent.Disk lent.OtherDrive lent.OtherDisk lent.Input lent.Output lent.Errors lent.disk lent.other_disk
      → World
  world_of context = record {
    machine = context.machine.now;
    input = context.input.now;
    output = context.out.now;
    errors = context.errors.now;
    file = context.file.now;
    other = context.other.now;
  }

  -- what a job at a desk has of it, and what is known of that
  abbrev pub job_at : {D : Type 0} → D → World → JobState D lent.Input lent.Output lent.Machine
  job_at desk world = state_of desk world.input world.output world.machine

  abbrev pub known_job : KnownJob lent.Input lent.Output lent.Machine lent.Source lent.Reads lent.Writes
  known_job = job_known lent.input lent.output lent.machine

  -- nothing was read, printed or asked of the machine
  abbrev pub IsIdle : World → World → Type 0
  IsIdle old new = IsUntouched old.input new.input old.output new.output old.machine new.machine

  -- of the files at most the desk's was opened; nothing was read, and nothing asked of the machine
  abbrev pub OpensDeskFileAlone : World → World → Type 0
  OpensDeskFileAlone old new = (new.input ≡ old.input) × (new.machine ≡ old.machine) × (new.other ≡ old.other)

  -- and not even that: at most something was printed or told
  abbrev pub OpensNoFile : World → World → Type 0
  OpensNoFile old new = OpensDeskFileAlone old new × (new.file ≡ old.file)

-- a context still holds what it was lent, so that what its job leaves is left there
pub record IsLentStill {M V S O T R W E : Type 0} {disk : Ghosts S} {others : Ghosts T} (old new : Context M V S O T R W E disk others) : Type 0 where
  pub machine : new.machine.ghost_name ≡ old.machine.ghost_name
  pub file : new.file.ghost_name ≡ old.file.ghost_name
  pub other : new.other.ghost_name ≡ old.other.ghost_name
  pub input : new.input.ghost_name ≡ old.input.ghost_name
  pub out : new.out.ghost_name ≡ old.out.ghost_name
  pub errors : new.errors.ghost_name ≡ old.errors.ghost_name
