-- How a report ends, and what was written of it.
use Rattle.std.specs.Prelude.{◌≡◌, ◌≢◌, ⊤, ◌⊎◌, ℕ, Bool, true, false, List, ◌++◌, Option, Some, None, Result, Ok, Err}
use Rattle.std.specs.Option.{option_or}
use Rattle.std.specs.Io.KnownBytes.{Appends}
use Rattle.counted_io.specs.declared.counted.Counted.{Counted}
use Rattle.counted_io.specs.Chains.{Wrote}
use Rattle.counted_io.specs.Counted.{known_bytes}
use Rattle.td_desk.specs.declared.fault.Fault.{Fault}
use Rattle.td_desk.specs.declared.fault.Fault.TheVariants as fault
use Rattle.td_report_pieces.specs.declared.fault.ReportFault.{ReportFault}
use Rattle.td_report_pieces.specs.declared.fault.ReportFault.TheVariants.{Write, Store, NoMemory}

-- What was appended is this text, where the report was written; else it begins this text.
abbrev pub IsReported : {W : Type 0} → (W → Option (List ℕ)) → Counted W → Counted W → List ℕ → Result (Unit {0}) ReportFault → Type 0
IsReported contents old new text (Ok done) = Appends (known_bytes contents old) (known_bytes contents new) text
IsReported contents old new text (Err why) =
    (written rest : List ℕ) × (written ++ rest ≡ text) × Appends (known_bytes contents old) (known_bytes contents new) written

-- how a report may end whose writes were all well, or of which one failed
abbrev pub IsTold : Bool → Result (Unit {0}) ReportFault → Type 0
IsTold well (Ok done) = well ≡ true
IsTold well (Err Write) = well ≡ false
IsTold well (Err Store) = ⊤
IsTold well (Err NoMemory) = well ≡ true

-- What was written, whatever the report is: writes one after another, each of which took some of it, and none after one that failed
-- or took nothing.
pub record HasWritten {W : Type 0} (contents : W → Option (List ℕ)) (old new : Counted W) (result : Result (Unit {0}) ReportFault) : Type 0 where
  pub written : List ℕ
  pub well : Bool
  pub wrote : Wrote contents old new written well
  pub told : IsTold well result

-- no fault of a report is that a write failed
abbrev pub no_write_failed : Option ReportFault → Bool
no_write_failed (Some Write) = false
no_write_failed other = true

-- Why a report is not ended by its total: a fault of the store that ended the visit to the rows, else what stopped it, else want of
-- memory that ended the visit. (A visit that ended well without showing all rows was stopped.)
abbrev pub stop_of : Result Bool Fault → Option ReportFault → Option ReportFault
stop_of (Err fault.Store) stopped = Some Store
stop_of (Err fault.NoMemory) stopped = option_or stopped (Some NoMemory)
stop_of (Ok all) stopped = stopped

-- why a report isn't closed by its total: it was stopped, or there was no memory for that
abbrev pub IsStopped : Option ReportFault → ReportFault → Type 0
IsStopped stop why = (stop ≡ Some why) ⊎ ((stop ≡ None) × (why ≡ NoMemory))

-- a write of a text failed, or took nothing: what was taken begins it
abbrev pub BreaksOff : {W : Type 0} → (W → Option (List ℕ)) → Counted W → Counted W → List ℕ → Type 0
BreaksOff contents old new text = (sent rest : List ℕ) × (sent ++ rest ≡ text) × Wrote contents old new sent false

-- what is told where the last write failed of a report that was closed so
abbrev pub fault_after_write : Result (Unit {0}) ReportFault → ReportFault
fault_after_write (Err Store) = Store
fault_after_write closed = Write

-- how a report ends that stopped so, where all writes were well or where one failed: a fault of the store is told before a failed
-- write, and that before want of memory
abbrev pub EndsBy : Option ReportFault → Bool → Result (Unit {0}) ReportFault → Type 0
EndsBy stop well (Ok done) = (stop ≡ None) × (well ≡ true)
EndsBy stop well (Err Write) = (stop ≢ Some Store) × ((well ≡ false) ⊎ (stop ≡ Some Write))
EndsBy stop well (Err NoMemory) = (well ≡ true) × ((stop ≡ Some NoMemory) ⊎ (stop ≡ None))
EndsBy stop well (Err Store) = stop ≡ Some Store
