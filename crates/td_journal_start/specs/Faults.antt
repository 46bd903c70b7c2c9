-- Faults of a desk, as a start tells them.
use Rattle.td_desk.specs.declared.fault.Fault.{Fault}
use Rattle.td_desk.specs.declared.fault.Fault.TheVariants as fault
use Rattle.td_journal_start.specs.declared.refused.StartFault.{StartFault}
use Rattle.td_journal_start.specs.declared.refused.StartFault.TheVariants.{NoMemory, Store}

abbrev pub fault_told : Fault → StartFault
fault_told fault.NoMemory = NoMemory
fault_told fault.Store = Store
