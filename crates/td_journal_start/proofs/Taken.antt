-- Why a last row isn't taken.
use Rattle.std.proofs.Common.{◌≡◌, Err, Some, sym, subst}
use Rattle.td_desk.specs.View.{DeskView}
use Rattle.td_desk.specs.declared.fault.Fault.{Fault}
use Rattle.td_desk.specs.declared.fault.Fault.TheVariants.{NoMemory, Store}
use Rattle.td_journal_start.specs.Begun.{IsUntaken}
use Rattle.td_journal_start.specs.Faults.{fault_told}
use Rattle.td_journal_lines.specs.Lines.{Numbered}
use Rattle.td_journal_start.specs.Starts.{IsAsked}
use Rattle.td_journal_start.specs.declared.refused.StartFault.{StartFault}

told_fault : {D : Type 0} (view : DeskView D) (old new : D) (r : Numbered) (why : Fault) → IsAsked view old r.row (Err why) new → IsUntaken view old (Some r) (fault_told why) new
told_fault view old new r NoMemory asked = asked
told_fault view old new r Store asked = asked

pub untaken : {D : Type 0} (view : DeskView D) (old new : D) (r : Numbered) (why : Fault) (told : StartFault) → told ≡ fault_told why → IsAsked view old r.row (Err why) new → IsUntaken view old (Some r) told new
untaken view old new r why told is asked = subst (λ (t : StartFault). IsUntaken view old (Some r) t new) (sym is) (told_fault view old new r why asked)
