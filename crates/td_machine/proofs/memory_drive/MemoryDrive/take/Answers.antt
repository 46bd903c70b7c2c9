use Rattle.std.proofs.Common.{Some, ap, inr, sym}
use Rattle.td_machine.proofs.memory_drive.MemoryDrive.take.Goals as goal

pub returns-else-may_be_used-clause-refused : goal.returns-else-may_be_used-clause-refused
returns-else-may_be_used-clause-refused c none =
    (ap (λ files. record { path = c.args.self.now.path; files = files; alloc = c.args.self.now.alloc }) (c.in-Some.ensures.value), inr (c.in-Some.files, sym c.in-Some.ensures.value, sym c.if-may_be_used.ensures))
