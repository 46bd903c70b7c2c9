use Rattle.std.proofs.Common.{subst}
use Rattle.td_files.specs.Found.{IsKeptDesk}
use Rattle.td_files.proofs.desks.OneFile+V+V+Drive+Disk.keep.Goals as goal

pub returns-clause-kept : goal.returns-clause-kept
returns-clause-kept g c =
    let closed = c.close.ensures in
    subst IsKeptDesk closed.same (λ clean live. (closed.holds clean live, closed.leaves clean live))
