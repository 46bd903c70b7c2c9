use Rattle.std.proofs.Common.{inr}
use Rattle.td_files.proofs.files.OneFile+V+V+Drive+Disk.open.Goals as goal

pub returns-in-Ok-open_files-clause-opened : goal.returns-in-Ok-open_files-clause-opened
returns-in-Ok-open_files-clause-opened g c = (
  c.in-Ok.opened.files,
  c.in-Ok.ensures.opened,
  λ clean. let found = c.in-Ok-open_files.ensures.found clean in (c.in-Ok-open_files.ensures.opened clean, record { holds = found.holds; reads = found.reads }),
)

pub returns-in-Err-open_files-clause-unopened : goal.returns-in-Err-open_files-clause-unopened
returns-in-Err-open_files-clause-unopened g c = (
  c.leave.ensures.fault,
  c.leave.ensures.connection,
  inr (
    c.in-Ok.opened.files,
    rw c.leave.ensures.drive c.in-Ok.ensures.opened,
    c.in-Err-open_files.left,
    c.leave.ensures.kept,
    c.in-Err-open_files.ensures.unharmed,
  ),
)
