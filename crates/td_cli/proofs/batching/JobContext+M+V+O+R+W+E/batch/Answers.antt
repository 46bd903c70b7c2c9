use Rattle.std.proofs.Common.{Err, Ok, refl}
use Rattle.td_cli.proofs.batching.JobContext+M+V+O+R+W+E.batch.Goals as goal

pub returns-in-Ok-clause-done : goal.returns-in-Ok-clause-done
returns-in-Ok-clause-done g c = (c.do_rows.ensures.unread, Ok c.in-Ok.rows, c.read.new.machine, c.in-Ok.ensures.read, c.do_rows.ensures.done)

pub returns-in-Err-clause-done : goal.returns-in-Err-clause-done
returns-in-Err-clause-done g c = (
  refl,
  Err c.in-Err.why,
  c.read.new.machine,
  c.in-Err.ensures.read,
  (refl, refl, refl, (refl, rw c.of_rows.ensures at c.fault.ensures)),
)
