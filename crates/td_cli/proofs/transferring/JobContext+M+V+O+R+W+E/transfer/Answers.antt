use Rattle.std.proofs.Common.{refl}
use Rattle.td_cli.proofs.transferring.JobContext+M+V+O+R+W+E.transfer.Goals as goal

pub returns-in-Extract-clause-transferred : goal.returns-in-Extract-clause-transferred
returns-in-Extract-clause-transferred g c = rw c.in-Extract.is (
  refl,
  refl,
  (
    c.extract-end.result,
    rw (c.deref.ensures, c.deref-in-Extract.ensures) at c.extract-end.ensures,
    (refl, rw c.extract_cause.ensures at c.exit.ensures),
  ),
)

pub returns-in-Join-clause-transferred : goal.returns-in-Join-clause-transferred
returns-in-Join-clause-transferred g c = rw c.in-Join.is (
  refl,
  refl,
  (
    c.join-end.result,
    rw (c.deref-in-Join.ensures, c.deref-in-Join-2.ensures) at c.join-end.ensures,
    (refl, rw c.join_cause.ensures at c.exit-in-Join.ensures),
  ),
)
