use Rattle.std.specs.Io.{ReadsAtMost}
use Rattle.td_http.proofs.sides.RequestSideRead.read.Given as goal

abbrev pub invariant-loop : goal.invariant-loop
invariant-loop l = ReadsAtMost l.read l.buf
