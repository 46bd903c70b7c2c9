use Rattle.std.specs.Io.{WritesAtMost}
use Rattle.td_http.proofs.sides.ReplySideWrite.write.Given as goal

abbrev pub invariant-loop : goal.invariant-loop
invariant-loop l = WritesAtMost l.written l.buf
