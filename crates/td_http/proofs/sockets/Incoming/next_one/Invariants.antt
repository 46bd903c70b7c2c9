use Rattle.std.proofs.Common.{length}
use Rattle.td_http.proofs.sockets.Incoming.next_one.Given as goal

abbrev pub decreases-loop-requests : goal.decreases-loop-requests
decreases-loop-requests l = length l.self.leaving.items
