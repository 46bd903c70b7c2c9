use Rattle.std.proofs.Common.{refl, rules, SFits, w64}
use Rattle.std.proofs.lemmas.Int.{to_z-of_z}
use Rattle.td_jobs.proofs.ServedConnections.{has_served}
use Rattle.td_jobs.proofs.serving.serve_by.Goals as goal

pub returns-in-Some : goal.returns-in-Some
returns-in-Some g c = λ ready.
    let fits : SFits w64 c.in-Some.at = search rules in
    let moved = rw (to_z-of_z w64 c.in-Some.at fits) at c.serve_connections.ensures in
    rw c.in-Some.is (
      refl,
      (
        c.serve_connections.new.clock,
        has_served g.D.Desk.seen _ _ _ _ _ _ _ _ _ _ moved.0 moved.1 ready,
      ),
    )

pub returns-in-None : goal.returns-in-None
returns-in-None g c = λ ready.
    rw c.in-None.is (has_served g.D.Desk.seen _ _ _ _ _ _ _ _ _ _
    c.serve_connections-in-None.ensures.0 c.serve_connections-in-None.ensures.1 ready)
