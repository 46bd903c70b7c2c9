use Rattle.td_http.specs.Connections.{connections_by, desk_server}
use Rattle.td_http.proofs.ServedConnections.{Serving}
use Rattle.td_http.proofs.connections.serve_connections.Given as goal

abbrev pub invariant-loop : goal.invariant-loop
invariant-loop g l =
    let desk = g.D.Desk in
    let source = g.L.Connections in
    Serving (connections_by g.L.Reader.Read.remaining g.L.Writer.Write.contents source.gives source.takes source.refuses)
    (desk_server g.C.Clock.ticks desk.seen)
    (record { source = l.initial.connections; clock = l.initial.clock; handler = l.initial.service })
    (record { source = l.connections; clock = l.clock; handler = l.service }) l.counter
