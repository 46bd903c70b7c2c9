use Rattle.std.proofs.Common.{arith, refl, []}
use Rattle.td_http.specs.Connections.{connections_by, desk_server}
use Rattle.td_http.proofs.ServedConnections.{between, answer_is, serving_more}
use Rattle.td_http.proofs.Private.{connections_private}
use Rattle.td_http.proofs.connections.serve_connections.Goals as goal

pub loop-init : goal.loop-init
loop-init g c = record { all_served = []; were_served = refl; counted = refl }

pub loop-preserved : goal.loop-preserved
loop-preserved g c =
    let desk = g.D.Desk in
    let source = g.L.Connections in
    let next = c.serve_next.new in
    let served = c.in_ok-serve_next.ensures in
    serving_more (connections_by g.L.Reader.Read.remaining g.L.Writer.Write.contents source.gives source.takes source.refuses)
    (desk_server g.C.Clock.ticks desk.seen)
    (between c.args.connections.now c.args.clock.now c.args.service.now)
    (between c.loop.connections c.loop.clock c.loop.service) (between next.connections next.clock next.service)
    c.loop.counter served.0 c.loop.invariant served.1

pub returns-in_err-serve_next : goal.returns-in_err-serve_next
returns-in_err-serve_next g c =
    let desk = g.D.Desk in
    let source = g.L.Connections in
    let serving = c.loop.invariant in
    let counted = serving.counted in
    let few = c.loop-test.true in
    let refused = c.in_err-serve_next.ensures in
    let told = answer_is c.from_residual.result c.in_err-serve_next.field-0.0 c.from_residual.ensures.1 in
    let old = between c.args.connections.now c.args.clock.now c.args.service.now in
    let last = between c.loop.connections c.loop.clock c.loop.service in (
      record { all_served = serving.all_served; last = last; were_served = serving.were_served; ended = rw told (omega arith, refused) },
      rw refused.handler (connections_private (connections_by g.L.Reader.Read.remaining g.L.Writer.Write.contents source.gives source.takes source.refuses)
          g.C.Clock.ticks desk.seen
          serving.all_served old last serving.were_served),
    )

pub returns : goal.returns
returns g c =
    let desk = g.D.Desk in
    let source = g.L.Connections in
    let serving = c.loop.invariant in
    let counted = serving.counted in
    let all = c.loop-test.false in
    let within = c.loop.auto.counter-end in
    let old = between c.args.connections.now c.args.clock.now c.args.service.now in
    let last = between c.loop.connections c.loop.clock c.loop.service in (
      record { all_served = serving.all_served; last = last; were_served = serving.were_served; ended = (omega arith, refl {a = last}) },
      connections_private (connections_by g.L.Reader.Read.remaining g.L.Writer.Write.contents source.gives source.takes source.refuses)
          g.C.Clock.ticks desk.seen
          serving.all_served old last serving.were_served,
    )
