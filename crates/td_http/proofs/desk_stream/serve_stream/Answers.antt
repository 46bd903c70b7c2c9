use Rattle.td_http.proofs.Streamed.{stream_private}
use Rattle.td_http.proofs.desk_stream.serve_stream.Goals as goal

pub returns : goal.returns
returns g c =
    let served = c.serve_requests.ensures in
    let desk = g.D.Desk in
    (served, stream_private g.C.Clock.ticks desk.seen c.args.clock.now c.serve_requests.new.clock c.args.service.now served.run.handler c.serve_requests.new.handler served.run.exchanges served.run.rest served.run.ending served.chain served.ending)
