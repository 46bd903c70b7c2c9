use Rattle.std.proofs.Common.{[], None, arith, refl}
use Rattle.td_http.specs.Connections.{beside, connections_by, desk_server, sockets}
use Rattle.td_http.specs.declared.sides.ReplySide.{ReplySide}
use Rattle.td_http.specs.declared.sides.RequestSide.{RequestSide}
use Rattle.td_http.proofs.ServedConnections.{between}
use Rattle.td_http.proofs.Anyhow.{ended_anyhow, none_came, were_served_anyhow}
use Rattle.td_http.proofs.Private.{connections_private}
use Rattle.td_http.proofs.sockets.serve_on.Goals as goal

pub returns-then-connections-eq0 : goal.returns-then-connections-eq0
returns-then-connections-eq0 g c =
    let none = c.if-connections-eq0.true in
    let old = beside c.args.clock.now c.args.service.now in (
      record { all_served = []; last = old; were_served = refl; ended = (omega arith, refl {a = old}) },
      connections_private sockets g.C.Clock.ticks g.D.Desk.seen [] old old (refl {a = old}),
    )

pub returns-in_err-try_clone : goal.returns-in_err-try_clone
returns-in_err-try_clone g c =
    let some = c.if-connections-eq0.false in
    let old = beside c.args.clock.now c.args.service.now in
    let none = none_came {R = RequestSide} {W = ReplySide} (λ _. None) (λ _. None) (desk_server g.C.Clock.ticks g.D.Desk.seen) c.args.clock.now c.args.service.now
    c.args.connections c.from_residual.result (omega arith) c.from_residual.ensures.0 in (
      none.0,
      rw none.1 (connections_private sockets g.C.Clock.ticks g.D.Desk.seen [] old old (refl {a = old})),
    )

pub returns-in_err-incoming : goal.returns-in_err-incoming
returns-in_err-incoming g c =
    let some = c.if-connections-eq0.false in
    let old = beside c.args.clock.now c.args.service.now in
    let none = none_came {R = RequestSide} {W = ReplySide} (λ _. None) (λ _. None) (desk_server g.C.Clock.ticks g.D.Desk.seen) c.args.clock.now c.args.service.now
    c.args.connections c.from_residual-in_err-incoming.result (omega arith) c.from_residual-in_err-incoming.ensures.0 in (
      none.0,
      rw none.1 (connections_private sockets g.C.Clock.ticks g.D.Desk.seen [] old old (refl {a = old})),
    )

pub returns : goal.returns
returns g c =
    let desk = g.D.Desk in
    let call = c.serve_connections-served in
    let served = call.ensures.0 in
    let old = between _ c.args.clock.now c.args.service.now in
    let new = between call.new.connections call.new.clock call.new.service in (
      record {
        all_served = served.all_served;
        last = beside served.last.clock served.last.handler;
        were_served = were_served_anyhow (connections_by (λ _. None) (λ _. None) (λ _ _ _ _. Unit {0}) (λ _ _ _ _. Unit {0}) (λ _ _ _. Unit {0}))
            (desk_server g.C.Clock.ticks desk.seen)
            served.all_served old served.last served.were_served;
        ended = ended_anyhow (λ _ _ _. Unit {0}) served.all_served served.last new c.args.connections call.result
            served.ended;
      },
      call.ensures.1,
    )
