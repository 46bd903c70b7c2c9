use Rattle.std.proofs.Common.{◌≡◌, inr}
use Rattle.td_fields.specs.Faults.{OrNoMemory}
use Rattle.td_routes.specs.Routes.{route_of}
use Rattle.td_routes.proofs.RouteFacts.{no_route, same_told}
use Rattle.td_routes.proofs.routes.Routes.route.Goals as goal

pub returns-in_default-clause-route : goal.returns-in_default-clause-route
returns-in_default-clause-route c = inr (no_route c.args.method.now c.args.path.now c.in_default.ensures.cases.0)

pub returns-in_default-clause-ready : goal.returns-in_default-clause-ready
returns-in_default-clause-ready c = λ _. no_route c.args.method.now c.args.path.now c.in_default.ensures.cases.0

pub returns-clause-route : goal.returns-clause-route
returns-clause-route c =
    same_told (λ path. OrNoMemory c.route_of_text.result (route_of c.args.method.now path)) _ _ c.in-Ok.ensures.cases.0 c.route_of_text.ensures.route

pub returns-clause-ready : goal.returns-clause-ready
returns-clause-ready c = λ made.
    same_told (λ path. c.route_of_text.result ≡ route_of c.args.method.now path) _ _ c.in-Ok.ensures.cases.0 (c.route_of_text.ensures.ready made)
