use Rattle.std.proofs.Common.{inr, refl}
use Rattle.td_routes.proofs.RouteFacts.{route_found}
use Rattle.td_routes.proofs.routes.Routes.route_of_text.Goals as goal

pub returns-clause-route : goal.returns-clause-route
returns-clause-route c = inr (route_found _ c.args.method.now c.args.path.now _ _ refl c.utf8.path c.router.ensures c.find.ensures)

pub returns-clause-ready : goal.returns-clause-ready
returns-clause-ready c = λ _. route_found _ c.args.method.now c.args.path.now _ _ refl c.utf8.path c.router.ensures c.find.ensures
