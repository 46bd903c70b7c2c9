use Rattle.std.proofs.Common.{Ok, ap}
use Rattle.td_routes.proofs.RouteFacts.{no_methods, methods_found}
use Rattle.td_routes.proofs.routes.Routes.methods.Goals as goal

pub returns-in_default-clause-methods : goal.returns-in_default-clause-methods
returns-in_default-clause-methods c = no_methods _ c.in_default.ensures.cases.0

pub returns-in_default-clause-ready : goal.returns-in_default-clause-ready
returns-in_default-clause-ready c = λ _. ap Ok (no_methods _ c.in_default.ensures.cases.0)

pub returns-in_default-clause-made : goal.returns-in_default-clause-made
returns-in_default-clause-made c = λ text. absurd (c.in_default.ensures.cases.0 text)

pub returns-clause-methods : goal.returns-clause-methods
returns-clause-methods c =
    let text = c.in-Ok.ensures.cases in
    methods_found _ _ _ _ text.0 text.1 c.router.ensures c.find_methods.ensures

pub returns-clause-ready : goal.returns-clause-ready
returns-clause-ready c =
    let text = c.in-Ok.ensures.cases in
    λ _. ap Ok (methods_found _ _ _ _ text.0 text.1 c.router.ensures c.find_methods.ensures)
