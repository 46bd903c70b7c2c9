use Rattle.td_routes.proofs.RouteFacts.{no_path, path_before, path_whole}
use Rattle.td_routes.proofs.bodies.path_text.Goals as goal

pub returns-in_default : goal.returns-in_default
returns-in_default c = no_path _ c.in_default.ensures.cases.0

pub returns-in-Some : goal.returns-in-Some
returns-in-Some c =
    let text = c.in-Ok.ensures.cases in
    path_before _ _ (c.in-Some.path, c.in-Some.field-0-1) text.0 text.1 c.in-Some.ensures.cases

pub returns-in-None : goal.returns-in-None
returns-in-None c =
    let text = c.in-Ok.ensures.cases in
    path_whole _ _ text.0 text.1 c.in-None.ensures.cases
