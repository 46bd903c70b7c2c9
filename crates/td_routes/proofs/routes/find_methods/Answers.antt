use Rattle.std.proofs.Common.{refl}
use Rattle.td_routes.proofs.RouteFacts.{pattern_found}
use Rattle.td_routes.proofs.routes.find_methods.Goals as goal

pub returns-in_err-found : goal.returns-in_err-found
returns-in_err-found c =
    let pattern = pattern_found c.args.path.now c.args.table.now.rows.now _ c.in_err-found.ensures.row in
    rw (c.from_residual.ensures, pattern) refl

pub returns : goal.returns
returns c =
    let pattern = pattern_found c.args.path.now c.args.table.now.rows.now _ c.in_ok-found.ensures.row in
    rw (c.methods_with.ensures, pattern) refl
