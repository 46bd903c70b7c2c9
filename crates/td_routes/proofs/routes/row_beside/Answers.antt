use Rattle.std.proofs.Common.{rules, ◌≡◌, true}
use Rattle.std.specs.Prelude.{bytes_eq}
use Rattle.td_routes.specs.Routes.{verb_text}
use Rattle.td_routes.proofs.RouteFacts.{row_first}
use Rattle.td_routes.proofs.routes.row_beside.Goals as goal

pub returns-then-eq : goal.returns-then-eq
returns-then-eq c =
    let same : bytes_eq (verb_text c.args.first.now.method) c.args.method.now ≡ true = search rules in
    row_first c.args.rows.now c.args.first.now c.args.method.now c.requires same
