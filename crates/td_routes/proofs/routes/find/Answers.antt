use Rattle.std.proofs.Common.{refl}
use Rattle.td_routes.proofs.RouteFacts.{first_with, pattern_found}
use Rattle.td_routes.proofs.routes.find.Goals as goal

pub returns-in_default : goal.returns-in_default
returns-in_default c =
    let pattern = pattern_found c.args.path.now c.args.table.now.rows.now _ c.in_default.ensures.row in
    rw pattern refl

pub returns-in-Some-row_beside : goal.returns-in-Some-row_beside
returns-in-Some-row_beside c =
    let pattern = pattern_found c.args.path.now c.args.table.now.rows.now _ c.in-Some.ensures.row in
    let row = rw (c.as_str.ensures.value) at c.in-Some-row_beside.ensures in
    rw (pattern, ← row, c.read_parts.ensures, c.in-Some.ensures.parts) refl

pub returns-in-None : goal.returns-in-None
returns-in-None c =
    let pattern = pattern_found c.args.path.now c.args.table.now.rows.now _ c.in-Some.ensures.row in
    let none = rw (c.as_str.ensures.value) at c.in-None.ensures in
    rw (pattern, ← none, c.methods_with.ensures) refl

pub row_beside-requires : goal.row_beside-requires
row_beside-requires c = first_with c.args.path.now c.args.table.now.rows.now _ c.in-Some.ensures.row
