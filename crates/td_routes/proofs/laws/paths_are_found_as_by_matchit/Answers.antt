use Rattle.std.proofs.Common.{refl}
use Rattle.path_table.proofs.Looking.{look_up}
use Rattle.td_routes.specs.Routes.{TableRow, table}
use Rattle.td_routes.proofs.laws.paths_are_found_as_by_matchit.Goals as goal

pub returns : goal.returns
returns g path bytes = look_up (λ (row : TableRow). row.path) table path refl bytes
