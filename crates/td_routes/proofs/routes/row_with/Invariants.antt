use Rattle.std.proofs.Common.{◌≡◌, drop, map}
use Rattle.td_routes.specs.Routes.{row_shown, row_with}
use Rattle.td_routes.proofs.routes.row_with.Given as goal

-- the row is among those that are left
abbrev pub invariant-loop-row : goal.invariant-loop-row
invariant-loop-row l = row_with (map row_shown (drop l.row-index l.rows)) l.pattern l.method ≡ row_with (map row_shown l.rows) l.pattern l.method
