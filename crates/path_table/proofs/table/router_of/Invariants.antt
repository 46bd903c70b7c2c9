use Rattle.std.proofs.Common.{◌≡◌, [], take, drop}
use Rattle.path_table.specs.Routers.{router_behind}
use Rattle.path_table.proofs.table.router_of.Given as goal

-- the rows before are in the router
abbrev pub invariant-loop-place : goal.invariant-loop-place
invariant-loop-place g l = router_behind g.R.Row.pattern [] l.rows [] ≡ router_behind g.R.Row.pattern (take l.place l.rows) (drop l.place l.rows) l.router
