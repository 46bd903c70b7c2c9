use Rattle.std.proofs.Common.{◌≤◌, ◌<◌, ◌+◌}
use Rattle.td_store_load.proofs.releases.end_of_run.Given as goal

-- the range so far has its first serial, and is no wider than one may be
abbrev pub invariant-rows : goal.invariant-rows
invariant-rows l = (l.first ≤ l.last) × (l.last < l.first + 64)
