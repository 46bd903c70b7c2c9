use Rattle.std.proofs.Common.{◌↔◌, drop}
use Rattle.keyed_rows.specs.Rows.{Rises}
use Rattle.td_store_rows.specs.MovementTable.{serial_of_stored}
use Rattle.td_migrate.proofs.amounts.rise.Given as goal

-- all rise exactly where those to come do, from the least that may come
abbrev pub invariant-loop-row : goal.invariant-loop-row
invariant-loop-row l = Rises serial_of_stored 0 l.serials ↔ Rises serial_of_stored l.least (drop l.row-index l.serials)
