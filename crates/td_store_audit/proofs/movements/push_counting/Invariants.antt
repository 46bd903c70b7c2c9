use Rattle.std.proofs.Common.{◌≡◌, ◌++◌, map, take}
use Rattle.td_store_rows.specs.MovementTable.{serial_of_stored}
use Rattle.td_store_audit.proofs.Serials.{serials_in}
use Rattle.td_store_audit.proofs.movements.push_counting.Given as goal

-- the serials of those before that count are put behind
abbrev pub invariant-rows : goal.invariant-rows
invariant-rows l = map serial_of_stored l.serials.items ≡ map serial_of_stored l.initial.serials.items ++ serials_in (take l.row-index l.rows)
