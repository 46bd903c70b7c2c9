use Rattle.std.proofs.Common.{◌≡◌, ◌++◌, map, take}
use Rattle.td_store_rows.specs.MovementTable.{shown_in_list}
use Rattle.td_store_load.proofs.lists.push_rows.Given as goal

-- what the rows before show is put behind
abbrev pub invariant-rows : goal.invariant-rows
invariant-rows l = l.movements.items ≡ l.initial.movements.items ++ map shown_in_list (take l.row-index l.rows)
