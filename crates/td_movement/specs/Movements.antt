-- A movement without its lines: the row that is kept of it, as moves and lists ask for it.
use Rattle.std.specs.Prelude.{[]}
use Rattle.td_movement.specs.declared.movement.Movement.{Movement}

abbrev pub without_lines : Movement → Movement
without_lines m = record m { lines = [] }
