-- The lines of a movement: how many there are at most, of what amounts, and how they are kept.
use Rattle.std.specs.Prelude.{ℕ, ◌^◌, List}
use Rattle.td_movement.specs.declared.line.Items.{Items}
use Rattle.td_movement.specs.declared.line.Items.TheVariants.{One, Many}
use Rattle.td_movement.specs.declared.line.Line.{Line}

-- the most lines of a movement
abbrev pub most_lines : ℕ
most_lines = 99

-- the greatest amount of a line, in cents
abbrev pub most_line_cents : ℕ
most_line_cents = 10 ^ 12

-- the lines: one that stands alone, or those of a list
abbrev pub lines_kept : Items → List Line
lines_kept (One lines) = lines
lines_kept (Many lines) = lines.items
