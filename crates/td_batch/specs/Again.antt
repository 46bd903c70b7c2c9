-- Declarations that are sent again.
use Rattle.std.specs.Prelude.{◌≡◌, ℤ}
use Rattle.td_commands.specs.declared.command.Stamped.{Stamped}
use Rattle.td_batch_rows.specs.Declarations.{IsDeclaration}

-- the command is a declaration, sent at that moment
abbrev pub IsDeclaredAt : ℤ → Stamped → Type 0
IsDeclaredAt at s = (s.at ≡ at) × IsDeclaration s.command
