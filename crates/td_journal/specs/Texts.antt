-- The rows of accepted changes, as the text of a journal.
use Rattle.std.specs.Prelude.{◌≡◌, ℕ, ℤ, Bool, true, false, List, Option, None, Some}
use Rattle.td_answers.specs.Answers.{said_body}
use Rattle.td_base.specs.Days.{moment_of}
use Rattle.td_commands.specs.declared.command.Command.{Command}
use Rattle.td_commands.specs.declared.command.Stamped.{Stamped}
use Rattle.td_commands.specs.declared.said.Said.{Said}
use Rattle.td_model.specs.Content.{Content}
use Rattle.td_acts.specs.Weighing.{owner_account}
use Rattle.td_journal_rows.specs.Rows.{change_row, row_line}
use Rattle.td_model.specs.Machine.{is_accepted}
use Rattle.td_model.specs.Table.{said}

-- the line of the row with this number, of a command at a moment, to which that was said
pub record IsLineOf (number : ℕ) (at : ℤ) (command : Command) (words : Said) (line : List ℕ) : Type 0 where
  pub seconds : ℕ
  pub moment : moment_of at ≡ Some seconds
  pub line_is : line ≡ row_line (change_row number seconds command (said_body words))

-- a desk of this content accepts the command as a change
abbrev pub is_change_at : Content → Stamped → Bool
is_change_at c s = is_accepted (owner_account c s.command) s.at s.command

-- the line of the row that tells of it, with what a desk of this content says to it
abbrev pub IsRowOf : ℕ → Content → Stamped → List ℕ → Type 0
IsRowOf number c s line = IsLineOf number s.at s.command (said (owner_account c s.command) s.at s.command) line

-- what is to be written of a command: the row of an accepted change, and else nothing
abbrev pub IsNoted : ℕ → Content → Stamped → Option (List ℕ) → Type 0
IsNoted number c s None = is_change_at c s ≡ false
IsNoted number c s (Some line) = (is_change_at c s ≡ true) × IsRowOf number c s line
