-- The rows of a file, done at a desk.
use Rattle.std.specs.Prelude.{◌≡◌, ℕ, ℤ, List, Option, Result, Ok, Err}
use Rattle.td_commands.specs.declared.command.Command.{Command}
use Rattle.td_commands.specs.declared.said.Said.{Said}
use Rattle.td_desk.specs.View.{DeskView}
use Rattle.td_batch_rows.specs.Acts.{acts_in}
use Rattle.td_batch_rows.specs.Declarations.{declarations_in}
use Rattle.td_batch_rows.specs.Rows.{Place, Tells}
use Rattle.td_batch.specs.declared.running.BatchRun.{BatchRun}
use Rattle.td_batch.specs.Results.{act_result, acts_header, declaration_result, declarations_header}
use Rattle.td_batch.specs.Runs.{IsRunOf}
use Rattle.td_words.specs.declared.words.BatchKind.{BatchKind}
use Rattle.td_words.specs.declared.words.BatchKind.TheVariants as kind
use Rattle.td_jobs.specs.Desks.{IsMomentBy}
use Rattle.td_jobs.specs.Jobs.{DeskAndMachine}
use Rattle.td_machine.specs.Machine.{HasRead, IsNotRead, Known}
use Rattle.td_jobs.specs.declared.rows.Rows.{Rows}
use Rattle.td_jobs.specs.declared.rows.Rows.TheVariants as rows
use Rattle.td_jobs.specs.declared.rows.RowsFault.{RowsFault}
use Rattle.td_jobs.specs.declared.rows.RowsFault.TheVariants.{File, Bytes}

-- the rows that bytes are, or the first bad row and column
abbrev pub batch_rows_in : BatchKind → List ℕ → Result (List Command) Place
batch_rows_in kind.Declarations bytes = declarations_in bytes
batch_rows_in kind.Acts bytes = acts_in bytes

-- a result row, and the header above it
abbrev pub result_line : BatchKind → Command → Said → List ℕ
result_line kind.Declarations = declaration_result
result_line kind.Acts = act_result

abbrev pub header_of : BatchKind → List ℕ
header_of kind.Declarations = declarations_header
header_of kind.Acts = acts_header

abbrev pub kind_of : Rows → BatchKind
kind_of (rows.Declarations all) = kind.Declarations
kind_of (rows.Acts all) = kind.Acts

abbrev pub commands_of : Rows → List Command
commands_of (rows.Declarations all) = all.items
commands_of (rows.Acts all) = all.items

-- What the machine's file at a path was read as: the rows of that kind that its bytes are; or it wasn't read, for this reason; or its bytes
-- were, and they aren't wholly rows, or there was no memory for these.
module _ {M L : Type 0} (known : Known M L) (path : List ℕ) (which : BatchKind) (old new : M) where
  abbrev pub AreRead : Result Rows RowsFault → Type 0
  AreRead (Ok all) =
      (bytes : List ℕ) × HasRead known path old bytes new × (kind_of all ≡ which) × (batch_rows_in which bytes ≡ Ok (commands_of all))
  AreRead (Err (File why)) = IsNotRead known path old new why
  AreRead (Err (Bytes why)) = (bytes : List ℕ) × HasRead known path old bytes new × Tells (batch_rows_in which bytes) why

-- Rows were done, all at one moment, at a desk that is seen so: the moment that is given, or else the answer of the machine's clock,
-- which is asked once.
pub record HasDoneRows {D M : Type 0} (view : DeskView D) (ticks : M → ℤ → M → Type 0) (at : Option ℤ)
    (which : BatchKind) (commands : List Command) (old new : DeskAndMachine D M) (r : BatchRun) : Type 0 where
  pub moment : ℤ
  pub asked : IsMomentBy ticks at old.machine moment new.machine
  pub ran : IsRunOf view (result_line which) (header_of which) moment commands r old.desk new.desk
