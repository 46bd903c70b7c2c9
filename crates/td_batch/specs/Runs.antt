-- Rows of a batch, done at a desk one after another.
use Rattle.std.specs.Prelude.{◌≡◌, ◌≢◌, ◌⊎◌, ℕ, ◌+◌, ℤ, List, [], ◌∷◌, ◌++◌, Bool, true, false, length, map, take, zip, Option, Some, None, Result, Ok, Err}
use Rattle.std.specs.List.{FoldsTo, list_any}
use Rattle.td_commands.specs.Commands.{IsProper}
use Rattle.td_commands.specs.declared.command.Command.{Command}
use Rattle.td_commands.specs.declared.command.Stamped.{Stamped}
use Rattle.td_commands.specs.declared.said.Said.{Said}
use Rattle.td_commands.specs.declared.said.Said.TheVariants.{Answered, Refused}
use Rattle.td_model.specs.Book.{Book}
use Rattle.td_desk.specs.declared.fault.Fault.{Fault}
use Rattle.td_desk.specs.declared.fault.Fault.TheVariants as fault
use Rattle.td_desk.specs.declared.running.Outcome.{Outcome}
use Rattle.td_desk.specs.declared.running.Outcome.TheVariants as outcome
use Rattle.td_model.specs.Content.{Content, IsSound}
use Rattle.td_desk.specs.Runs.{is_failed, IsOutcomeOf, IsRun, IsStep, IsTied, LeavesAfter}
use Rattle.td_desk.specs.View.{DeskView, IsSettled}
use Rattle.td_acts.specs.Weighing.{owner_account}
use Rattle.td_model.specs.Machine.{is_accepted}
use Rattle.td_batch.specs.declared.running.BatchRun.{BatchRun}
use Rattle.td_batch.specs.Results.{result_rows}

-- a row's command at the moment of the batch
abbrev pub at_moment : ℤ → Command → Stamped
at_moment at command = record { at = at; command = command }

abbrev pub outcome_of : Result Said Fault → Outcome
outcome_of (Ok said) = outcome.Said said
outcome_of (Err why) = outcome.Failed why

-- How a row ended by the calls that it makes of a desk: as a command does, or for want of memory for its result row, at a desk
-- that weighed it and did no more.
abbrev pub IsRowCausedBy : {D : Type 0} → DeskView D → D → Stamped → Outcome → D → Type 0
IsRowCausedBy view old s o new = IsOutcomeOf view old s o new ⊎ ((o ≡ outcome.Failed fault.NoMemory) × view.weighed old s None new)

-- One row was done at a desk, or failed: all that is promised of a command.
pub record IsDone {D : Type 0} (view : DeskView D) (at : ℤ) (command : Command) (o : Outcome) (old new : D) : Type 0 where
  pub clean : view.is_clean new → view.is_clean old
  pub live : view.is_clean new → view.is_live new → view.is_live old
  pub performs : view.is_clean new
      → IsStep (view.is_live old) (view.is_live new) (view.content old) (at_moment at command) o (view.content new)
  -- what isn't accepted changes nothing
  pub unchanged : view.is_clean new → view.is_live new → IsSound (view.content old)
      → is_accepted (owner_account (view.content old) command) at command ≡ false → view.content new ≡ view.content old
  pub stays : view.is_clean new → view.is_live old → o ≢ outcome.Failed fault.Store → view.is_live new
  pub memory : view.is_clean new → o ≡ outcome.Failed fault.NoMemory → view.is_live new
  pub crash : view.is_clean new → LeavesAfter view old (at_moment at command) (is_failed o) new
  pub settled : view.is_clean new → IsSettled view new
  pub store : o ≡ outcome.Failed fault.Store → view.has_store
  pub calls : IsRowCausedBy view old (at_moment at command) o new
  pub proper : IsProper command

-- the same of a row and its outcome
abbrev pub IsRowDone : {D : Type 0} → DeskView D → ℤ → D → Command × Outcome → D → Type 0
IsRowDone view at old row new = IsDone view at row.0 row.1 old new

-- it is no answer
abbrev pub is_refusal : Said → Bool
is_refusal (Answered answer) = false
is_refusal (Refused refusal) = true

-- whether a row that was done was refused
abbrev pub has_refusal : BatchRun → Bool
has_refusal r = r.has_refusal

-- how the rows ended: those that were done by what was said, and perhaps one more by a fault
abbrev pub outcomes_of : List Said → Option Fault → List Outcome
outcomes_of said None = map (λ s. outcome.Said s) said
outcomes_of said (Some why) = map (λ s. outcome.Said s) said ++ outcome.Failed why ∷ []

-- the rows that were tried: those that were done, and perhaps the one that failed
abbrev pub tried : List Command → List Said → Option Fault → List Command
tried rows said stopped = take (length (outcomes_of said stopped)) rows

-- all rows were done, or a fault stopped it at the next
abbrev pub Ends : List Command → List Said → Option Fault → Type 0
Ends rows said None = length said ≡ length rows
Ends rows said (Some why) = (rest : ℕ) × (length said + 1 + rest ≡ length rows)

-- To each holder at once, what the result file tells is what the holder's own machine says to the rows that were tried. Where a
-- fault shut the desk, this holds of the content up to then.
abbrev pub IsPrivate : {D : Type 0} → DeskView D → ℤ → List Command → List Outcome → D → D → Type 0
IsPrivate view at commands outcomes old new =
    view.is_clean new → view.is_live old → IsSound (view.content old) → (books : ℕ → Book) → IsTied (view.content old) books
    → (c : Content) × IsRun (view.content old).country books (map (at_moment at) commands) outcomes c
    × (view.is_live new → view.content new ≡ c)

-- The rows were done in order, up to a fault, each from what the one before left: this was said to them, and the result file is
-- its header and their rows.
pub record IsBatchDone {D : Type 0} (view : DeskView D)
    (line : Command → Said → List ℕ) (header : List ℕ) (at : ℤ) (rows : List Command) (r : BatchRun) (old new : D) : Type 0 where
  pub said : List Said
  pub text : r.text.items ≡ header ++ result_rows line (take (length said) rows) said
  pub done : r.done ≡ length said
  pub ends : Ends rows said r.stopped
  pub refused : has_refusal r ≡ list_any is_refusal said
  pub steps : FoldsTo (IsRowDone view at) old (zip (tried rows said r.stopped) (outcomes_of said r.stopped)) new
  pub private : IsPrivate view at (tried rows said r.stopped) (outcomes_of said r.stopped) old new

-- nothing was done, for want of memory for the header; or the rows were, up to a fault
abbrev pub IsRunOf : {D : Type 0} → DeskView D → (Command → Said → List ℕ) → List ℕ → ℤ
    → List Command → BatchRun → D → D → Type 0
IsRunOf view line header at rows r old new =
    ((new ≡ old) × (r.text.items ≡ []) × (r.done ≡ 0) × (r.stopped ≡ Some fault.NoMemory))
    ⊎ IsBatchDone view line header at rows r old new
