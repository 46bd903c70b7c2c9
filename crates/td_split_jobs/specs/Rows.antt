-- Rows of a file that are split among desks by holder, and the batches that the desks do of them.
use Rattle.std.specs.Prelude.{◌≡◌, ℕ, ◌<◌, ◌==◌, ℤ, Bool, List, [], ◌∷◌, map, filter, if◌then◌else◌, IfSome}
use Rattle.std.specs.List.{AllByRecursion}
use Rattle.td_commands.specs.declared.command.Command.{Command}
use Rattle.td_commands.specs.declared.said.Said.{Said}
use Rattle.td_commands.specs.Commands.{owner_of}
use Rattle.td_model.specs.Content.{IsSound, rows_of}
use Rattle.td_desk.specs.Runs.{is_holder, failures}
use Rattle.td_desk.specs.View.{DeskView}
use Rattle.td_batch.specs.declared.running.BatchRun.{BatchRun}
use Rattle.td_batch.specs.Laws.{stamped_rows}
use Rattle.td_batch.specs.Runs.{IsBatchDone, outcomes_of}
use Rattle.td_split.specs.Split.{Shards}

-- a row's command, and the number of the desk that it is sent to
pub record SentRow : Type 0 where
  pub command : Command
  pub desk : ℕ

-- the commands of all rows in order, as one desk does them
abbrev pub all_rows : List SentRow → List Command
all_rows sent = map (λ s. s.command) sent

-- those of the rows that are sent to desk i, in order
abbrev pub rows_for : ℕ → List SentRow → List Command
rows_for i sent = map (λ s. s.command) (filter (λ s. s.desk == i) sent)

-- the number of the desk that each row is sent to
abbrev pub desks_of : List SentRow → List ℕ
desks_of sent = map (λ s. s.desk) sent

-- A row is sent to one of so many desks: a holder's to the holder's own, which f says, and one that nobody owns to any.
abbrev pub IsRowSentTo : List ℕ → (ℕ → ℕ) → ℕ → SentRow → Type 0
IsRowSentTo country f desks s = (s.desk < desks) × IfSome (owner_of country s.command) (λ H. s.desk ≡ f H)

-- the rows of a result file, each made of its command and of what was said to it
abbrev pub result_lines : (Command → Said → List ℕ) → List Command → List Said → List (List ℕ)
result_lines line [] said = []
result_lines line (row ∷ rows) [] = []
result_lines line (row ∷ rows) (s ∷ said) = line row s ∷ result_lines line rows said

-- those of H's rows
abbrev pub own_lines : List ℕ → ℕ → (Command → Said → List ℕ) → List Command → List Said → List (List ℕ)
own_lines country H line [] said = []
own_lines country H line (row ∷ rows) [] = []
own_lines country H line (row ∷ rows) (s ∷ said) =
    if is_holder H (owner_of country row) then line row s ∷ own_lines country H line rows said
    else own_lines country H line rows said

-- whether each of H's rows that were tried failed, in order
abbrev pub failures_in : List ℕ → ℕ → ℤ → List Command → BatchRun → List Said → List Bool
failures_in country H at rows r said = failures country H (stamped_rows at rows r said) (outcomes_of said r.stopped)

-- What rows become in a result file, and when they are done: a row's line, by its command and by what was said to it, the line above
-- all of them, and the moment.
pub record BatchForm : Type 0 where
  pub line : Command → Said → List ℕ
  pub header : List ℕ
  pub at : ℤ

-- a batch at a desk: what it came to, what was said to its rows, and the desk before and after it
pub record BatchAt (D : Type 0) : Type 0 where
  pub run : BatchRun
  pub said : List Said
  pub old : D
  pub new : D

-- A batch was done at a desk of that country. No fault had shut the desk, its content was sound, and in the end its disk is clean.
pub record IsBatchAt {D : Type 0} (view : DeskView D) (form : BatchForm) (country : List ℕ) (rows : List Command) (batch : BatchAt D) : Type 0 where
  pub country_is : (view.content batch.old).country ≡ country
  pub live : view.is_live batch.old
  pub sound : IsSound (view.content batch.old)
  pub clean : view.is_clean batch.new
  pub done : IsBatchDone view form.line form.header form.at rows batch.run batch.old batch.new
  pub said_is : done.said ≡ batch.said

-- The rows of a file were split among desks: one desk did all of them, and each of the others those that were sent to it, all at one
-- moment. In the beginning each of these had the one desk's rows of its own holders.
pub record IsSplitBatch {D E : Type 0} (view : DeskView D) (other : DeskView E) (form : BatchForm) (shards : Shards) (sent : List SentRow)
    (batch : BatchAt D) (batches : ℕ → BatchAt E) : Type 0 where
  pub placed : (H : ℕ) → shards.home H < shards.count
  pub sent_to : AllByRecursion (IsRowSentTo shards.country shards.home shards.count) sent
  pub one : IsBatchAt view form shards.country (all_rows sent) batch
  pub many : (i : ℕ) → i < shards.count → IsBatchAt other form shards.country (rows_for i sent) (batches i)
  pub begun : (H : ℕ) → rows_of H (other.content (batches (shards.home H)).old) ≡ rows_of H (view.content batch.old)
