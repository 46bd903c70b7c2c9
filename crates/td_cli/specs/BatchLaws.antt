-- What a crash leaves of a batch, and what becomes of a batch of declarations that it cut short.
use Rattle.std.proofs.Common.{inl, inr}
use Rattle.std.specs.Prelude.{◌≡◌, ◌⊎◌, ℕ, ◌≤◌, ℤ, true, List, [], ◌∷◌, ◌++◌, map, Some}
use Rattle.std.specs.List.{FoldsTo}
use Rattle.td_base.specs.Days.{moment_of}
use Rattle.td_commands.specs.Commands.{owner_of}
use Rattle.td_commands.specs.declared.command.Command.{Command}
use Rattle.td_commands.specs.declared.command.Stamped.{Stamped}
use Rattle.td_commands.specs.declared.said.Answer.{Answer}
use Rattle.td_commands.specs.declared.said.Said.{Said}
use Rattle.td_commands.specs.declared.said.Said.TheVariants.{Answered}
use Rattle.td_model.specs.declared.holder_row.HolderRow.{HolderRow}
use Rattle.td_model.specs.Book.{Book}
use Rattle.td_model.specs.Machine.{machine_book}
use Rattle.td_desk.specs.declared.running.Outcome.{Outcome}
use Rattle.td_desk.specs.declared.running.Outcome.TheVariants as outcome
use Rattle.td_model.specs.Content.{Content, account_in, IsSound}
use Rattle.td_desk.specs.Runs.{Agree, failures, heard, is_failed, told}
use Rattle.td_desk.specs.View.{DeskView}
use Rattle.td_http.specs.Kept.{IsKeptIn}
use Rattle.td_batch_rows.specs.Declarations.{IsDeclaration}
use Rattle.td_batch.specs.declared.running.BatchRun.{BatchRun}
use Rattle.td_batch.specs.Laws.{IsLater, IsSaidTo, stamped_rows}
use Rattle.td_batch.specs.Results.{declaration_result, declarations_header}
use Rattle.td_batch.specs.Runs.{at_moment, IsBatchDone, IsRowDone, IsRunOf, outcomes_of}

-- a row that was tried, and how it ended
abbrev pub TriedRow : Type 0
TriedRow = Command × Outcome

-- the books that the machines end with after these rows: each holder's commands among them that did not fail
abbrev pub books_after_rows : List ℕ → (ℕ → Book) → ℤ → List TriedRow → ℕ → Book
books_after_rows country books at rows H =
    machine_book H (books H) (heard country H (map (at_moment at) (map (λ row. row.0) rows)) (map (λ row. row.1) rows))

-- this command is that of one of the rows, which failed
abbrev pub HasFailedAmong : ℤ → List TriedRow → Stamped → Type 0
HasFailedAmong at [] s = ⊥
HasFailedAmong at (row ∷ rows) s = ((s ≡ at_moment at row.0) × (is_failed row.1 ≡ true)) ⊎ HasFailedAmong at rows s

-- A content that a crash may leave after rows: the books are those that the machines end with after them, or one of these rows
-- failed, and its command was done.
abbrev pub IsKeptAfterRows : List ℕ → (ℕ → Book) → ℤ → List TriedRow → Content → Type 0
IsKeptAfterRows country books at rows x = IsKeptIn country (HasFailedAmong at rows) (books_after_rows country books at rows) x

-- Between some rows of a batch and those after them there was a moment, to which the first led and from which the others lead.
-- The desk then had sound content, so that each guarantee is covered, while no fault had shut it; and whatever a crash leaves
-- then is a desk, whose content is one after the first rows.
pub record IsKeptBetweenRows {D : Type 0} (view : DeskView D) (country : List ℕ) (books : ℕ → Book)
    (at : ℤ) (first others : List TriedRow) (old new : D) : Type 0 where
  pub between : D
  pub led : FoldsTo (IsRowDone view at) old first between
  pub leads : FoldsTo (IsRowDone view at) between others new
  pub sound : view.is_live between → IsSound (view.content between)
  pub recovers : view.recovers between
  pub kept : (x : Content) → view.may_leave between x → IsKeptAfterRows country books at first x

-- one of the rows is this command, which was answered so
abbrev pub IsAnsweredAmong : Command → Answer → List TriedRow → Type 0
IsAnsweredAmong d a rows = (before after : List TriedRow) × (rows ≡ before ++ (d, outcome.Said (Answered a)) ∷ after)

-- A declaration among the first rows of a batch, which was answered, and which is done again in another batch over what a crash left
-- after them, whatever came between: at any moment in range that isn't before the holder's own last change then, it has the same
-- answer. (So it has the same result row, and the MRN of the movement that stands.)
abbrev pub IsAnsweredAfterCrash : {D E : Type 0} → DeskView D → DeskView E → List TriedRow → D → Type 0
IsAnsweredAfterCrash {E = E} view other first between =
    (later : ℤ) (t : ℕ) (rows : List Command) (again : BatchRun) (middle new : E) (x : Content)
    (H : ℕ) (row : HolderRow) (d : Command) (a : Answer) (s : Said)
    → view.may_leave between x → IsLater x (other.content middle)
    → (more : IsBatchDone other declaration_result declarations_header later rows again middle new)
    → other.is_clean new → other.is_live middle
    → IsDeclaration d → IsAnsweredAmong d a first → IsSaidTo d s rows more.said
    → owner_of (other.content middle).country d ≡ Some H → (account_in H (other.content middle)).holder ≡ Some row
    → moment_of later ≡ Some t → row.last_at ≤ t → s ≡ Answered a

module _ {D : Type 0} {view : DeskView D} {line : Command → Said → List ℕ} {header : List ℕ} {old new : D} where
  -- the commands of the rows that a batch tried, at its moment; where nothing was done there are none
  abbrev pub commands_tried : (at : ℤ) (rows : List Command) (r : BatchRun) → IsRunOf view line header at rows r old new → List Stamped
  commands_tried at rows r (inl nothing) = []
  commands_tried at rows r (inr done) = stamped_rows at rows r done.said

  -- and how they ended
  abbrev pub outcomes_tried : (at : ℤ) (rows : List Command) (r : BatchRun) → IsRunOf view line header at rows r old new → List Outcome
  outcomes_tried at rows r (inl nothing) = []
  outcomes_tried at rows r (inr done) = outcomes_of done.said r.stopped

-- Two batches whose tried rows agree on H, moments included, and of whose rows of H the same failed, tell H the same.
abbrev pub TellAlikeByRows : List ℕ → ℕ → List Stamped → List Outcome → List Stamped → List Outcome → Type 0
TellAlikeByRows country H list outcomes other_list other_outcomes =
    Agree country H list other_list → failures country H list outcomes ≡ failures country H other_list other_outcomes
    → told country H list outcomes ≡ told country H other_list other_outcomes
