-- What batches tell a holder, and what a batch of declarations does that is sent again.
use Rattle.std.specs.Prelude.{◌≡◌, ℕ, ◌≤◌, ℤ, List, ◌∷◌, ◌++◌, length, map, Some, None}
use Rattle.std.specs.List.{AllByRecursion}
use Rattle.td_base.specs.Days.{moment_of}
use Rattle.td_commands.specs.Commands.{owner_of}
use Rattle.td_commands.specs.declared.command.Command.{Command}
use Rattle.td_commands.specs.declared.command.Stamped.{Stamped}
use Rattle.td_commands.specs.declared.said.Answer.{Answer}
use Rattle.td_commands.specs.declared.said.Said.{Said}
use Rattle.td_commands.specs.declared.said.Said.TheVariants.{Answered}
use Rattle.td_model.specs.declared.holder_row.HolderRow.{HolderRow}
use Rattle.td_model.specs.Book.{Book}
use Rattle.td_model.specs.Machine.{machine_book}
use Rattle.td_model.specs.Content.{Content, account_in, IsSound}
use Rattle.td_desk.specs.Runs.{Agree, failures, IsTied, told}
use Rattle.td_desk.specs.View.{DeskView}
use Rattle.td_batch_rows.specs.Declarations.{IsDeclaration}
use Rattle.td_batch.specs.declared.running.BatchRun.{BatchRun}
use Rattle.td_batch.specs.Results.{declaration_result, declarations_header}
use Rattle.td_batch.specs.Runs.{at_moment, IsBatchDone, IsRunOf, outcomes_of, tried}

-- A batch of declarations that no fault stopped, done again at the same moment with no command between, changes nothing, whether
-- a fault stops it then or not. (It may be answered otherwise: a row that was refused for its code, under an LRN that a later
-- row then used, is refused for the LRN.)
abbrev pub AgainChangesNothing : {D : Type 0} → DeskView D → Type 0
AgainChangesNothing {D} view = (at : ℤ) (rows : List Command) (first again : BatchRun) (old mid new : D)
    → AllByRecursion IsDeclaration rows
    → IsRunOf view declaration_result declarations_header at rows first old mid → first.stopped ≡ None
    → IsRunOf view declaration_result declarations_header at rows again mid new
    → view.is_clean new → view.is_live new → IsSound (view.content old) → view.content new ≡ view.content mid

-- The commands of the rows that were tried, at the moment of their batch.
abbrev pub stamped_rows : ℤ → List Command → BatchRun → List Said → List Stamped
stamped_rows at rows r said = map (at_moment at) (tried rows said r.stopped)

-- The headline of batches. Two batches, of declarations or of acts, at desks of one country, whose contents are equal in H's rows
-- and as different as one likes in all others': where the rows that were tried agree on H, moments included, and H's failed at the
-- same places, H was told the same. (A row of the result file is made of its command and of what was said, by `result_rows`.)
abbrev pub AgreeingBatchesTellTheSame : {D E : Type 0} → DeskView D → DeskView E → Type 0
AgreeingBatchesTellTheSame {D} {E} view other_view = (line other_line : Command → Said → List ℕ)
    (header other_header : List ℕ) (at other_at : ℤ) (rows other_rows : List Command) (r other : BatchRun) (old new : D) (other_old other_new : E)
    (country : List ℕ) (H : ℕ)
    → (one : IsBatchDone view line header at rows r old new)
    → (two : IsBatchDone other_view other_line other_header other_at other_rows other other_old other_new)
    → view.is_clean new → view.is_live old → IsSound (view.content old)
    → other_view.is_clean other_new → other_view.is_live other_old → IsSound (other_view.content other_old)
    → (view.content old).country ≡ country → (other_view.content other_old).country ≡ country
    → account_in H (view.content old) ≡ account_in H (other_view.content other_old)
    → Agree country H (stamped_rows at rows r one.said) (stamped_rows other_at other_rows other two.said)
    → failures country H (stamped_rows at rows r one.said) (outcomes_of one.said r.stopped)
    ≡ failures country H (stamped_rows other_at other_rows other two.said) (outcomes_of two.said other.stopped)
    → told country H (stamped_rows at rows r one.said) (outcomes_of one.said r.stopped)
    ≡ told country H (stamped_rows other_at other_rows other two.said) (outcomes_of two.said other.stopped)

-- Where these rows were done, this was said to that one: at some place of the batch.
abbrev pub IsSaidTo : Command → Said → List Command → List Said → Type 0
IsSaidTo d s rows said = (before after : List Command) × (said_before said_after : List Said)
    × (rows ≡ before ++ d ∷ after) × (said ≡ said_before ++ s ∷ said_after) × (length said_before ≡ length before)

-- A content that others came to after another one, whatever came between: of each holder it has what the holder's machine leaves
-- by some commands, from any book that says what the holder had. Runs, streams and connections promise so.
pub record IsLater (before after : Content) : Type 0 where
  pub country : after.country ≡ before.country
  pub sound : IsSound after
  pub books : (books : ℕ → Book) → IsTied before books
      → (between : ℕ → List Stamped) × IsTied after (λ H. machine_book H (books H) (between H))

-- A declaration of a batch that was answered has the same answer where it is done again in a batch, at any moment in range that
-- isn't before the holder's own last change then, whatever came between. (So it has the same result row, and the MRN of the
-- movement that stands; no other movement of the holder has its LRN in a sound content.)
abbrev pub AnsweredAgain : {D : Type 0} → DeskView D → Type 0
AnsweredAgain {D} view = (at later : ℤ) (t : ℕ) (rows others : List Command) (first again : BatchRun) (old mid middle new : D)
    (H : ℕ) (row : HolderRow) (d : Command) (a : Answer) (s : Said)
    → (one : IsBatchDone view declaration_result declarations_header at rows first old mid)
    → (more : IsBatchDone view declaration_result declarations_header later others again middle new)
    → view.is_clean mid → view.is_live mid → IsSound (view.content old) → IsLater (view.content mid) (view.content middle)
    → view.is_clean new → view.is_live middle
    → IsDeclaration d → IsSaidTo d (Answered a) rows one.said → IsSaidTo d s others more.said
    → owner_of (view.content middle).country d ≡ Some H → (account_in H (view.content middle)).holder ≡ Some row
    → moment_of later ≡ Some t → row.last_at ≤ t → s ≡ Answered a
