-- A journal's rows, done again at a desk one after another.
use Rattle.std.specs.Prelude.{◌≡◌, ◌≢◌, ◌⊎◌, ◌↔◌, ℕ, ◌≤◌, Bool, true, false, List, [], ◌∷◌, ◌++◌, All, IsTrue, codes, decimal, length, map, take, zip, Option, Some, None}
use Rattle.std.specs.List.{FoldsTo}
use Rattle.csv.specs.Writing.{default_writer, row_text}
use Rattle.td_answers.specs.Answers.{said_body}
use Rattle.td_commands.specs.declared.command.Stamped.{Stamped}
use Rattle.td_commands.specs.declared.said.Said.{Said}
use Rattle.td_model.specs.Content.{Content, IsSound}
use Rattle.td_desk.specs.Runs.{AreOutcomesOf, IsOutcomeOf, IsRun, IsStep, IsTied, LeavesAfter, is_failed}
use Rattle.td_desk.specs.View.{DeskView, IsSettled}
use Rattle.td_desk.specs.declared.fault.Fault.{Fault}
use Rattle.td_desk.specs.declared.fault.Fault.TheVariants as fault
use Rattle.td_desk.specs.declared.running.Outcome.{Outcome}
use Rattle.td_desk.specs.declared.running.Outcome.TheVariants as outcome
use Rattle.td_journal_lines.specs.Lines.{Numbered}
use Rattle.td_model.specs.Book.{Book}
use Rattle.td_redo.specs.Replies.{body_text}
use Rattle.td_replay.specs.declared.replaying.ReplayRun.{ReplayRun}

-- a row's command, at its own moment
abbrev pub stamped_of : Numbered → Stamped
stamped_of r = r.row.stamped

-- the header of the result file
abbrev pub replies_header : List ℕ
replies_header = codes "number,reply\n"

-- the line of a row with this number: the body of the reply that is given now
abbrev pub reply_line : ℕ → Said → List ℕ
reply_line number words = row_text default_writer (decimal number ∷ said_body words ∷ [])

-- the lines of these rows, to which this was said
unfoldable pub reply_lines : List Numbered → List Said → List ℕ
reply_lines [] said = []
reply_lines (r ∷ rows) [] = []
reply_lines (r ∷ rows) (words ∷ said) = reply_line r.number words ++ reply_lines rows said

-- a row has the reply that is given now
abbrev pub IsSame : Numbered → Said → Type 0
IsSame r words = said_body words ≡ r.row.shown

-- the number of the first of these rows that has another one than what was said to it, if there is one
abbrev pub IsFirstDifference : List Numbered → List Said → Option ℕ → Type 0
IsFirstDifference [] said found = found ≡ None
IsFirstDifference (r ∷ rows) [] found = found ≡ None
IsFirstDifference (r ∷ rows) (words ∷ said) found =
    (IsSame r words × IsFirstDifference rows said found) ⊎ ((IsSame r words → ⊥) × (found ≡ Some r.number))

-- the first difference, where one more row stands behind others
abbrev pub difference_with : Option ℕ → Bool → ℕ → Option ℕ
difference_with (Some first) same number = Some first
difference_with None true number = None
difference_with None false number = Some number

-- nothing is escaped in a reply
abbrev pub IsPlain : Said → Type 0
IsPlain words = said_body words ≡ body_text words

-- One command was done at a desk, or failed: all that is promised of it.
pub record IsDoneAt {D : Type 0} (view : DeskView D) (s : Stamped) (o : Outcome) (old new : D) : Type 0 where
  pub clean : view.is_clean new → view.is_clean old
  pub live : view.is_clean new → view.is_live new → view.is_live old
  pub performs : view.is_clean new → IsStep (view.is_live old) (view.is_live new) (view.content old) s o (view.content new)
  pub stays : view.is_clean new → view.is_live old → o ≢ outcome.Failed fault.Store → view.is_live new
  pub memory : view.is_clean new → o ≡ outcome.Failed fault.NoMemory → view.is_live new
  pub crash : view.is_clean new → LeavesAfter view old s (is_failed o) new
  pub settled : view.is_clean new → IsSettled view new
  pub store : o ≡ outcome.Failed fault.Store → view.has_store
  pub calls : IsOutcomeOf view old s o new

-- the same of a command and its outcome
abbrev pub IsEachDone : {D : Type 0} → DeskView D → D → Stamped × Outcome → D → Type 0
IsEachDone view old each new = IsDoneAt view each.0 each.1 old new

-- a row was done, and its line stands behind the text; whether it has the reply that is given now
pub record IsTold {D : Type 0} (view : DeskView D) (r : Numbered) (old new : D) (text more : List ℕ) (same : Bool) : Type 0 where
  pub words : Said
  pub done : IsDoneAt view r.row.stamped (outcome.Said words) old new
  pub text_is : more ≡ text ++ reply_line r.number words
  pub same_is : IsTrue same ↔ IsSame r words
  pub plain : IsPlain words

-- the last outcome where a run was stopped: the command failed by this fault; or memory was missing for the line of one that was done
abbrev pub IsLastOutcome : Fault → Outcome → Type 0
IsLastOutcome why (outcome.Failed other) = other ≡ why
IsLastOutcome why (outcome.Said words) = why ≡ fault.NoMemory

-- a row at which a run was stopped
pub record IsStopped {D : Type 0} (view : DeskView D) (r : Numbered) (why : Fault) (old new : D) : Type 0 where
  pub outcome_is : Outcome
  pub done : IsDoneAt view r.row.stamped outcome_is old new
  pub last : IsLastOutcome why outcome_is

-- how the rows that were tried ended: those that are told by what was said, and where it was stopped one more
abbrev pub AreEnded : List Numbered → List Said → Option Fault → List Outcome → Type 0
AreEnded rows said None outcomes = (outcomes ≡ map (λ words. outcome.Said words) said) × (length said ≡ length rows)
AreEnded rows said (Some why) outcomes =
    (o : Outcome) × IsLastOutcome why o × (outcomes ≡ map (λ words. outcome.Said words) said ++ o ∷ []) × (length outcomes ≤ length rows)

-- the commands of the rows that were tried
abbrev pub tried_rows : List Numbered → List Outcome → List Stamped
tried_rows rows outcomes = map stamped_of (take (length outcomes) rows)

-- To each holder at once, what is told is what the holder's own machine says to the commands that were tried. Where a fault shut the
-- desk, this holds of the content up to then.
abbrev pub AreRowsPrivate : {D : Type 0} → DeskView D → List Stamped → List Outcome → D → D → Type 0
AreRowsPrivate view list outcomes old new =
    view.is_clean new → view.is_live old → IsSound (view.content old) → (books : ℕ → Book) → IsTied (view.content old) books
    → (c : Content) × IsRun (view.content old).country books list outcomes c × (view.is_live new → view.content new ≡ c)

-- The rows were done in order, up to a fault, each at its own moment and from what the one before left: this was said to those that
-- are told, and the text is the header and their lines.
pub record IsReplayDone {D : Type 0} (view : DeskView D) (rows : List Numbered) (r : ReplayRun) (old new : D) : Type 0 where
  pub said : List Said
  pub outcomes : List Outcome
  pub text : r.text.items ≡ replies_header ++ reply_lines rows said
  pub done : r.done ≡ length said
  pub differs : IsFirstDifference rows said r.differs
  pub ended : AreEnded rows said r.stopped outcomes
  pub steps : FoldsTo (IsEachDone view) old (zip (tried_rows rows outcomes) outcomes) new
  pub calls : AreOutcomesOf view old (tried_rows rows outcomes) outcomes new
  pub plain : All IsPlain said
  pub private : AreRowsPrivate view (tried_rows rows outcomes) outcomes old new

-- nothing was done, for want of memory for the header
pub record IsNotBegun {D : Type 0} (r : ReplayRun) (old new : D) : Type 0 where
  pub desk : new ≡ old
  pub text : r.text.items ≡ []
  pub done : r.done ≡ 0
  pub differs : r.differs ≡ None
  pub stopped : r.stopped ≡ Some fault.NoMemory

-- or the rows were, up to a fault
abbrev pub IsReplayOf : {D : Type 0} → DeskView D → List Numbered → ReplayRun → D → D → Type 0
IsReplayOf view rows r old new = IsNotBegun r old new ⊎ IsReplayDone view rows r old new
