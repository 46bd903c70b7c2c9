-- Laws of replays.
use Rattle.std.specs.Prelude.{◌≡◌, ◌≢◌, ℕ, List, ◌∷◌, ◌++◌, Some, None, filter, map}
use Rattle.td_commands.specs.Commands.{owner_of}
use Rattle.td_model.specs.Content.{Content, IsSound, account_in}
use Rattle.td_desk.specs.Runs.{is_holder}
use Rattle.td_desk.specs.View.{DeskView}
use Rattle.td_journal.specs.Parts.{AreTold}
use Rattle.td_journal_lines.specs.Lines.{Numbered}
use Rattle.td_redo.specs.Redo.{AreDone, Row}
use Rattle.td_redo.specs.Replies.{body_text}
use Rattle.td_replay.specs.Reading.{HasChanges}
use Rattle.td_replay.specs.Replays.{IsReplayOf, stamped_of}
use Rattle.td_replay.specs.declared.replaying.ReplayRun.{ReplayRun}

-- Bytes are the lines of one list of rows, with one torn rest.
abbrev pub ReadInOneWay : Type 0
ReadInOneWay =
    (bytes : List ℕ) (rows others : List Numbered) (torn other_torn : ℕ)
    → HasChanges bytes rows torn → HasChanges bytes others other_torn → (rows ≡ others) × (torn ≡ other_torn)

-- rows without their numbers
abbrev pub rows_of : List Numbered → List (Row (List ℕ))
rows_of rows = map (λ r. r.row) rows

-- the replies that rows have
abbrev pub replies_of : List Numbered → List (List ℕ)
replies_of rows = map (λ r. r.row.shown) rows

-- the rows of the commands that H owns
abbrev pub rows_owned : List ℕ → ℕ → List Numbered → List Numbered
rows_owned country H rows = filter (λ r. is_holder H (owner_of country r.row.stamped.command)) rows

-- a row with another reply
abbrev pub with_reply : Numbered → List ℕ → Numbered
with_reply r reply = record { number = r.number; row = record { stamped = r.row.stamped; shown = reply } }

-- All rows were replayed at a desk of this content, which is clean and live in the end.
pub record IsReplayedOver {D : Type 0} (view : DeskView D) (begin : Content) (rows : List Numbered) (r : ReplayRun) (old new : D) : Type 0 where
  pub content : view.content old ≡ begin
  pub replay : IsReplayOf view rows r old new
  pub all : r.stopped ≡ None
  pub clean : view.is_clean new
  pub live : view.is_live new

-- The rows of a journal, replayed over the content with which it began, differ nowhere, and leave the content that they left.
abbrev pub DeskIsRebuilt : {D : Type 0} → DeskView D → Type 0
DeskIsRebuilt {D} view =
    (begin end : Content) (rows : List Numbered) (r : ReplayRun) (old new : D) → IsSound begin
    → AreDone body_text begin (rows_of rows) end → IsReplayedOver view begin rows r old new
    → (r.differs ≡ None) × (view.content new ≡ end)

-- The rows of H alone, replayed over a content that has the same of H, differ nowhere: H's part of a journal tells H the same
-- as the whole one does.
abbrev pub PartDiffersNowhere : {D : Type 0} → DeskView D → Type 0
PartDiffersNowhere {D} view =
    (country : List ℕ) (H : ℕ) (begin end other : Content) (rows : List Numbered) (r : ReplayRun) (old new : D)
    → begin.country ≡ country → other.country ≡ country → account_in H begin ≡ account_in H other → IsSound other
    → AreTold begin (map stamped_of rows) (replies_of rows) end
    → IsReplayedOver view other (rows_owned country H rows) r old new → r.differs ≡ None

-- Where one row has another reply than what was said to it, and all others have what was said to them, that row is told.
abbrev pub ChangedReplyIsTold : {D : Type 0} → DeskView D → Type 0
ChangedReplyIsTold {D} view =
    (begin end : Content) (before after : List Numbered) (row : Numbered) (reply : List ℕ) (r : ReplayRun) (old new : D) → IsSound begin
    → AreDone body_text begin (rows_of (before ++ row ∷ after)) end → reply ≢ row.row.shown
    → IsReplayedOver view begin (before ++ with_reply row reply ∷ after) r old new
    → (r.differs ≡ Some row.number) × (view.content new ≡ end)
