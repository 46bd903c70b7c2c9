-- Rows of a journal that make the content of the desk which keeps it.
use Rattle.std.specs.Prelude.{◌≡◌, ◌⊎◌, ℕ, ◌+◌, List, [], ◌∷◌, ◌++◌, length}
use Rattle.sqlite_disk.specs.declared.Disk.{Ghosts}
use Rattle.td_model.specs.Content.{Content, IsSound}
use Rattle.td_desk.specs.View.{DeskView}
use Rattle.td_journal.specs.Journal.{next_number, text_of}
use Rattle.td_journal.specs.declared.desk.JournaledDesk.{JournaledDesk}
use Rattle.td_journal_rows.specs.Rows.{HasNoLineFeed}
use Rattle.td_journal_start.specs.Lines.{AreLines}
use Rattle.td_redo.specs.Redo.{AreDone, Row}
use Rattle.td_redo.specs.Replies.{body_text}

-- The rows were done one after the other over a sound content, and made this one. The text is their lines, with numbers that rise
-- by one from the first on, and the next row has the next number.
pub record IsKept (begin : Content) (rows : List (Row (List ℕ))) (first next : ℕ) (text : List ℕ) (content : Content) : Type 0 where
  pub sound : IsSound begin
  pub done : AreDone body_text begin rows content
  pub lines : AreLines first rows text
  pub numbers : next ≡ first + length rows

-- a desk that keeps a journal has the text, the next number and the content of these rows
abbrev pub IsKeptAt : {D F : Type 0} {g : Ghosts F} → DeskView D → Content → List (Row (List ℕ)) → ℕ → JournaledDesk D F g → Type 0
IsKeptAt view begin rows first j = IsKept begin rows first (next_number j.journal) (text_of j.journal) (view.content j.desk)

-- a journal that has no rows yet counts from 1
abbrev pub BeginsAt : ℕ → List (Row (List ℕ)) → Type 0
BeginsAt first rows = rows ≡ [] → first ≡ 1

-- a content that all the rows but the last make
abbrev pub LacksTheLast : Content → List (Row (List ℕ)) → Content → Type 0
LacksTheLast begin rows content =
    (before : List (Row (List ℕ))) × (last : Row (List ℕ)) × (rows ≡ before ++ last ∷ []) × AreDone body_text begin before content

-- Rows of a journal: the content that they begin with, the number of the first, their lines, and the content that they make.
pub record JournalText : Type 0 where
  pub begin : Content
  pub first : ℕ
  pub rows : List (Row (List ℕ))
  pub text : List ℕ
  pub content : Content

-- What a start finds: a file with the text of the rows and, behind it, a torn row or nothing; and a desk of the content that the
-- rows make, or that all of them but the last make.
pub record IsToBeStarted {D F : Type 0} (view : DeskView D) (g : Ghosts F) (all : JournalText) (desk : D) (file : F) : Type 0 where
  pub kept : IsKept all.begin all.rows all.first (all.first + length all.rows) all.text all.content
  pub begins : BeginsAt all.first all.rows
  pub holds : (view.content desk ≡ all.content) ⊎ LacksTheLast all.begin all.rows (view.content desk)
  pub torn : List ℕ
  pub bytes : g.seen file ≡ all.text ++ torn
  pub torn_is : HasNoLineFeed torn
