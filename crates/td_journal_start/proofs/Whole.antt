-- A start over a journal's rows.
use Rattle.std.proofs.Common.{◌≡◌, ◌≢◌, ◌⊎◌, ℕ, ◌+◌, List, [], ◌∷◌, ◌++◌, length, Option, None, Some, inl, inr, refl, sym, ap, subst, ◌∙◌, arith, append_assoc, append-nil}
use Rattle.sqlite_disk.specs.declared.Disk.{Ghosts}
use Rattle.td_model.specs.Content.{Content, IsSound}
use Rattle.td_desk.specs.View.{DeskView}
use Rattle.td_journal.specs.Journal.{text_of}
use Rattle.td_journal_rows.specs.Rows.{HasNoLineFeed}
use Rattle.td_journal_start.specs.Laws.{IsJournaled, JournalIsRead, NoRowIsForeign, StartIsWhole}
use Rattle.td_journal_lines.specs.Lines.{IsLine, Numbered}
use Rattle.td_journal_start.specs.Lines.{AreLines, IsJournal, IsLast, next_after}
use Rattle.td_journal_start.specs.Starts.{IsTaken}
use Rattle.td_journal_start.specs.Texts.{HasLast, IsWhole}
use Rattle.td_journal_lines.proofs.Reading.{line_one}
use Rattle.td_journal_start.proofs.Reading.{journal_last, same_last}
use Rattle.td_journal_start.proofs.Splitting.{last_once, line_whole}
use Rattle.td_redo.specs.Endings.{IsRedoneAs}
use Rattle.td_redo.specs.Redo.{AreDone, Row}
use Rattle.td_redo.specs.Replies.{body_text}
use Rattle.td_redo.specs.declared.redoing.Redone.{Redone}
use Rattle.td_redo.specs.declared.redoing.Redone.TheVariants.{Foreign}
use Rattle.td_redo.proofs.Journals as journals

-- the text of rows ends with the last one's line
record Ends-with (text : List ℕ) (r : Numbered) : Type 0 where
  before : List ℕ
  line : List ℕ
  text_is : text ≡ before ++ line
  whole : IsWhole before
  is : IsLine r line

behind_line : (line before : List ℕ) (r : Numbered) → IsLine r line → IsWhole before → IsWhole (line ++ before)
behind_line line before r is (inl none) =
    let one = line_one r line is in
    inr (one.front, ap (λ (t : List ℕ). line ++ t) none ∙ (append-nil line ∙ one.line_is))
behind_line line before r is (inr (lines, ends)) = inr (line ++ lines, ap (λ (t : List ℕ). line ++ t) ends ∙ sym (append_assoc line lines (10 ∷ [])))

lines_end : (rows : List (Row (List ℕ))) (row : Row (List ℕ)) (first : ℕ) (text : List ℕ) → AreLines first (rows ++ row ∷ []) text → Ends-with text (record { number = first + length rows; row = row })
lines_end [] row first text (line, rest, is, text_is, none) =
    let number : first ≡ first + 0 = omega arith in
    record {
      before = [];
      line = line;
      text_is = text_is ∙ (ap (λ (t : List ℕ). line ++ t) none ∙ append-nil line);
      whole = inl refl;
      is = subst (λ (n : ℕ). IsLine (record { number = n; row = row }) line) number is;
    }
lines_end (r ∷ rows) row first text (line, rest, is, text_is, others) =
    let more = lines_end rows row (first + 1) rest others in
    let number : first + 1 + length rows ≡ first + length (r ∷ rows) = omega arith in
    record {
      before = line ++ more.before;
      line = more.line;
      text_is = text_is ∙ (ap (λ (t : List ℕ). line ++ t) more.text_is ∙ sym (append_assoc line more.before more.line));
      whole = behind_line line more.before (record { number = first; row = r }) is more.whole;
      is = subst (λ (n : ℕ). IsLine (record { number = n; row = row }) more.line) number more.is;
    }

-- so it is what is found
found_is : (bytes text torn found : List ℕ) (r : Numbered) (last : Option Numbered) → Ends-with text r → bytes ≡ text ++ torn → HasNoLineFeed torn → IsJournal bytes found last
    → (found ≡ text) × (last ≡ Some r)
found_is bytes text torn found r last ends bytes_are none journal =
    let one = line_one r ends.line ends.is in
    let mine : HasLast bytes ends.before ends.line torn = record {
      split = record {
        bytes_are = bytes_are ∙ ap (λ (t : List ℕ). t ++ torn) ends.text_is;
        whole = line_whole ends.before ends.line one;
        none = none;
      };
      before_whole = ends.whole;
      line_is = inl one;
    } in
    let same = last_once bytes journal.before journal.line journal.torn ends.before ends.line torn (journal_last bytes found last journal) mine in (
      journal.text_is ∙ (ap (λ (t : List ℕ). t ++ journal.line) same.0 ∙ (ap (λ (t : List ℕ). ends.before ++ t) same.1 ∙ sym ends.text_is)),
      same_last last (Some r) journal.before ends.before ends.line (subst (λ (t : List ℕ). IsLast journal.before t last) same.1 journal.last_is) (ends.whole, ends.is),
    )

module _ {D F : Type 0} (view : DeskView D) (g : Ghosts F) (begin before after : Content) (rows : List (Row (List ℕ))) (row : Row (List ℕ)) (first : ℕ) (text torn : List ℕ) (desk : D) (file : F)
    (is : IsJournaled view g (record { begin = begin; first = first; rows = rows; before = before; row = row; after = after; text = text; torn = torn })
    desk file) where
  abbrev pub TheLast : Numbered
  TheLast = record { number = first + length rows; row = row }

  pub told : (found : List ℕ) (last : Option Numbered) → IsJournal (g.seen file) found last → (found ≡ text) × (last ≡ Some TheLast)
  told found last journal = found_is (g.seen file) text torn found TheLast last (lines_end rows row first text is.lines) is.bytes is.torn_is journal

  sound_at : (view.content desk ≡ before) ⊎ (view.content desk ≡ after) → IsSound (view.content desk)
  sound_at (inl same) = subst IsSound (sym same) (journals.sound_done (List ℕ) body_text begin before rows is.sound is.done)
  sound_at (inr same) = subst IsSound (sym same) is.last.carried.sound

  pub ended : (r : Numbered) (ending : Redone) (new : Content) → r ≡ TheLast → (IsSound (view.content desk) → IsRedoneAs ending r.row.stamped r.row.shown (view.content desk) new)
      → (new ≡ after) × AreDone body_text begin (rows ++ row ∷ []) new × (ending ≢ Foreign)
  ended r ending new same ends =
      journals.start_is_whole begin before after (view.content desk) new rows row ending is.sound is.done is.last is.holds
      (subst (λ (x : Numbered). IsRedoneAs ending x.row.stamped x.row.shown (view.content desk) new) same (ends (sound_at is.holds)))

  pub taken : (last : Option Numbered) (new : D) → last ≡ Some TheLast → view.is_clean new → IsTaken view desk last new
      → (view.content new ≡ after) × AreDone body_text begin (rows ++ row ∷ []) (view.content new)
  taken None new same clean none = cc
  taken (Some r) new same clean (ending, other, asked) =
      let is_last : r ≡ TheLast = cc in
      let all = ended r ending (view.content new) is_last (λ sound. asked.ends clean sound) in
      (all.0, all.1)

pub start_is_whole : {D F : Type 0} (view : DeskView D) (g : Ghosts F) → StartIsWhole view g
start_is_whole view g all desk file j is started clean =
    let begin = all.begin in
    let before = all.before in
    let after = all.after in
    let rows = all.rows in
    let row = all.row in
    let first = all.first in
    let text = all.text in
    let torn = all.torn in
    let found = told view g begin before after rows row first text torn desk file is (text_of j.journal) started.last (started.found clean.1) in
    let content = taken view g begin before after rows row first text torn desk file is started.last j.desk found.1 clean.0 started.desk_is in
    let number : first + length rows + 1 ≡ first + (length rows + 1) = omega arith in
    (content.0, content.1, found.0, started.next ∙ (ap next_after found.1 ∙ number))

pub no_row_is_foreign : {D F : Type 0} (view : DeskView D) (g : Ghosts F) → NoRowIsForeign view g
no_row_is_foreign view g all desk new file left number is clean (r, same, at) =
    let begin = all.begin in
    let before = all.before in
    let after = all.after in
    let rows = all.rows in
    let row = all.row in
    let first = all.first in
    let text = all.text in
    let torn = all.torn in
    let journal = at.found clean.1 in
    let found = told view g begin before after rows row first text torn desk file is journal.0 (Some r) journal.1 in
    let is_last : r ≡ TheLast view g begin before after rows row first text torn desk file is = cc in
    (ended view g begin before after rows row first text torn desk file is r Foreign (view.content new) is_last (λ sound. at.asked.ends clean.0 sound)).2 refl

pub journal_is_read : {D F : Type 0} (view : DeskView D) (g : Ghosts F) → JournalIsRead view g
journal_is_read view g all desk new file left is short clean refused =
    let begin = all.begin in
    let before = all.before in
    let after = all.after in
    let rows = all.rows in
    let row = all.row in
    let first = all.first in
    let text = all.text in
    let torn = all.torn in
    let ends = lines_end rows row first text is.lines in
    refused.1 clean.1 text (Some (TheLast view g begin before after rows row first text torn desk file is)) (record {
      before = ends.before;
      line = ends.line;
      torn = torn;
      bytes_are = is.bytes;
      text_is = ends.text_is;
      last_is = (ends.whole, ends.is);
      torn_is = is.torn_is;
      near = inl (short ends.line ends.is);
    })
