-- A start over what a crash left, or what a desk left that was stopped.
use Rattle.std.proofs.Common.{◌≡◌, ◌⊎◌, ℕ, ◌+◌, ◌==◌, List, [], ◌∷◌, ◌++◌, length, false, Option, None, Some, inl, inr, refl, sym, ap, subst, ◌∙◌, arith, length-append}
use Rattle.std.proofs.lemmas.List.{drop_at, take_at}
use Rattle.std.proofs.lemmas.List.Elements.{All-drop, All-head, All-take}
use Rattle.sqlite_disk.specs.declared.Disk.{Ghosts}
use Rattle.td_model.specs.Content.{Content}
use Rattle.td_desk.specs.View.{DeskView}
use Rattle.td_journal.specs.Journal.{next_number, text_of}
use Rattle.td_journal.specs.declared.desk.JournaledDesk.{JournaledDesk}
use Rattle.td_journal_rows.specs.Rows.{HasNoLineFeed, change_row}
use Rattle.td_journal_rows.proofs.RowsBack.{line_is, row_front}
use Rattle.td_journal_start.specs.Laws.{IsClean, IsJournaled, JournalRows, NoRowIsForeign, StartIsWhole}
use Rattle.td_journal_lines.specs.Lines.{IsLine, Numbered}
use Rattle.td_journal_start.specs.Lines.{AreLines, IsJournal, IsLast, next_after}
use Rattle.td_journal_start.specs.Starts.{IsStartRefused, IsStarted, IsTaken}
use Rattle.td_journal_start.specs.declared.refused.StartFault.TheVariants.{ForeignRow}
use Rattle.td_journal_laws.specs.Kept.{IsKeptAt, IsToBeStarted, LacksTheLast}
use Rattle.td_journal_laws.specs.Laws.{AStartIsWhole, NoStartIsForeign}
use Rattle.td_journal_laws.proofs.Joined.{last_done, last_row}
use Rattle.td_redo.specs.Redo.{AreDone, IsDone, Row}
use Rattle.td_redo.specs.Replies.{body_text}
use Rattle.td_redo.proofs.Journals as journals

-- ---- a file of no row

abbrev IsNone : ℕ → Type 0
IsNone c = (c == 10) ≡ false

-- a row's line ends with a line feed, so it is within no torn one
line_feeds : (r : Numbered) (line before torn : List ℕ) → IsLine r line → HasNoLineFeed ((before ++ line) ++ torn) → ⊥
line_feeds r line before torn is none =
    let row = change_row r.number is.seconds r.row.stamped.command r.row.shown in
    let text : HasNoLineFeed (before ++ line) = subst HasNoLineFeed (take_at (before ++ line) torn (length (before ++ line)) refl) (All-take IsNone (length (before ++ line)) ((before ++ line) ++ torn) none) in
    let inner : HasNoLineFeed line = subst HasNoLineFeed (drop_at before line (length before) refl) (All-drop IsNone (length before) (before ++ line) text) in
    let ended : HasNoLineFeed (row_front row ++ 10 ∷ []) = subst HasNoLineFeed (is.line_is ∙ line_is row) inner in
    let feed : HasNoLineFeed (10 ∷ []) = subst HasNoLineFeed (drop_at (row_front row) (10 ∷ []) (length (row_front row)) refl) (All-drop IsNone (length (row_front row)) (row_front row ++ 10 ∷ []) ended) in
    let bad : (10 == 10) ≡ false = All-head IsNone 10 [] feed in
    cc

-- what is found where no line ends
none_found : (bytes found : List ℕ) (last : Option Numbered) → HasNoLineFeed bytes → IsJournal bytes found last → (found ≡ []) × (last ≡ None)
none_found bytes found last none j = by last j.last_is
  where
    bytes_are : bytes ≡ (j.before ++ j.line) ++ j.torn
    bytes_are = j.bytes_are ∙ ap (λ (t : List ℕ). t ++ j.torn) j.text_is

    by : (last : Option Numbered) → IsLast j.before j.line last → (found ≡ []) × (last ≡ None)
    by None is = (j.text_is ∙ (ap (λ (t : List ℕ). t ++ j.line) is.0 ∙ is.1), refl)
    by (Some r) is = absurd (line_feeds r j.line j.before j.torn is.1 (subst HasNoLineFeed bytes_are none))

module _ {D F : Type 0} (view : DeskView D) (g : Ghosts F) (begin content : Content) (rows : List (Row (List ℕ))) (first : ℕ) (text : List ℕ) (desk : D) (file : F)
    (is : IsToBeStarted view g (record { begin = begin; first = first; rows = rows; text = text; content = content }) desk file) where
  -- the rows by their last one, and what all before it make
  abbrev journal_rows : Content → List (Row (List ℕ)) → Row (List ℕ) → JournalRows
  journal_rows mid before last = record {
    begin = begin;
    first = first;
    rows = before;
    before = mid;
    row = last;
    after = content;
    text = text;
    torn = is.torn;
  }

  -- no row stands in the file
  module _ (none : rows ≡ []) where
    no_text : text ≡ []
    no_text = subst (λ (rs : List (Row (List ℕ))). AreLines first rs text) none is.kept.lines

    at_begin : content ≡ begin
    at_begin = subst (λ (rs : List (Row (List ℕ))). AreDone body_text begin rs content) none is.kept.done

    never : (before : List (Row (List ℕ))) (last : Row (List ℕ)) → rows ≡ before ++ last ∷ [] → ⊥
    never before last same =
        let size : 0 ≡ length before + 1 = ap length (sym none ∙ same) ∙ length-append before (last ∷ []) in omega (arith, size)

    desk_is : (view.content desk ≡ content) ⊎ LacksTheLast begin rows (view.content desk) → view.content desk ≡ content
    desk_is (inl same) = same
    desk_is (inr (before, last, same, done)) = absurd (never before last same)

    pub found_none : (found : List ℕ) (last : Option Numbered) → IsJournal (g.seen file) found last → (found ≡ []) × (last ≡ None)
    found_none found last j =
        none_found (g.seen file) found last (subst HasNoLineFeed (sym (is.bytes ∙ ap (λ (t : List ℕ). t ++ is.torn) no_text)) is.torn_is) j

    pub started_new : (j : JournaledDesk D F g) → IsStarted view desk file j → IsClean view g j.desk j.journal.file
        → IsKeptAt view begin rows first j × (view.content j.desk ≡ content) × (text_of j.journal ≡ text)
    started_new j started clean =
        let found = found_none (text_of j.journal) started.last (started.found clean.1) in
        let same : j.desk ≡ desk = subst (λ (o : Option Numbered). IsTaken view desk o j.desk) found.1 started.desk_is in
        let end : view.content j.desk ≡ content = ap view.content same ∙ desk_is is.holds in
        let words : text_of j.journal ≡ text = found.0 ∙ sym no_text in
        let next : next_number j.journal ≡ first + length rows =
        started.next ∙ (ap next_after found.1 ∙ (sym (is.begins none) ∙ (let size : length rows ≡ 0 = ap length none in omega (arith, size)))) in (
          record {
            sound = is.kept.sound;
            done = subst (AreDone body_text begin rows) (sym end) is.kept.done;
            lines = subst (AreLines first rows) (sym words) is.kept.lines;
            numbers = next;
          },
          end,
          words,
        )

  -- the last of the rows stands there
  module _ (before : List (Row (List ℕ))) (last : Row (List ℕ)) (same : rows ≡ before ++ last ∷ []) where
    parted : (mid : Content) × AreDone body_text begin before mid × IsDone body_text mid last content
    parted = last_done before last begin content (subst (λ (rs : List (Row (List ℕ))). AreDone body_text begin rs content) same is.kept.done)

    journaled_by : (view.content desk ≡ parted.0) ⊎ (view.content desk ≡ content) → IsJournaled view g (journal_rows parted.0 before last) desk file
    journaled_by holds = record {
      sound = is.kept.sound;
      done = parted.1;
      last = parted.2;
      holds = holds;
      lines = subst (λ (rs : List (Row (List ℕ))). AreLines first rs text) same is.kept.lines;
      bytes = is.bytes;
      torn_is = is.torn_is;
    }

  -- either way, by what the desk holds
  abbrev IsWith : Type 0
  IsWith =
      (before : List (Row (List ℕ))) × (last : Row (List ℕ)) × (mid : Content) × (rows ≡ before ++ last ∷ [])
      × IsJournaled view g (journal_rows mid before last) desk file

  with_last : (rows ≡ []) ⊎ ((before : List (Row (List ℕ))) × (last : Row (List ℕ)) × (rows ≡ before ++ last ∷ []))
      → (view.content desk ≡ content) ⊎ LacksTheLast begin rows (view.content desk) → (rows ≡ []) ⊎ IsWith
  with_last (inl none) holds = inl none
  with_last (inr (before, last, same)) (inl whole) = inr (before, last, (parted before last same).0, same, journaled_by before last same (inr whole))
  with_last (inr other) (inr (before, last, same, done)) =
      let mid : (parted before last same).0 ≡ view.content desk = journals.journal_makes_one_content (List ℕ) body_text begin _ _ before (parted before last same).1 done in
      inr (before, last, (parted before last same).0, same, journaled_by before last same (inl (sym mid)))

  pub either : (rows ≡ []) ⊎ IsWith
  either = with_last (last_row rows) is.holds

  pub started : StartIsWhole view g → (j : JournaledDesk D F g) → IsStarted view desk file j → IsClean view g j.desk j.journal.file
      → IsKeptAt view begin rows first j × (view.content j.desk ≡ content) × (text_of j.journal ≡ text)
  started whole j start clean = by either
    where
      by : (rows ≡ []) ⊎ IsWith → IsKeptAt view begin rows first j × (view.content j.desk ≡ content) × (text_of j.journal ≡ text)
      by (inl none) = started_new none j start clean
      by (inr (before, last, mid, same, journal)) =
          let all = whole (journal_rows mid before last) desk file j journal start clean in
          let size : length rows ≡ length before + 1 = ap length same ∙ length-append before (last ∷ []) in (
            record {
              sound = is.kept.sound;
              done = subst (λ (rs : List (Row (List ℕ))). AreDone body_text begin rs (view.content j.desk)) (sym same) all.1;
              lines = subst (AreLines first rows) (sym all.2) is.kept.lines;
              numbers = omega (arith, all.3, size);
            },
            all.0,
            all.2,
          )

  pub not_foreign : NoRowIsForeign view g → (number : ℕ) (new : D) (left : F) → IsClean view g new left → IsStartRefused view g desk file (ForeignRow number) new left → ⊥
  not_foreign never_so number new left clean refused = by either
    where
      by : (rows ≡ []) ⊎ IsWith → ⊥
      by (inl none) =
          let found = refused.2.found clean.1 in
          let no_last : Some refused.0 ≡ None = (found_none none found.0 (Some refused.0) found.1).1 in
          cc
      by (inr (before, last, mid, same, journal)) = never_so (journal_rows mid before last) desk new file left number journal clean refused

pub start_is_whole : {D F : Type 0} (view : DeskView D) (g : Ghosts F) → StartIsWhole view g → AStartIsWhole view g
start_is_whole view g whole all desk file j is start clean =
    started view g all.begin all.content all.rows all.first all.text desk file is whole j start clean

pub no_start_is_foreign : {D F : Type 0} (view : DeskView D) (g : Ghosts F) → NoRowIsForeign view g → NoStartIsForeign view g
no_start_is_foreign view g never_so all number desk new file left is clean refused =
    not_foreign view g all.begin all.content all.rows all.first all.text desk file is never_so number new left clean refused
