-- What a start finds after a crash.
use Rattle.std.proofs.Common.{◌≡◌, ◌⊎◌, ℕ, ◌+◌, ◌^◌, ◌<◌, true, false, List, [], ◌∷◌, ◌++◌, length, take, Option, None, Some, inl, inr, refl, sym, ap, subst, ◌∙◌, arith, append-nil, length-append}
use Rattle.std.proofs.lemmas.List.{take_all}
use Rattle.std.proofs.lemmas.List.Elements.{All-nil}
use Rattle.std.specs.Prelude.{◌==◌}
use Rattle.sqlite_disk.specs.declared.Disk.{Ghosts}
use Rattle.td_commands.specs.declared.command.Stamped.{Stamped}
use Rattle.td_model.specs.Content.{Content, IsSound}
use Rattle.td_desk.specs.View.{DeskView, LeavesOnly}
use Rattle.td_acts.specs.Weighing.{Carries}
use Rattle.td_desk.specs.declared.fault.Fault.{Fault}
use Rattle.td_journal.specs.Journal.{IsDurable, IsTight, file_of, next_number, text_of}
use Rattle.td_journal.specs.Journaled.{journaled, waiting, written}
use Rattle.td_journal.specs.Texts.{IsNoted, IsRowOf, is_change_at}
use Rattle.td_journal.specs.declared.desk.JournaledDesk.{JournaledDesk}
use Rattle.td_journal_rows.specs.Requests.{IsTyped}
use Rattle.td_journal_rows.specs.Rows.{HasNoLineFeed}
use Rattle.td_journal_start.specs.Laws.{IsClean}
use Rattle.td_journal_start.specs.Starts.{IsStartRefused, IsStarted}
use Rattle.td_journal_start.specs.declared.refused.StartFault.TheVariants.{ForeignRow}
use Rattle.td_journal_laws.specs.Crashes.{ACrashBetweenIsMadeGood, ACrashIsMadeGood, AreABeginning, ARowFirstIsMadeGood, IsAtRest, IsCarriedAt, IsLeftBy, IsMadeGood, IsRowFirst, IsUncarried, NoCrashBetweenIsForeign, NoCrashIsForeign, rows_for}
use Rattle.td_journal_laws.specs.Kept.{IsKept, IsKeptAt, IsToBeStarted, JournalText}
use Rattle.td_journal_laws.specs.Laws.{AStartIsWhole, NoStartIsForeign}
use Rattle.td_journal_laws.proofs.Joined.{kept_on, kept_sound}
use Rattle.td_journal_laws.proofs.Rows.{RowLaws, alike, done_carries, done_to, one_row, row_lines, row_over, unchanged}
use Rattle.td_journal_laws.proofs.Torn.{behind_text, not_whole, torn_line, whole_or_torn}
use Rattle.td_redo.specs.Laws.{CrashLeavesEither}
use Rattle.td_redo.specs.Redo.{AreDone, Row}
use Rattle.td_redo.specs.Replies.{body_text}

abbrev Rows : Type 0
Rows = List (Row (List ℕ))

no_feed : HasNoLineFeed []
no_feed = All-nil (λ c. (c == 10) ≡ false)

-- what a crash leaves of a journal that is on the disk and has nothing behind its text
tight_file : {F : Type 0} {g : Ghosts F} (D : Type 0) (j : JournaledDesk D F g) → IsTight j.journal → file_of j.journal ≡ text_of j.journal
tight_file D j tight = sym (take_all j.journal.end (file_of j.journal) (omega (arith, tight)))

module _ {D F : Type 0} (view : DeskView D) (g : Ghosts F) (begin : Content) (rows : Rows) (first : ℕ) (old : JournaledDesk D F g) (desk : D) (file : F)
    (rest : IsAtRest view begin rows first old) where
  abbrev C : Content
  C = view.content old.desk

  abbrev T : List ℕ
  T = text_of old.journal

  abbrev found_rows : Rows → List ℕ → Content → JournalText
  found_rows rs text content = record { begin = begin; first = first; rows = rs; text = text; content = content }

  abbrev Finds : Rows → Type 0
  Finds rs = (text : List ℕ) × (content : Content) × IsToBeStarted view g (found_rows rs text content) desk file

  -- the rows as before, with something behind them in the file that is no row
  as_before : (torn : List ℕ) → view.content desk ≡ C → g.seen file ≡ T ++ torn → HasNoLineFeed torn → Finds rows
  as_before torn same bytes none = (
    T,
    C,
    record {
      kept = record { sound = rest.kept.sound; done = rest.kept.done; lines = rest.kept.lines; numbers = refl };
      begins = rest.begins;
      holds = inl same;
      torn = torn;
      bytes = bytes;
      torn_is = none;
    },
  )

  alone : view.content desk ≡ C → g.seen file ≡ T → Finds rows
  alone same bytes = as_before [] same (bytes ∙ sym (append-nil T)) no_feed

  -- with one row more, which the desk has or hasn't
  with_row : (row : Row (List ℕ)) (line : List ℕ) (after : Content) → IsKept C (row ∷ []) (next_number old.journal) (next_number old.journal + 1) line after
      → (view.content desk ≡ C) ⊎ (view.content desk ≡ after) → g.seen file ≡ T ++ line → Finds (rows ++ row ∷ [])
  with_row row line after one holds bytes =
      let all = kept_on begin C after rows (row ∷ []) first _ (next_number old.journal + 1) T line rest.kept one in (
        T ++ line,
        after,
        record {
          kept = record { sound = all.sound; done = all.done; lines = all.lines; numbers = refl };
          begins = λ none. absurd (some none);
          holds = elim holds [
            | inl before ↦ inr (rows, row, refl, subst (AreDone body_text begin rows) (sym before) rest.kept.done)
            | inr behind ↦ inl behind
          ];
          torn = [];
          bytes = bytes ∙ sym (append-nil (T ++ line));
          torn_is = no_feed;
        },
      )
    where
      some : rows ++ row ∷ [] ≡ [] → ⊥
      some none = let size : length rows + 1 ≡ 0 = sym (length-append rows (row ∷ [])) ∙ ap length none in omega (arith, size)

  -- ---- a row that is written before its change is carried
  module _ (laws : RowLaws) (s : Stamped) (typed : IsTyped s.command) (small : next_number old.journal < 10 ^ 18) where
    sound : IsSound C
    sound = kept_sound begin C rows first _ T rest.kept

    -- the row stands whole
    whole_found : (line : List ℕ) → is_change_at C s ≡ true → IsRowOf (next_number old.journal) C s line → (view.content desk ≡ C) ⊎ (view.content desk ≡ done_to C s)
        → g.seen file ≡ T ++ line → Finds (rows ++ rows_for C s)
    whole_found line accepted is holds bytes =
        rw accepted (with_row (row_over C s) line (done_to C s) (one_row laws (next_number old.journal) C (done_to C s) s line sound typed small accepted is (done_carries C s sound typed)) holds bytes)

    module _ (w : Option (List ℕ)) (noted : IsNoted (next_number old.journal) C s w) (left : IsRowFirst C s T (written w) (view.content desk) (g.seen file)) where
      holds_either : (view.content desk ≡ C) ⊎ (view.content desk ≡ done_to C s)
      holds_either = elim left.ahead [
        | inl before ↦ inl before
        | inr behind ↦ inr (alike laws C (view.content desk) (done_to C s) s sound behind.1 (done_carries C s sound typed))
      ]

    row_first_found : (w : Option (List ℕ)) → IsNoted (next_number old.journal) C s w → IsRowFirst C s T (written w) (view.content desk) (g.seen file)
        → Finds rows ⊎ Finds (rows ++ rows_for C s)
    row_first_found None other left =
        let same = unchanged C s other in
        let content : view.content desk ≡ C = elim (holds_either None other left) [ inl before ↦ before | inr behind ↦ behind ∙ same ] in
        inl (as_before (take left.torn.0 []) content left.torn.1 (subst HasNoLineFeed (sym (take_all left.torn.0 [] (omega arith))) no_feed))
    row_first_found (Some line) accepted left = by (whole_or_torn line left.torn.0)
      where
        torn : view.content desk ≡ C → left.torn.0 < length line → Finds rows
        torn same short = as_before (take left.torn.0 line) same left.torn.1 (torn_line _ line left.torn.0 (row_lines laws (next_number old.journal) C s line small sound typed accepted.0 accepted.1) short)

        by : (take left.torn.0 line ≡ line) ⊎ (left.torn.0 < length line) → Finds rows ⊎ Finds (rows ++ rows_for C s)
        by (inl whole) = inr (whole_found line accepted.0 accepted.1 (holds_either (Some line) accepted left) (left.torn.1 ∙ ap (λ (t : List ℕ). T ++ t) whole))
        by (inr short) = inl (elim left.ahead [
          | inl same ↦ torn same short
          | inr behind ↦ absurd (not_whole T line (length (g.seen file)) left.torn.0 short
              (ap (take (length (g.seen file))) (sym left.torn.1) ∙ (take_all (length (g.seen file)) (g.seen file) (omega arith) ∙ behind.0)))
        ])

  -- ---- after a decision was carried, or failed to be
  module _ (laws : RowLaws) (either : CrashLeavesEither (journaled {g = g} view)) (mid new : JournaledDesk D F g) (s : Stamped) (typed : IsTyped s.command) (small : next_number old.journal < 10 ^ 18)
      (left : IsLeftBy view g new desk file) (beginning : AreABeginning T (written (waiting mid)) (g.seen file)) where
    abbrev FindsAs : Option Fault → Type 0
    FindsAs None = Finds (rows ++ rows_for C s)
    FindsAs (Some why) = Finds rows ⊎ Finds (rows ++ rows_for C s)

    kept : IsSound C
    kept = sound laws s typed small

    module _ (fault : Option Fault) (done : IsCarriedAt view old s mid fault new) where
      holds : (view.content desk ≡ C) ⊎ (view.content desk ≡ done_to C s)
      holds = elim (either mid new s _ (view.content desk) (done_to C s) done.leaves (subst (λ (c : Content). Carries c s (done_to C s)) (sym done.same) (done_carries C s kept typed)) left.content) [
        | inl before ↦ inl (before ∙ done.same)
        | inr behind ↦ inr behind
      ]

      noted : IsNoted (next_number old.journal) C s (waiting mid)
      noted = done.weighed.row done.mid_clean kept

      mid_text : text_of mid.journal ≡ T
      mid_text = ap text_of done.weighed.journal

      mid_durable : IsDurable mid.journal
      mid_durable = subst IsDurable (sym done.weighed.journal) rest.durable

      mid_tight : IsTight mid.journal
      mid_tight = subst IsTight (sym done.weighed.journal) rest.tight

    -- it was carried: the row stands
    written_found : (done : IsCarriedAt view old s mid None new) (w : Option (List ℕ)) → IsNoted (next_number old.journal) C s w → g.seen file ≡ T ++ written w → Finds (rows ++ rows_for C s)
    written_found done None other bytes =
        let same = unchanged C s other in
        let content : view.content desk ≡ C = elim (holds None done) [ inl before ↦ before | inr behind ↦ behind ∙ same ] in
        rw other (subst Finds (sym (append-nil rows)) (as_before [] content bytes no_feed))
    written_found done (Some line) accepted bytes = whole_found laws s typed small line accepted.0 accepted.1 (holds None done) bytes

    written_bytes : (done : IsCarriedAt view old s mid None new) → g.seen file ≡ T ++ written (waiting mid)
    written_bytes done =
        done.carried.durable (mid_durable None done) (g.seen file) left.bytes
        ∙ (tight_file D new (done.carried.tight (mid_tight None done))
        ∙ (done.carried.text ∙ ap (λ (t : List ℕ). t ++ written (waiting mid)) (mid_text None done)))

    -- it failed: the row was first
    module _ (why : Fault) (done : IsCarriedAt view old s mid (Some why) new) where
      torn_is : (m : ℕ) × (g.seen file ≡ T ++ take m (written (waiting mid)))
      torn_is =
          let safe = done.carried.safe (λ bytes left. ap (take mid.journal.end) (mid_durable (Some why) done bytes left)) in
          behind_text T (written (waiting mid)) (g.seen file) new.journal.end beginning.0
          (safe (g.seen file) left.bytes ∙ (done.carried.text ∙ mid_text (Some why) done)) beginning.1

      -- if a part of it stands, the desk hasn't the change
      behind_only : view.content desk ≡ done_to C s → (take torn_is.0 (written (waiting mid)) ≡ written (waiting mid)) ⊎ (torn_is.0 < length (written (waiting mid)))
          → (view.content desk ≡ C) ⊎ ((g.seen file ≡ T ++ written (waiting mid)) × Carries C s (view.content desk))
      behind_only is (inl whole) = inr (torn_is.1 ∙ ap (λ (t : List ℕ). T ++ t) whole, subst (Carries C s) (sym is) (done_carries C s kept typed))
      behind_only is (inr short) =
          elim (done.carried.ahead done.clean done.live (g.seen file) (view.content desk) left.bytes left.content) [
            | inl same ↦ inl (same ∙ done.same)
            | inr has ↦ absurd (not_whole T (written (waiting mid)) (mid.journal.end + length (written (waiting mid))) torn_is.0 short
                (ap (take (mid.journal.end + length (written (waiting mid)))) (sym torn_is.1) ∙ (has ∙ ap (λ (t : List ℕ). t ++ written (waiting mid)) (mid_text (Some why) done))))
          ]

      taken_first : IsRowFirst C s T (written (waiting mid)) (view.content desk) (g.seen file)
      taken_first = record {
        torn = torn_is;
        ahead = elim (holds (Some why) done) [
          | inl before ↦ inl before
          | inr behind ↦ behind_only behind (whole_or_torn (written (waiting mid)) torn_is.0)
        ];
      }

    crash_found : (fault : Option Fault) → IsCarriedAt view old s mid fault new → FindsAs fault
    crash_found None done = written_found done (waiting mid) (noted None done) (written_bytes done)
    crash_found (Some why) done = row_first_found laws s typed small (waiting mid) (noted (Some why) done) (taken_first why done)

  -- ---- before a decision was carried
  between_found : (new : JournaledDesk D F g) → LeavesOnly view old.desk C → IsUncarried view old new → IsLeftBy view g new desk file → Finds rows
  between_found new settled idle left =
      let content : view.content desk ≡ C = elim (idle.leaves.outcomes (view.content desk) left.content) [ inl before ↦ settled.only (view.content desk) before | inr none ↦ absurd none ] in
      let durable : IsDurable new.journal = subst IsDurable (sym idle.journal) rest.durable in
      alone content (durable (g.seen file) left.bytes ∙ (ap file_of idle.journal ∙ tight_file D old rest.tight))

  -- ---- the start

  started : AStartIsWhole view g → (rs : Rows) (j : JournaledDesk D F g) → Finds rs → IsStarted view desk file j → IsClean view g j.desk j.journal.file → IsKeptAt view begin rs first j
  started whole rs j (text, content, found) start clean = (whole (found_rows rs text content) desk file j found start clean).0

  not_refused : NoStartIsForeign view g → (rs : Rows) (number : ℕ) (after : D) (kept : F) → Finds rs → IsClean view g after kept → IsStartRefused view g desk file (ForeignRow number) after kept → ⊥
  not_refused never rs number after kept (text, content, found) clean refused = never (found_rows rs text content) number desk after file kept found clean refused

module _ {D F : Type 0} (view : DeskView D) (g : Ghosts F) where
  pub row_first_is_made_good : RowLaws → AStartIsWhole view g → ARowFirstIsMadeGood view g
  row_first_is_made_good laws whole begin rows first old j s row desk file rest typed small noted left start clean =
      by (row_first_found view g begin rows first old desk file rest laws s typed small row noted left)
    where
      by : Finds view g begin rows first old desk file rest rows ⊎ Finds view g begin rows first old desk file rest (rows ++ rows_for (view.content old.desk) s)
          → IsKeptAt view begin rows first j ⊎ IsKeptAt view begin (rows ++ rows_for (view.content old.desk) s) first j
      by (inl found) = inl (started view g begin rows first old desk file rest whole _ j found start clean)
      by (inr found) = inr (started view g begin rows first old desk file rest whole _ j found start clean)

  pub crash_is_made_good : RowLaws → CrashLeavesEither (journaled {g = g} view) → AStartIsWhole view g → ACrashIsMadeGood view g
  crash_is_made_good laws either whole begin rows first old mid new j s fault desk file rest typed small done left beginning start clean =
      by fault (crash_found view g begin rows first old desk file rest laws either mid new s typed small left beginning fault done)
    where
      by : (fault : Option Fault) → FindsAs view g begin rows first old desk file rest laws either mid new s typed small left beginning fault
          → IsMadeGood view begin rows first (view.content old.desk) s fault j
      by None found = started view g begin rows first old desk file rest whole _ j found start clean
      by (Some why) (inl found) = inl (started view g begin rows first old desk file rest whole _ j found start clean)
      by (Some why) (inr found) = inr (started view g begin rows first old desk file rest whole _ j found start clean)

  pub no_crash_is_foreign : RowLaws → CrashLeavesEither (journaled {g = g} view) → NoStartIsForeign view g → NoCrashIsForeign view g
  no_crash_is_foreign laws either never begin rows first number old mid new s fault desk after file kept rest typed small done left beginning clean refused =
      by fault (crash_found view g begin rows first old desk file rest laws either mid new s typed small left beginning fault done)
    where
      by : (fault : Option Fault) → FindsAs view g begin rows first old desk file rest laws either mid new s typed small left beginning fault → ⊥
      by None found = not_refused view g begin rows first old desk file rest never _ number after kept found clean refused
      by (Some why) (inl found) = not_refused view g begin rows first old desk file rest never _ number after kept found clean refused
      by (Some why) (inr found) = not_refused view g begin rows first old desk file rest never _ number after kept found clean refused

  pub crash_between_is_made_good : AStartIsWhole view g → ACrashBetweenIsMadeGood view g
  crash_between_is_made_good whole begin rows first old new j desk file rest settled idle left start clean =
      started view g begin rows first old desk file rest whole rows j (between_found view g begin rows first old desk file rest new settled idle left) start clean

  pub no_crash_between_is_foreign : NoStartIsForeign view g → NoCrashBetweenIsForeign view g
  no_crash_between_is_foreign never begin rows first number old new desk after file kept rest settled idle left clean refused =
      not_refused view g begin rows first old desk file rest never rows number after kept (between_found view g begin rows first old desk file rest new settled idle left) clean refused
