-- Rows behind rows, and the last of rows.
use Rattle.std.proofs.Common.{◌≡◌, ◌⊎◌, ℕ, ◌+◌, List, [], ◌∷◌, ◌++◌, length, inl, inr, refl, sym, ap, subst, ◌∙◌, arith, append_assoc, length-append}
use Rattle.sqlite_disk.specs.declared.Disk.{Ghosts}
use Rattle.td_model.specs.Content.{Content, IsSound}
use Rattle.td_desk.specs.View.{DeskView}
use Rattle.td_journal.specs.Journal.{next_number, text_of}
use Rattle.td_journal_start.specs.Lines.{AreLines}
use Rattle.td_journal_laws.specs.Kept.{IsKept}
use Rattle.td_journal_laws.specs.Laws.{ARunIsWhole, RowsAreDone}
use Rattle.td_redo.specs.Redo.{AreDone, IsDone, Row}
use Rattle.td_redo.specs.Replies.{body_text}
use Rattle.td_redo.proofs.Journals as journals

lines_on : (rows more : List (Row (List ℕ))) (first : ℕ) (t u : List ℕ) → AreLines first rows t → AreLines (first + length rows) more u → AreLines first (rows ++ more) (t ++ u)
lines_on [] more first t u none rest =
    let same : first + 0 ≡ first = omega arith in
    subst (λ (x : List ℕ). AreLines first more (x ++ u)) (sym none) (subst (λ (n : ℕ). AreLines n more u) same rest)
lines_on (row ∷ rows) more first t u (line, rest, is, text, lines) others =
    let same : first + length (row ∷ rows) ≡ first + 1 + length rows = omega arith in (
      line,
      rest ++ u,
      is,
      ap (λ (x : List ℕ). x ++ u) text ∙ append_assoc line rest u,
      lines_on rows more (first + 1) rest u lines (subst (λ (n : ℕ). AreLines n more u) same others),
    )

done_on : (rows more : List (Row (List ℕ))) (begin mid end : Content) → AreDone body_text begin rows mid → AreDone body_text mid more end → AreDone body_text begin (rows ++ more) end
done_on [] more begin mid end none rest = subst (λ (c : Content). AreDone body_text c more end) none rest
done_on (row ∷ rows) more begin mid end (next, is, done) rest = (next, is, done_on rows more next mid end done rest)

-- what rows make of a sound content is sound
pub kept_sound : (begin content : Content) (rows : List (Row (List ℕ))) (first next : ℕ) (text : List ℕ) → IsKept begin rows first next text content → IsSound content
kept_sound begin content rows first next text kept = journals.sound_done (List ℕ) body_text begin content rows kept.sound kept.done

pub kept_on : (begin mid end : Content) (rows more : List (Row (List ℕ))) (first number next : ℕ) (t u : List ℕ) → IsKept begin rows first number t mid → IsKept mid more number next u end
    → IsKept begin (rows ++ more) first next (t ++ u) end
kept_on begin mid end rows more first number next t u one two = record {
  sound = one.sound;
  done = done_on rows more begin mid end one.done two.done;
  lines = lines_on rows more first t u one.lines (subst (λ (n : ℕ). AreLines n more u) one.numbers two.lines);
  numbers = omega (arith, one.numbers, two.numbers, length-append rows more);
}

pub run_is_whole : {D F : Type 0} (view : DeskView D) (g : Ghosts F) → RowsAreDone → ARunIsWhole view g
run_is_whole view g rows_done begin rows first list old new kept typed most grown =
    let sound = kept_sound begin (view.content old.desk) rows first _ _ kept in
    let more = rows_done _ _ (view.content old.desk) (view.content new.desk) list grown.rows sound typed most grown.are in (
      more.0,
      subst (λ (t : List ℕ). IsKept begin (rows ++ more.0) first (next_number new.journal) t (view.content new.desk)) (sym grown.text)
          (kept_on begin (view.content old.desk) (view.content new.desk) rows more.0 first _ (next_number new.journal) (text_of old.journal) grown.rows kept more.1),
    )

-- ---- the last of rows

-- no row, or a last one
pub last_row : (rows : List (Row (List ℕ))) → (rows ≡ []) ⊎ ((before : List (Row (List ℕ))) × (last : Row (List ℕ)) × (rows ≡ before ++ last ∷ []))
last_row [] = inl refl
last_row (row ∷ rows) = elim (last_row rows) [
  | inl none ↦ inr ([], row, ap (λ (rs : List (Row (List ℕ))). row ∷ rs) none)
  | inr found ↦ inr (row ∷ found.0, found.1, ap (λ (rs : List (Row (List ℕ))). row ∷ rs) found.2)
]

-- it was done over what the others make
pub last_done : (before : List (Row (List ℕ))) (last : Row (List ℕ)) (begin end : Content) → AreDone body_text begin (before ++ last ∷ []) end
    → (mid : Content) × AreDone body_text begin before mid × IsDone body_text mid last end
last_done [] last begin end (next, is, same) = (begin, refl, subst (λ (c : Content). IsDone body_text begin last c) (sym same) is)
last_done (row ∷ rows) last begin end (next, is, done) =
    let more = last_done rows last next end done in (more.0, (next, is, more.1), more.2)
