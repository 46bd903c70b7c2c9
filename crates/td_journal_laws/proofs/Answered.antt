-- A desk whose command was answered.
use Rattle.std.proofs.Common.{◌≡◌, ℕ, ◌+◌, ◌^◌, ◌<◌, List, [], ◌∷◌, ◌++◌, length, Option, None, Some, refl, sym, ap, subst, ◌∙◌, arith, append-nil, length-append}
use Rattle.sqlite_disk.specs.declared.Disk.{Ghosts}
use Rattle.td_commands.specs.declared.command.Stamped.{Stamped}
use Rattle.td_model.specs.Content.{Content}
use Rattle.td_desk.specs.View.{DeskView}
use Rattle.td_acts.specs.Weighing.{Carries}
use Rattle.td_journal.specs.Journal.{IsDurable, IsTight, next_number, text_of}
use Rattle.td_journal.specs.Journaled.{rows_in, waiting, written}
use Rattle.td_journal.specs.Texts.{IsNoted}
use Rattle.td_journal.specs.declared.desk.JournaledDesk.{JournaledDesk}
use Rattle.td_journal_laws.specs.Crashes.{AnAnswerIsAtRest, IsAtRest, IsCarriedAt, rows_for}
use Rattle.td_journal_laws.specs.Kept.{BeginsAt, IsKept}
use Rattle.td_journal_laws.proofs.Joined.{kept_on, kept_sound}
use Rattle.td_journal_laws.proofs.Rows.{RowLaws, left_alone, one_row, row_over}
use Rattle.td_journal_rows.specs.Requests.{IsTyped}
use Rattle.td_redo.specs.Redo.{Row}

module _ {D F : Type 0} (view : DeskView D) (g : Ghosts F) (begin : Content) (rows : List (Row (List ℕ))) (first : ℕ) (old mid new : JournaledDesk D F g) (s : Stamped)
    (rest : IsAtRest view begin rows first old) (laws : RowLaws) (typed : IsTyped s.command) (small : next_number old.journal < 10 ^ 18) (done : IsCarriedAt view old s mid None new) where
  abbrev C : Content
  C = view.content old.desk

  carries : Carries C s (view.content new.desk)
  carries = subst (λ (c : Content). Carries c s (view.content new.desk)) done.same (done.leaves.answered refl)

  text_is : text_of new.journal ≡ text_of old.journal ++ written (waiting mid)
  text_is = done.carried.text ∙ ap (λ (t : List ℕ). t ++ written (waiting mid)) (ap text_of done.weighed.journal)

  next_is : next_number new.journal ≡ next_number old.journal + rows_in (waiting mid)
  next_is = done.carried.next ∙ ap (λ n. n + rows_in (waiting mid)) (ap next_number done.weighed.journal)

  abbrev Kept : List (Row (List ℕ)) → ℕ → List ℕ → Type 0
  Kept rs next text = IsKept begin rs first next text (view.content new.desk) × BeginsAt first rs

  kept_as : (w : Option (List ℕ)) → IsNoted (next_number old.journal) C s w → Kept (rows ++ rows_for C s) (next_number old.journal + rows_in w) (text_of old.journal ++ written w)
  kept_as None other =
      let same : view.content new.desk ≡ C = left_alone laws C (view.content new.desk) s (kept_sound begin C rows first _ _ rest.kept) typed other carries in
      let number : next_number old.journal + 0 ≡ next_number old.journal = omega arith in
      let before : Kept rows (next_number old.journal + 0) (text_of old.journal ++ []) = (
        subst (λ (n : ℕ). IsKept begin rows first n (text_of old.journal ++ []) (view.content new.desk)) (sym number)
            (subst (λ (t : List ℕ). IsKept begin rows first (next_number old.journal) t (view.content new.desk)) (sym (append-nil (text_of old.journal)))
            (subst (IsKept begin rows first (next_number old.journal) (text_of old.journal)) (sym same) rest.kept)),
        rest.begins,
      ) in
      rw other (subst (λ (rs : List (Row (List ℕ))). Kept rs (next_number old.journal + 0) (text_of old.journal ++ [])) (sym (append-nil rows)) before)
  kept_as (Some line) accepted = rw accepted.0 (
    kept_on begin C (view.content new.desk) rows (row_over C s ∷ []) first _ (next_number old.journal + 1) (text_of old.journal) line rest.kept
        (one_row laws (next_number old.journal) C (view.content new.desk) s line (kept_sound begin C rows first _ _ rest.kept) typed small accepted.0 accepted.1 carries),
    λ none. absurd (some none),
  )
    where
      some : rows ++ row_over C s ∷ [] ≡ [] → ⊥
      some none = let size : length rows + 1 ≡ 0 = sym (length-append rows (row_over C s ∷ [])) ∙ ap length none in omega (arith, size)

  at_rest : IsAtRest view begin (rows ++ rows_for C s) first new
  at_rest =
      let kept = kept_as (waiting mid) (done.weighed.row done.mid_clean (kept_sound begin C rows first _ _ rest.kept)) in
      record {
        kept = subst (λ (n : ℕ). IsKept begin (rows ++ rows_for C s) first n (text_of new.journal) (view.content new.desk)) (sym next_is)
            (subst (λ (t : List ℕ). IsKept begin (rows ++ rows_for C s) first (next_number old.journal + rows_in (waiting mid)) t (view.content new.desk)) (sym text_is) kept.0);
        begins = kept.1;
        tight = done.carried.tight (subst IsTight (sym done.weighed.journal) rest.tight);
        durable = done.carried.durable (subst IsDurable (sym done.weighed.journal) rest.durable);
      }

pub answer_is_at_rest : {D F : Type 0} (view : DeskView D) (g : Ghosts F) → RowLaws → AnAnswerIsAtRest view g
answer_is_at_rest view g laws begin rows first old mid new s rest typed small done = at_rest view g begin rows first old mid new s rest laws typed small done
