-- What a crash leaves of a batch is kept from row to row.
use Rattle.std.proofs.Common.{◌≡◌, ◌⊎◌, ◌∙◌, ℕ, ℤ, true, List, [], ◌∷◌, ◌++◌, map, refl, sym, ap, subst, inl, inr}
use Rattle.std.specs.List.{FoldsTo}
use Rattle.td_commands.specs.declared.command.Command.{Command}
use Rattle.td_commands.specs.declared.command.Stamped.{Stamped}
use Rattle.td_model.specs.Book.{Book}
use Rattle.td_model.specs.Machine.{machine_book}
use Rattle.td_desk.specs.declared.running.Outcome.{Outcome}
use Rattle.td_desk.specs.declared.running.Outcome.TheVariants as outcome
use Rattle.td_model.specs.Content.{Content, IsSound}
use Rattle.td_desk.specs.Runs.{heard, is_failed, IsTied, LeavesAfter}
use Rattle.td_desk.specs.View.{DeskView}
use Rattle.td_http.specs.Kept.{books_with}
use Rattle.td_http.proofs.Kept.{Keeps, carried_country, carried_sound, carried_tied, keeps_as, keeps_first}
use Rattle.td_batch.specs.Runs.{at_moment, IsDone, IsRowDone}
use Rattle.td_batch.proofs.AgainAtDesk.{clean_back}
use Rattle.td_batch.proofs.Told.{heard_parts, machine_book-parts}
use Rattle.td_cli.specs.BatchLaws.{books_after_rows, HasFailedAmong, IsKeptBetweenRows, TriedRow}

-- the books after one row, and after others behind it
books_more : (country : List ℕ) (books : ℕ → Book) (at : ℤ) (row : TriedRow) (rows : List TriedRow) (H : ℕ)
    → books_after_rows country (books_after_rows country books at (row ∷ [])) at rows H ≡ books_after_rows country books at (row ∷ rows) H
books_more country books at row rows H =
    let list = map (at_moment at) (map (λ (r : TriedRow). r.0) rows) in
    let outcomes = map (λ (r : TriedRow). r.1) rows in
    sym (ap (machine_book H (books H)) (heard_parts country H (at_moment at row.0 ∷ []) list (row.1 ∷ []) outcomes refl)
    ∙ machine_book-parts H (books H) (heard country H (at_moment at row.0 ∷ []) (row.1 ∷ [])) (heard country H list outcomes))

-- steps over two lists are those over the first, and those over the second
steps_split : {P A : Type 0} (R : P → A → P → Type 0) (xs ys : List A) (p q : P) → FoldsTo R p (xs ++ ys) q
    → (m : P) × FoldsTo R p xs m × FoldsTo R m ys q
steps_split R [] ys p q steps = (p, refl, steps)
steps_split R (x ∷ xs) ys p q steps =
    let rest = steps_split R xs ys steps.0 q steps.2 in
    (rest.0, (steps.0, steps.1, rest.1), rest.2)

module _ {D : Type 0} (view : DeskView D) (country : List ℕ) (at : ℤ) where
  -- one row more
  abbrev After : (Stamped → Type 0) → (ℕ → Book) → TriedRow → D → Type 0
  After Failed books row d =
      Keeps view country (λ s. Failed s ⊎ ((s ≡ at_moment at row.0) × (is_failed row.1 ≡ true))) (books_after_rows country books at (row ∷ [])) d

  keeps_one : (Failed : Stamped → Type 0) (books : ℕ → Book) (command : Command) (o : Outcome) (old new : D) → Keeps view country Failed books old
      → IsDone view at command o old new → view.is_clean new → After Failed books (command, o) new
  keeps_one Failed books command (outcome.Said words) old new keeps is clean =
      let s = at_moment at command in
      let step = is.performs clean in
      let shows = keeps.live step.0 in
      let carries = (step.2 shows.1).1 in
      let c = view.content old in
      let x = view.content new in
      keeps_as view country (λ s. ⊥) _ (books_with country books s) _ new (λ H. refl) (λ s none. absurd none)
      (keeps_first view country (books_with country books s) new step.1
      (carried_country country books s c x shows.0 shows.1 shows.2 carries) (carried_sound country books s c x shows.0 shows.1 shows.2 carries)
      (carried_tied country books s c x shows.0 shows.1 shows.2 carries) (is.settled clean))
  keeps_one Failed books command (outcome.Failed why) old new keeps is clean =
      let s = at_moment at command in
      let after : LeavesAfter view old s true new = is.crash clean in
      let before = keeps_as view country Failed (λ e. Failed e ⊎ ((e ≡ s) × (true ≡ true))) books books old (λ H. refl) (λ e was. inl was) keeps in
      record {
        live = λ now. subst (λ (c : Content). IsTied c books × IsSound c × (c.country ≡ country)) (sym (is.performs clean now)) (before.live (is.live clean now));
        settled = is.settled clean;
        recovers = after.recovers before.recovers;
        left = λ x may. elim (after.outcomes x may) [
          | inl was ↦ before.left x was
          | inr added ↦ (
              let shows = before.live added.0 in
              let carries = added.1 shows.1 in
              record {
                country_is = carried_country country books s (view.content old) x shows.0 shows.1 shows.2 carries;
                sound = carried_sound country books s (view.content old) x shows.0 shows.1 shows.2 carries;
                tied = inr (s, inr (refl, refl), carried_tied country books s (view.content old) x shows.0 shows.1 shows.2 carries);
              })
        ];
      }

  pub keeps_rows : (rows : List TriedRow) (Failed : Stamped → Type 0) (books : ℕ → Book) (old new : D) → Keeps view country Failed books old
      → FoldsTo (IsRowDone view at) old rows new → view.is_clean new
      → Keeps view country (λ s. Failed s ⊎ HasFailedAmong at rows s) (books_after_rows country books at rows) new
  keeps_rows [] Failed books old new keeps steps clean =
      keeps_as view country Failed (λ s. Failed s ⊎ HasFailedAmong at [] s) books books new (λ H. refl) (λ s is. inl is)
      (subst (Keeps view country Failed books) steps keeps)
  keeps_rows (row ∷ rows) Failed books old new keeps steps clean =
      let one = keeps_one Failed books row.0 row.1 old steps.0 keeps steps.1 (clean_back view at rows steps.0 new steps.2 clean) in
      keeps_as view country _ (λ s. Failed s ⊎ HasFailedAmong at (row ∷ rows) s) _ (books_after_rows country books at (row ∷ rows)) new
      (books_more country books at row rows)
      (λ s is. elim is [ inl (inl was) ↦ inl was | inl (inr now) ↦ inr (inl now) | inr later ↦ inr (inr later) ])
      (keeps_rows rows _ (books_after_rows country books at (row ∷ [])) steps.0 new one steps.2 clean)

  -- between any rows of a batch that leaves the desk clean
  pub kept_between_rows : (books : ℕ → Book) (rows first others : List TriedRow) (old new : D) → Keeps view country (λ s. ⊥) books old
      → FoldsTo (IsRowDone view at) old rows new → view.is_clean new → rows ≡ first ++ others
      → IsKeptBetweenRows view country books at first others old new
  kept_between_rows books rows first others old new start steps clean are =
      let split = steps_split (IsRowDone view at) first others old new (subst (λ l. FoldsTo (IsRowDone view at) old l new) are steps) in
      let keeps = keeps_rows first (λ s. ⊥) books old split.0 start split.1 (clean_back view at others split.0 new split.2 clean) in
      let only = keeps_as view country _ (HasFailedAmong at first) _ (books_after_rows country books at first) split.0 (λ H. refl)
      (λ s is. elim is [ inl none ↦ absurd none | inr now ↦ now ]) keeps in
      record {
        between = split.0;
        led = split.1;
        leads = split.2;
        sound = λ live. (only.live live).1;
        recovers = only.recovers;
        kept = only.left;
      }
