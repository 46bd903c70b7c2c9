-- Rows that were done at a desk, as a run of their commands.
use Rattle.std.proofs.Common.{◌≡◌, ℕ, ℤ, List, [], ◌∷◌, ◌++◌, map, refl, subst, sym}
use Rattle.std.specs.List.{FoldsTo}
use Rattle.std.proofs.lemmas.List.{append_assoc, append-nil, map-append}
use Rattle.td_commands.specs.declared.command.Command.{Command}
use Rattle.td_model.specs.Book.{Book}
use Rattle.td_desk.specs.declared.running.Outcome.{Outcome}
use Rattle.td_model.specs.Content.{Content, IsSound}
use Rattle.td_desk.specs.Runs.{IsRun, IsTied}
use Rattle.td_desk.specs.View.{DeskView}
use Rattle.td_desk.proofs.Turns.{run_on}
use Rattle.td_batch.specs.Runs.{at_moment, IsDone, IsRowDone}
use Rattle.td_batch.proofs.AgainAtDesk.{clean_back}

module _ {D : Type 0} (view : DeskView D) (at : ℤ) (country : List ℕ) (books : ℕ → Book) where
  -- the rows' commands are a run to this content, with the rows' outcomes
  abbrev pub AreRunTo : List (Command × Outcome) → Content → Type 0
  AreRunTo rows c = IsRun country books (map (at_moment at) (map (λ row. row.0) rows)) (map (λ row. row.1) rows) c

  -- Rows that lead to a desk are a run to a content, which the desk has unless a fault shut it: then it is the content up to that.
  abbrev LeadTo : List (Command × Outcome) → D → Type 0
  LeadTo rows new = (c : Content) × AreRunTo rows c × (view.is_live new → view.content new ≡ c)

  one_more : (done : List (Command × Outcome)) (row : Command × Outcome) (old new : D) → LeadTo done old → IsDone view at row.0 row.1 old new
      → view.is_clean new → LeadTo (done ++ row ∷ []) new
  one_more done row old new before is clean =
      rw (map-append (λ (r : Command × Outcome). r.0) done (row ∷ []), map-append (λ (r : Command × Outcome). r.1) done (row ∷ []), map-append (at_moment at) (map (λ (r : Command × Outcome). r.0) done) (row.0 ∷ []))
      (run_on country books (map (at_moment at) (map (λ (r : Command × Outcome). r.0) done)) (map (λ (r : Command × Outcome). r.1) done) (at_moment at row.0)
      before.0 (view.content old) (view.content new) (view.is_live old) (view.is_live new) before.1 before.2 (is.live clean) row.1 (is.performs clean))

  goes_on : (rows done : List (Command × Outcome)) (old new : D) → LeadTo done old → FoldsTo (IsRowDone view at) old rows new
      → view.is_clean new → LeadTo (done ++ rows) new
  goes_on [] done old new before steps clean = subst (λ l. LeadTo l new) (sym (append-nil done)) (subst (LeadTo done) steps before)
  goes_on (row ∷ rows) done old new before steps clean =
      subst (λ l. LeadTo l new) (append_assoc done (row ∷ []) rows)
      (goes_on rows (done ++ row ∷ []) steps.0 new
      (one_more done row old steps.0 before steps.1 (clean_back view at rows steps.0 new steps.2 clean)) steps.2 clean)

  pub rows_run : (rows : List (Command × Outcome)) (old new : D) → (view.content old).country ≡ country → IsSound (view.content old)
      → IsTied (view.content old) books → FoldsTo (IsRowDone view at) old rows new → view.is_clean new
      → (c : Content) × AreRunTo rows c × (view.is_live new → view.content new ≡ c)
  rows_run rows old new same sound tied steps clean = goes_on rows [] old new (view.content old, none, λ _. refl) steps clean
    where
      none : AreRunTo [] (view.content old)
      none = record {
        one_each = refl;
        answers = λ H. refl;
        nobodys = tt;
        country_stays = same;
        sound = sound;
        tied = record { each = tied.each; grown = tied.grown };
      }
