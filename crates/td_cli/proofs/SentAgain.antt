-- Declarations that were answered are answered so again over what a crash left of their batch.
use Rattle.std.proofs.Common.{◌≡◌, ◌∙◌, inl, inr, ℕ, ℤ, List, [], ◌∷◌, ◌++◌, map, Some, refl, sym, ap}
use Rattle.std.specs.Prelude.{if◌then◌else◌}
use Rattle.std.specs.List.{FoldsTo}
use Rattle.std.proofs.lemmas.List.{length-map, map-append}
use Rattle.td_commands.specs.Commands.{owner_of}
use Rattle.td_commands.specs.declared.command.Command.{Command}
use Rattle.td_commands.specs.declared.said.Answer.{Answer}
use Rattle.td_commands.specs.declared.said.Said.TheVariants.{Answered}
use Rattle.td_model.specs.Book.{Book}
use Rattle.td_model.specs.Machine.{machine_book}
use Rattle.td_desk.specs.declared.running.Outcome.TheVariants as outcome
use Rattle.td_model.specs.Content.{Content, IsSound}
use Rattle.td_desk.specs.Runs.{is_holder, IsTied}
use Rattle.td_desk.specs.View.{DeskView}
use Rattle.td_http.specs.Kept.{books_with}
use Rattle.td_batch.specs.Runs.{IsRowDone}
use Rattle.td_batch.proofs.AnsweredAtDesk.{HasSaid, has_said_at, owner_any, said_again}
use Rattle.td_batch.proofs.RowsRun.{AreRunTo, rows_run}
use Rattle.td_batch.proofs.Told.{machine_book-parts}
use Rattle.td_cli.specs.BatchLaws.{books_after_rows, IsAnsweredAfterCrash, IsAnsweredAmong, IsKeptAfterRows, TriedRow}

module _ (country : List ℕ) (books : ℕ → Book) (at : ℤ) (first : List TriedRow) where
  abbrev then_books : ℕ → Book
  then_books = books_after_rows country books at first

  -- what was answered among the rows is the verdict of its owner's machine
  said_among : {D : Type 0} (view : DeskView D) (c : Content) (H : ℕ) (d : Command) (a : Answer)
      → AreRunTo view at country books first c → IsAnsweredAmong d a first → owner_of country d ≡ Some H
      → HasSaid H at d (Answered a) (books H) (then_books H)
  said_among view c H d a run place own =
      let before = place.0 in
      let after = place.1 in
      let row : TriedRow = (d, outcome.Said (Answered a)) in
      let xs = map (λ (r : TriedRow). r.0) before in
      let os = map (λ (r : TriedRow). r.1) before in
      has_said_at country H at books (map (λ (r : TriedRow). r.0) first) (map (λ (r : TriedRow). r.1) first) c run
      xs d (map (λ (r : TriedRow). r.0) after) os (Answered a) (map (λ (r : TriedRow). r.1) after)
      (ap (map (λ (r : TriedRow). r.0)) place.2 ∙ map-append (λ (r : TriedRow). r.0) before (row ∷ after))
      (ap (map (λ (r : TriedRow). r.1)) place.2 ∙ map-append (λ (r : TriedRow). r.1) before (row ∷ after))
      (length-map before (λ (r : TriedRow). r.1) ∙ sym (length-map before (λ (r : TriedRow). r.0))) own

  pub answered_after_crash : {D E : Type 0} (view : DeskView D) (other : DeskView E)
      (opened between : D) → (view.content opened).country ≡ country → IsSound (view.content opened) → IsTied (view.content opened) books
      → FoldsTo (IsRowDone view at) opened first between → view.is_clean between
      → ((x : Content) → view.may_leave between x → IsKeptAfterRows country books at first x)
      → IsAnsweredAfterCrash view other first between
  answered_after_crash view other opened between same sound tied led clean kept =
      λ later t rows again middle new x H row d a s may came more new_clean middle_live is answered said_more own holder shown since.
      let own_here = owner_any d (other.content middle).country country H is own in
      let run = rows_run view at country books first opened between same sound tied led clean in
      let was = said_among view run.0 H d a run.1 answered own_here in
      elim (kept x may).tied [
        | inl alone ↦ (
            let later_books = came.books then_books alone in
            said_again other at later t rows again middle new H row d a s (books H) (then_books H)
            (λ G. machine_book G (then_books G) (later_books.0 G)) (later_books.0 H) was later_books.1 refl
            came.sound more new_clean middle_live is said_more own holder shown since)
        | inr one ↦ (
            let with_one = books_with country then_books one.0 in
            let added = (if is_holder H (owner_of country one.0.command) then one.0 ∷ [] else []) in
            let later_books = came.books with_one one.2 in
            said_again other at later t rows again middle new H row d a s (books H) (then_books H)
            (λ G. machine_book G (with_one G) (later_books.0 G)) (added ++ later_books.0 H) was later_books.1
            (sym (machine_book-parts H (then_books H) added (later_books.0 H)))
            came.sound more new_clean middle_live is said_more own holder shown since)
      ]
