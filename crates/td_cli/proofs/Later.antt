-- Contents that runs over a file, and crashes of a batch, lead to.
use Rattle.std.proofs.Common.{◌≡◌, ◌⊎◌, ◌∙◌, ℕ, ℤ, List, [], ◌∷◌, ◌++◌, map, refl, sym, ap, subst, inl, inr}
use Rattle.std.specs.Prelude.{if◌then◌else◌, IsTrue}
use Rattle.std.specs.List.{FoldsTo}
use Rattle.sqlite_disk.specs.declared.Disk.{Ghosts}
use Rattle.sqlite_trees.specs.Tree.{Trees}
use Rattle.sqlite.specs.Files.{file_state}
use Rattle.td_commands.specs.Commands.{owner_of}
use Rattle.td_commands.specs.declared.command.Command.{Command}
use Rattle.td_commands.specs.declared.command.Stamped.{Stamped}
use Rattle.td_commands.specs.declared.said.Said.{Said}
use Rattle.td_model.specs.Book.{Book}
use Rattle.td_model.specs.Machine.{machine_book}
use Rattle.td_model.specs.Content.{Content, IsSound}
use Rattle.td_desk.specs.Runs.{heard, is_holder, IsTied}
use Rattle.http_wire.specs.Stream.{Exchange}
use Rattle.td_http.specs.Kept.{books_with, IsKeptIn}
use Rattle.td_http.specs.Private.{heard_over}
use Rattle.td_http.specs.Serving.{commands_of}
use Rattle.td_http.proofs.Kept.{Keeps, tied_as}
use Rattle.td_batch.specs.declared.running.BatchRun.{BatchRun}
use Rattle.td_batch.specs.Laws.{IsLater}
use Rattle.td_batch.specs.Runs.{at_moment, outcomes_of, tried, IsRowDone, IsRunOf}
use Rattle.td_batch.proofs.AgainAtDesk.{clean_back}
use Rattle.td_batch.proofs.Told.{machine_book-parts}
use Rattle.td_files.specs.Found.{FileSeen, IsClean, over_file}
use Rattle.td_cli.specs.BatchLaws.{HasFailedAmong, TriedRow}
use Rattle.td_jobs.specs.Desks.{fresh_books}
use Rattle.td_cli.specs.Runs.{IsRun, OpensAfterCrash}
use Rattle.td_cli.proofs.Desks.{fresh_tied}
use Rattle.td_cli.proofs.KeptRows.{keeps_rows}

-- a sound content is as late as itself
pub as_late : (c : Content) → IsSound c → IsLater c c
as_late c sound = record { country = refl; sound = sound; books = λ books tied. (λ H. [], record { each = tied.each; grown = tied.grown }) }

-- what is later than a later one is later
pub later_still : (before between after : Content) → IsLater before between → IsLater between after → IsLater before after
later_still before between after first second = record {
  country = second.country ∙ first.country;
  sound = second.sound;
  books = λ books tied.
      let one = first.books books tied in
      let two = second.books (λ H. machine_book H (books H) (one.0 H)) one.1 in (
        λ H. one.0 H ++ two.0 H,
        tied_as after (λ H. machine_book H (machine_book H (books H) (one.0 H)) (two.0 H)) (λ H. machine_book H (books H) (one.0 H ++ two.0 H))
            (λ H. sym (machine_book-parts H (books H) (one.0 H) (two.0 H))) two.1,
      );
}

-- what a crash may leave is later, whatever was heard of each holder up to then
pub kept_later : (country : List ℕ) (heard_of : ℕ → List Stamped) (Failed : Stamped → Type 0) (before x : Content) → before.country ≡ country
    → ((books : ℕ → Book) → IsTied before books → IsKeptIn country Failed (λ H. machine_book H (books H) (heard_of H)) x) → IsLater before x
kept_later country heard_of Failed before x same kept =
    let left = kept (fresh_books before) (fresh_tied before) in
    record {
      country = left.country_is ∙ sym same;
      sound = left.sound;
      books = λ books tied. elim (kept books tied).tied [
        | inl is ↦ (heard_of, is)
        | inr one ↦ (
            let added : ℕ → List Stamped = (λ H. if is_holder H (owner_of country one.0.command) then one.0 ∷ [] else []) in (
              λ H. heard_of H ++ added H,
              tied_as x (books_with country (λ H. machine_book H (books H) (heard_of H)) one.0) (λ H. machine_book H (books H) (heard_of H ++ added H))
                  (λ H. sym (machine_book-parts H (books H) (heard_of H) (added H))) one.2,
            ))
      ];
    }

module _ {S : Type 0} {disk : Ghosts S} where
  -- runs of streams
  pub later_by_streams : (country : List ℕ) (opened left : FileSeen disk) (streams : List (List Exchange)) → IsRun country opened streams left
      → IsLater (over_file.content opened) (over_file.content left)
  later_by_streams country opened left streams run =
      let content = over_file.content opened in
      let served = run.private (fresh_books content) (fresh_tied content) in
      record {
        country = served.country_stays ∙ sym run.country_is;
        sound = served.sound;
        books = λ books tied. (λ H. commands_of (heard_over country H streams), (run.private books tied).tied);
      }

  -- a batch that leaves the desk clean found it clean
  pub batch_clean : (line : Command → Said → List ℕ) (header : List ℕ) (at : ℤ) (rows : List Command) (r : BatchRun) (opened left : FileSeen disk)
      → IsRunOf over_file line header at rows r opened left → IsClean left → IsClean opened
  batch_clean line header at rows r opened left (inl none) clean = subst IsClean none.0 clean
  batch_clean line header at rows r opened left (inr is) clean = clean_back over_file at _ opened left is.steps clean

  -- a batch
  pub later_by_batch : (line : Command → Said → List ℕ) (header : List ℕ) (at : ℤ) (rows : List Command) (r : BatchRun) (opened left : FileSeen disk)
      → IsTrue (file_state opened).is_open → IsSound (over_file.content opened) → IsClean left → IsTrue (file_state left).is_open
      → IsRunOf over_file line header at rows r opened left → IsLater (over_file.content opened) (over_file.content left)
  later_by_batch line header at rows r opened left was_live sound clean live (inl none) =
      subst (λ (d : FileSeen disk). IsLater (over_file.content opened) (over_file.content d)) (sym none.0) (as_late (over_file.content opened) sound)
  later_by_batch line header at rows r opened left was_live sound clean live (inr is) =
      let content = over_file.content opened in
      let ended = is.private clean was_live sound (fresh_books content) (fresh_tied content) in
      let same = ended.2 live in
      record {
        country = ap (λ (c : Content). c.country) same ∙ ended.1.country_stays;
        sound = subst IsSound (sym same) ended.1.sound;
        books = λ books tied.
            let told = is.private clean was_live sound books tied in (
              λ H. heard content.country H (map (at_moment at) (tried rows is.said r.stopped)) (outcomes_of is.said r.stopped),
              subst (λ c. IsTied c (λ H. machine_book H (books H) (heard content.country H (map (at_moment at) (tried rows is.said r.stopped)) (outcomes_of is.said r.stopped))))
                  (sym (told.2 live)) told.1.tied,
            );
      }

  -- a batch that a crash cut short
  pub later_by_crash : (country : List ℕ) (at : ℤ) (first : List TriedRow) (opened between : FileSeen disk) (x : Content)
      → (over_file.content opened).country ≡ country
      → ((books : ℕ → Book) → IsTied (over_file.content opened) books → Keeps over_file country (λ s. ⊥) books opened)
      → FoldsTo (IsRowDone over_file at) opened first between → IsClean between → over_file.may_leave between x
      → IsLater (over_file.content opened) x
  later_by_crash country at first opened between x same begins led clean may =
      kept_later country (λ H. heard country H (map (at_moment at) (map (λ (r : TriedRow). r.0) first)) (map (λ (r : TriedRow). r.1) first))
      (λ s. ⊥ ⊎ HasFailedAmong at first s) (over_file.content opened) x same
      (λ books tied. (keeps_rows over_file country at first (λ s. ⊥) books opened between (begins books tied) led clean).left x may)

  -- what is opened after a crash is what the crash may leave
  pub opened_after_crash : (country : List ℕ) (crashed next : FileSeen disk) → OpensAfterCrash country crashed next → over_file.may_leave crashed (over_file.content next)
  opened_after_crash country crashed next opens =
      let begun = opens.begins opens.clean in
      subst (λ (trees : Trees). (file_state crashed).may_leave trees → over_file.may_leave crashed (over_file.content next)) (begun.found.holds opens.trees opens.holds)
      (λ left. ((file_state next).now.trees, left, begun.holds.trees)) opens.left
